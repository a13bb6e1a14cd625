-- What contracts see of the desk of a viewer's pointer.
use Rattle.std.specs.Prelude.{◌≡◌, ℕ, ◌<◌, ◌≤◌, ◌/◌, ◌%◌, Bool, List, [], Option, Some, None, Vec, ⊤}
use Rattle.caps_sets.specs.declared.confirmed.Confirmed.{Confirmed}
use Rattle.caps_sets.specs.Confirmed.{pointer_cells}
use Rattle.cache_plan.specs.Kept.{Kept}
use Rattle.cache_plan.specs.Answers.{IsAfterUses}
use Rattle.frame_rules.specs.Told.{last_told, bytes_told}

-- whether the viewer's shapes are wide, its cache as it is kept here, the key that was told last, and the key that was noted last
pub record DeskOf : Type 0 where
  pub wide : Bool
  pub cache : Kept
  pub told : Option ℕ
  pub noted : ℕ

-- the desk is where these told keys lead
pub record HasTold (d : DeskOf) (keys : List ℕ) : Type 0 where
  pub cache : IsAfterUses d.cache keys
  pub told : d.told ≡ last_told keys

-- a key of a holder's number modulo 16 and a code
abbrev pub IsKey : ℕ → Type 0
IsKey key = (key / 256 < 16) × (key % 256 ≤ 126)

-- a desk of so many cells that told nothing; what it would tell is the pointer of a session that nobody joined
pub record IsNew (wide : Bool) (cells : ℕ) (d : DeskOf) : Type 0 where
  pub form : d.wide ≡ wide
  pub entries : d.cache.entries ≡ cells
  pub nothing : HasTold d []
  pub noted : d.noted ≡ 0

-- the bytes of a packet, where there is one
abbrev pub packet_bytes : {Z : Type 0} → Option (Vec ℕ Z) → Option (List ℕ)
packet_bytes None = None
packet_bytes (Some packet) = Some packet.items

-- ---- the desk of a viewer, if it has one

-- the desk has the viewer's cells, its shapes have the viewer's width, and it is where these told keys lead
pub record ServesViewer (c : Confirmed) (keys : List ℕ) (d : DeskOf) : Type 0 where
  pub cells : 0 < pointer_cells c
  pub entries : d.cache.entries ≡ pointer_cells c
  pub form : d.wide ≡ c.cautious
  pub told : HasTold d keys

-- the desk of a viewer that confirmed this, which was told these keys, the latest first; only one without pointer cells has none
abbrev pub IsDeskOf : Confirmed → List ℕ → Option DeskOf → Type 0
IsDeskOf c told None = pointer_cells c ≡ 0
IsDeskOf c told (Some d) = ServesViewer c told d

-- this key was noted last
abbrev pub IsNoted : Option DeskOf → ℕ → Type 0
IsNoted None key = ⊤
IsNoted (Some d) key = d.noted ≡ key

-- the same after a key was noted
abbrev pub noted_with : ℕ → Option DeskOf → Option DeskOf
noted_with key None = None
noted_with key (Some d) = Some (record d { noted = key })

-- the bytes of a packet, none where there is no packet
abbrev pub bytes_of : {Z : Type 0} → Option (Vec ℕ Z) → List ℕ
bytes_of packet = bytes_told (packet_bytes packet)
