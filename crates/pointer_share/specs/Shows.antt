-- That each take shows its pointer, whatever was told before.
use Rattle.std.specs.Prelude.{◌≡◌, ℕ, Bool, List, [], ◌∷◌, length, Option, Some, None, Result, Ok, Err, ⊤}
use Rattle.frame_laws.proofs.CacheHeld.{Holds}
use Rattle.frame_rules.specs.Pointers.{Shape, key_shape}
use Rattle.pointer_share.specs.declared.fault.Cause.{Cause}
use Rattle.frame_rules.specs.Told.{told_packet, told_after}
use Rattle.pointer_share.specs.Views.{View, view_fed}

abbrev pub IsLastShown : Bool → List ℕ → Option Shape → Type 0
IsLastShown wide [] shown = ⊤
IsLastShown wide (k ∷ keys) shown = shown ≡ Some (key_shape wide k)

-- the told keys describe a viewer: each held key's entry has its shape, and the one told last is shown
pub record DescribesPointers (wide : Bool) (cells : ℕ) (keys : List ℕ) (v : View) : Type 0 where
  pub entries : length v.cells ≡ cells
  pub holds : Holds (key_shape wide) (λ k. Some k) cells keys v.cells
  pub last : IsLastShown wide keys v.shown

abbrev pub its_view : Result (View × Bool) (Cause × ℕ) → Result View (Cause × ℕ)
its_view (Ok fed) = Ok fed.0
its_view (Err e) = Err e

-- a view after the packet that is told before a frame, if any
abbrev pub view_told : Bool → View → Option (List ℕ) → Result View (Cause × ℕ)
view_told wide v None = Ok v
view_told wide v (Some packet) = its_view (view_fed wide v packet)

-- a take whose pointer has this key: the packet that is told is read, the pointer's shape is shown then, and the told keys describe the viewer after it
pub record ShowsPointer (wide : Bool) (cells : ℕ) (keys : List ℕ) (key : ℕ) (v : View) : Type 0 where
  pub after : View
  pub reads : view_told wide v (told_packet wide cells keys key) ≡ Ok after
  pub shows : after.shown ≡ Some (key_shape wide key)
  pub describes : DescribesPointers wide cells (told_after keys key) after
