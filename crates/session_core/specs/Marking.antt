-- Marks of tiles and of slots: of each the number of entries up to the last one that touched it, or saved into it.
use Rattle.std.specs.Prelude.{◌≡◌, ℕ, ◌≤◌, nat_lt, Bool, List, length, get_or, replicate, if◌then◌else◌}
use Rattle.px_core.specs.declared.surface.Size.{Size}
use Rattle.session_rules.specs.declared.entry.Entry.{Entry}
use Rattle.session_rules.specs.Pending.{Pending, pending_between}
use Rattle.session_core.specs.Touching.{touched_by, saved_by}

-- the mark of each tile and of each slot; 0 where no entry touched it, or saved into it
pub record Marked : Type 0 where
  pub tiles : List ℕ
  pub slots : List ℕ

abbrev pub unmarked : Marked
unmarked = record { tiles = replicate 1024 0; slots = replicate 16 0 }

-- the marks that a list keeps, and 0 past its end
abbrev pub marks_in : List ℕ → ℕ → ℕ
marks_in numbers k = get_or numbers k 0

-- the members of a set get a mark
abbrev pub noted : (ℕ → Bool) → ℕ → (ℕ → ℕ) → ℕ → ℕ
noted set number marks k = if set k then number else marks k

-- what some drawings touch and save into got a mark
pub record AreNoted (size : Size) (ps : List Pending) (number : ℕ) (old new : Marked) : Type 0 where
  pub tiles : marks_in new.tiles ≡ noted (touched_by size ps) number (marks_in old.tiles)
  pub slots : marks_in new.slots ≡ noted (saved_by ps) number (marks_in old.slots)

-- what is marked by an entry behind the first so many
abbrev pub past : ℕ → List ℕ → ℕ → Bool
past before marks k = nat_lt before (marks_in marks k)

-- the marks tell, for each front of a journal, what the drawings behind it touch and save into
pub record AreMarked (size : Size) (j : List Entry) (m : Marked) : Type 0 where
  pub tiles : (before tile : ℕ) → before ≤ length j → touched_by size (pending_between size j before (length j)) tile ≡ past before m.tiles tile
  pub slots : (before slot : ℕ) → before ≤ length j → saved_by (pending_between size j before (length j)) slot ≡ past before m.slots slot
