-- Lists of entries that only grow, and the places of entries in them.
use Rattle.std.specs.Prelude.{◌≡◌, ℕ, ◌-◌, List, ◌++◌, length, Contains, nat_lt, if◌then◌else◌}
use Rattle.std.specs.List.{range_with_len}

-- the list begins with this one
abbrev pub StartsWith : {E : Type 0} → List E → List E → Type 0
StartsWith {E} list front = (more : List E) × (list ≡ front ++ more)

-- no place is in both
abbrev pub IsDisjoint : List ℕ → List ℕ → Type 0
IsDisjoint places others = (n : ℕ) → Contains places n → Contains others n → ⊥

-- the longer of two lists, and the first where they are as long
abbrev pub longer : {E : Type 0} → List E → List E → List E
longer xs ys = if nat_lt (length xs) (length ys) then ys else xs

-- the places of what a list has beyond its first entries
abbrev pub added_places : {E : Type 0} → List E → List E → List ℕ
added_places before list = range_with_len (length before) (length list - length before)
