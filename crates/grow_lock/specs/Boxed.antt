-- The lock keeps its value in a box, so that only a handle of it moves.
use Rattle.std.specs.Prelude.{ℕ, List, [], ◌∷◌, Option, Some, None, Box, box_value}

-- what a function of the value gives for its box
abbrev pub boxed : {T A R : Type 0} → (T → R) → Box T A → R
boxed of home = of (box_value home)

-- the value whose box is in the slot that the seat took last
abbrev pub carried_value : {T A : Type 0} → List (ℕ × Option (Box T A)) → Option T
carried_value [] = None
carried_value ((slot, None) ∷ slots) = None
carried_value ((slot, Some home) ∷ slots) = Some (box_value home)
