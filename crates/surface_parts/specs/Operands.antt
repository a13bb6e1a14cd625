-- The rows of a raster operation's operands.
use Rattle.std.specs.Prelude.{◌≡◌, ℕ, ◌<◌, List, length, get_or, Option, Some, None}

-- a row has 0 at each place
abbrev pub IsBlank : List ℕ → Type 0
IsBlank row = (k : ℕ) → k < length row → get_or row k 0 ≡ 0

-- the row of an operand that is missing is blank
abbrev pub IsReady : {A : Type 0} → Option A → List ℕ → Type 0
IsReady None row = IsBlank row
IsReady (Some operand) row = Unit {0}
