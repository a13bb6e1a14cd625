-- Lines of ASCII text, each ended by a line feed, and the limits of a script (profile).
use Rattle.std.specs.Prelude.{ℕ, ◌+◌, ◌==◌, nat_lt, Bool, true, false, ◌||◌, List, [], ◌∷◌, ◌++◌, length, if◌then◌else◌}
use Rattle.std.specs.List.{slice_split}

-- the line feed
abbrev pub line_feed : ℕ
line_feed = 10

-- a line's bytes before its line feed, and whether it has one
pub record Line : Type 0 where
  pub text : List ℕ
  pub ended : Bool

-- a line as it stands among the bytes
abbrev pub line_bytes : Line → List ℕ
line_bytes line = line.text ++ (if line.ended then line_feed ∷ [] else [])

-- what stands after the last line feed is a line of its own, which isn't ended, unless it is empty
abbrev pub last_line : List ℕ → List Line
last_line [] = []
last_line (b ∷ bs) = record { text = b ∷ bs; ended = false } ∷ []

-- each part but the last was ended by a line feed
abbrev pub lines_of_parts : List (List ℕ) → List Line
lines_of_parts [] = []
lines_of_parts (last ∷ []) = last_line last
lines_of_parts (part ∷ next ∷ parts) = record { text = part; ended = true } ∷ lines_of_parts (next ∷ parts)

-- the lines of a text, in order
abbrev pub lines_of : List ℕ → List Line
lines_of bytes = lines_of_parts (slice_split (λ b. b == line_feed) bytes)

-- the most bytes of a line, its line feed not counted
abbrev pub line_limit : ℕ
line_limit = 32768

-- the most bytes of a script
abbrev pub script_limit : ℕ
script_limit = 268435456

-- a line that begins at this place of a script is longer than a line may be, or has a byte past the script's limit,
-- its line feed counted
abbrev pub is_past_limits : ℕ → Line → Bool
is_past_limits at line = nat_lt line_limit (length line.text) || nat_lt script_limit (at + length (line_bytes line))
