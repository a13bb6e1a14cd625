-- A reader that cuts the bytes of a source into lines.
use Rattle.std.specs.Prelude.{◌≡◌, ℕ, Bool, true, false, List, [], ◌∷◌, ◌++◌, ⊤}
use Rattle.std.specs.declared.option.Option.{Option}
use Rattle.std.specs.declared.option.Option.TheVariants.{Some, None}
use Rattle.std.specs.Io.KnownBytes.{prepend_known, Consumes}
use Rattle.line_text.specs.Lines.{Line, line_bytes, lines_of, is_past_limits}

-- the bytes that were read and not yet handed out, the text of the last line that was, and how many bytes were handed out
pub record LineReading : Type 0 where
  pub held : List ℕ
  pub text : List ℕ
  pub at : ℕ

-- a reader before any call
abbrev pub new_reading : LineReading
new_reading = record { held = []; text = []; at = 0 }

-- the bytes not yet handed out, where the source tells what it has left
abbrev pub ahead : LineReading → Option (List ℕ) → Option (List ℕ)
ahead reading left = prepend_known reading.held left

-- the lines that were handed out, and those of the bytes now ahead, are the lines of the bytes that were ahead
abbrev pub HandsOut : Option (List ℕ) → Option (List ℕ) → List Line → Type 0
HandsOut None now lines = ⊤
HandsOut (Some bytes) None lines = ⊥
HandsOut (Some bytes) (Some rest) lines = lines_of bytes ≡ lines ++ lines_of rest

-- these are all lines of the bytes
abbrev pub AreAllLines : Option (List ℕ) → List Line → Type 0
AreAllLines None lines = ⊤
AreAllLines (Some bytes) lines = lines_of bytes ≡ lines

-- a line was taken from the front of the bytes ahead
pub record TakesLine (before now : Option (List ℕ)) (line : Line) : Type 0 where
  pub consumes : Consumes before now (line_bytes line)
  pub hands_out : HandsOut before now (line ∷ [])

-- whether the first of these lines, which begins at this place, is past the limits
abbrev pub first_is_past : ℕ → List Line → Bool
first_is_past at [] = false
first_is_past at (line ∷ lines) = is_past_limits at line

-- the first line of the bytes ahead is past the limits
abbrev pub IsPastLimits : ℕ → Option (List ℕ) → Type 0
IsPastLimits at None = ⊤
IsPastLimits at (Some bytes) = first_is_past at (lines_of bytes) ≡ true
