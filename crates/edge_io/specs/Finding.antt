-- What a call of a line reader finds.
use Rattle.std.specs.Prelude.{◌≡◌, ℕ, ◌+◌, ◌<◌, ◌≤◌, ◌==◌, true, false, List, [], length, drop, position, ⊤}
use Rattle.std.specs.declared.option.Option.{Option}
use Rattle.std.specs.declared.option.Option.TheVariants.{None}
use Rattle.std.specs.Io.KnownBytes.{Keeps, IsAtEnd}
use Rattle.edge_io.specs.Faults.{Rose}
use Rattle.edge_io.specs.declared.source.Got.{Got}
use Rattle.edge_io.specs.declared.source.Got.TheVariants as got
use Rattle.line_text.specs.Lines.{Line, line_bytes, line_limit, is_past_limits}
use Rattle.edge_io.specs.declared.reader.Found.{Found}
use Rattle.edge_io.specs.declared.reader.Found.TheVariants as found
use Rattle.edge_io.specs.Reading.{LineReading, TakesLine, IsPastLimits}

-- a line within the limits was handed out
pub record FindsLine (old new : LineReading) (before now : Option (List ℕ)) (line : Line) : Type 0 where
  pub text : new.text ≡ line.text
  pub at : new.at ≡ old.at + length (line_bytes line)
  pub within : is_past_limits old.at line ≡ false
  pub takes : TakesLine before now line

-- nothing was handed out
pub record FindsNone (old new : LineReading) (before now : Option (List ℕ)) : Type 0 where
  pub text : new.text ≡ []
  pub at : new.at ≡ old.at
  pub keeps : Keeps before now

-- what was found, of the bytes ahead: the first line; that it is past the limits; that there is none; or a fault
abbrev pub Finds : Found → LineReading → LineReading → Option (List ℕ) → Option (List ℕ) → Type 0
Finds (found.Line ended) old new before now = FindsLine old new before now (record { text = new.text; ended = ended })
Finds found.PastLimits old new before now = FindsNone old new before now × IsPastLimits old.at before
Finds found.End old new before now = FindsNone old new before now × IsAtEnd before
Finds found.Failed old new before now = FindsNone old new before now

-- it fails only where the count of faults rose, and any other answer leaves it
abbrev pub FindCause : Found → ℕ → ℕ → Type 0
FindCause (found.Line ended) before now = now ≡ before
FindCause found.PastLimits before now = now ≡ before
FindCause found.End before now = now ≡ before
FindCause found.Failed before now = Rose before now

-- what a reader did that was to hand out a line of these bytes at the front of those it holds
abbrev pub HandsLine : Found → LineReading → LineReading → Line → Type 0
HandsLine (found.Line ended) old new line = (ended ≡ line.ended) × (new.text ≡ line.text) × (new.at ≡ old.at + length (line_bytes line))
    × (is_past_limits old.at line ≡ false) × (new.held ≡ drop (length (line_bytes line)) old.held)
HandsLine found.PastLimits old new line = (new ≡ old) × (is_past_limits old.at line ≡ true)
HandsLine found.End old new line = ⊥
HandsLine found.Failed old new line = ⊥

-- what a reader holds is a part of a line, and it shows no line any more
abbrev pub HoldsPart : (old new : LineReading) → Type 0
HoldsPart old new = (new.at ≡ old.at) × (new.text ≡ []) × (new.held ≡ old.held) × (position (λ b. b == 10) new.held ≡ None) × (length new.held ≤ line_limit)

-- what a reader holds after it has read once more
abbrev pub Fills : Got → LineReading → LineReading → Type 0
Fills (got.Bytes n) old new = length old.held < length new.held
Fills got.End old new = new.held ≡ old.held
Fills got.Failed old new = new.held ≡ old.held

-- a source that told its end had nothing left
abbrev pub EndsAt : Got → Option (List ℕ) → Option (List ℕ) → Type 0
EndsAt (got.Bytes n) old new = ⊤
EndsAt got.End old new = IsAtEnd old × Keeps old new
EndsAt got.Failed old new = ⊤
