-- Lines of any length, cut from what a source gives.
use Rattle.std.specs.Prelude.{◌≡◌, ℕ, ◌+◌, ◌<◌, Bool, true, false, List, [], ◌∷◌, ◌++◌, ◌==◌, length, take, drop, position, ⊤, Result, Ok, Err}
use Rattle.std.specs.declared.option.Option.{Option}
use Rattle.std.specs.declared.option.Option.TheVariants.{Some, None}
use Rattle.std.specs.Io.KnownBytes.{prepend_known, Keeps, IsAtEnd}
use Rattle.edge_io.specs.Faults.{Rose}
use Rattle.edge_io.specs.declared.source.Got.{Got}
use Rattle.edge_io.specs.declared.source.Got.TheVariants as got
use Rattle.edge_io.specs.Reading.{TakesLine}
use Rattle.wire_num.specs.declared.out_of_memory.OutOfMemory.{OutOfMemory}
use Rattle.capture_show.specs.declared.long_lines.Cut.{Cut}
use Rattle.capture_show.specs.declared.long_lines.Cut.TheVariants as cut

-- the text of a line so far, and the bytes behind it that were read already
pub record LongReading : Type 0 where
  pub text : List ℕ
  pub unread : List ℕ

-- the bytes from the line's first one on, where the source tells what it has left
abbrev pub with_text : LongReading → Option (List ℕ) → Option (List ℕ)
with_text reading left = prepend_known (reading.text ++ reading.unread) left

-- the bytes behind the line
abbrev pub behind : LongReading → Option (List ℕ) → Option (List ℕ)
behind reading left = prepend_known reading.unread left

-- the bytes up to the first line feed came to the text, and the line feed was taken
pub record MovesLine (old new : LongReading) : Type 0 where
  pub count : ℕ
  pub found : Some count ≡ position (λ b. b == 10) old.unread
  pub text : new.text ≡ old.text ++ take count old.unread
  pub rest : new.unread ≡ drop (count + 1) old.unread

-- no line feed was there, and all the bytes came to the text
pub record MovesAll (old new : LongReading) : Type 0 where
  pub missing : None ≡ position (λ b. b == 10) old.unread
  pub text : new.text ≡ old.text ++ old.unread
  pub rest : new.unread ≡ []

abbrev pub Moves : Bool → LongReading → LongReading → Type 0
Moves true old new = MovesLine old new
Moves false old new = MovesAll old new

-- bytes were read behind the text
pub record Refills (old new : LongReading) (left rest : Option (List ℕ)) : Type 0 where
  pub text : new.text ≡ old.text
  pub keeps : Keeps left (prepend_known new.unread rest)

abbrev pub MoreCame : Got → LongReading → Option (List ℕ) → Option (List ℕ) → Type 0
MoreCame (got.Bytes n) new left rest = (n ≡ length new.unread) × (0 < n)
MoreCame got.End new left rest = (new.unread ≡ []) × (IsAtEnd left × Keeps left rest)
MoreCame got.Failed new left rest = new.unread ≡ []

-- bytes without a line feed
abbrev pub HasNoFeed : List ℕ → Type 0
HasNoFeed [] = ⊤
HasNoFeed (b ∷ bytes) = ((b == 10) ≡ false) × HasNoFeed bytes

-- the front of a line is lost, and the rest of it stands ahead
pub record LosesFront (before now : Option (List ℕ)) : Type 0 where
  pub lost : List ℕ
  pub of_line : HasNoFeed lost
  pub keeps : Keeps before (prepend_known lost now)

-- the next line was taken, and its text stands in the reader; or none is left; a failed read loses what was read of the line in which it came
abbrev pub Cuts : Cut → LongReading → (before now rest : Option (List ℕ)) → Type 0
Cuts cut.Ended new before now rest = TakesLine before now (record { text = new.text; ended = true })
Cuts cut.Unended new before now rest = TakesLine before now (record { text = new.text; ended = false })
Cuts cut.End new before now rest = IsAtEnd before × Keeps before rest
Cuts cut.Failed new before now rest = LosesFront before now

-- a read fails only where the count of faults rose, and any other answer leaves it
abbrev pub CutCause : Result Cut OutOfMemory → ℕ → ℕ → Type 0
CutCause (Ok cut.Ended) before now = now ≡ before
CutCause (Ok cut.Unended) before now = now ≡ before
CutCause (Ok cut.End) before now = now ≡ before
CutCause (Ok cut.Failed) before now = Rose before now
CutCause (Err fault) before now = now ≡ before
