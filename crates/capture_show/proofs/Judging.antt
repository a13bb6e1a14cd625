-- What a line tells that was taken and judged.
use Rattle.std.proofs.Common.{◌≡◌, ◌∙◌, ◌+◌, ◌-◌, ◌^◌, min, ℕ, List, Result, Ok, Err, IfOk, arith}
use Rattle.std.specs.declared.option.Option.{Option}
use Rattle.line_text.specs.Lines.{Line}
use Rattle.edge_io.specs.Reading.{TakesLine}
use Rattle.capture_show.specs.declared.capture_reader.Told.{Told}
use Rattle.capture_show.specs.declared.capture_reader.Told.TheVariants as told
use Rattle.capture_show.specs.Reading.{CaptureReading, JudgesLine, Finds, FindCause, IsAnswer, StandsBefore, counted}
use Rattle.wire_num.specs.declared.out_of_memory.OutOfMemory.{OutOfMemory}
use Rattle.std.specs.Io.KnownBytes.{prepend_known}
use Rattle.capture_show.specs.Long.{LosesFront}
use Rattle.capture_show.specs.Reading.{ahead}

-- a line that was taken and judged was found
pub finds_judged : (answer : Told) (k : ℕ) (joined : List ℕ) (old between new : CaptureReading) (before now rest : Option (List ℕ)) (line : Line) → TakesLine before now line →
    between.viewer ≡ old.viewer → JudgesLine answer k joined between new line → Finds answer k joined old new before now rest
finds_judged (told.Joined size confirmed) k joined old between new before now rest line takes same j = record { line = line; takes = takes; allows = rw same at j.judges; after = j.after; viewer = j.viewer ∙ same }
finds_judged told.Bytes k joined old between new before now rest line takes same j = record { line = line; takes = takes; allows = rw same at j.judges; after = j.after; viewer = j.viewer ∙ same }
finds_judged told.Other k joined old between new before now rest line takes same j = record { line = line; takes = takes; allows = rw same at j.judges; after = j.after; viewer = j.viewer ∙ same }
finds_judged (told.Broken n) k joined old between new before now rest line takes same j = (record { line = line; takes = takes; breaks = j.judges.0; after = record { line = j.after; joined_are = j.judges.1.1 }; viewer = j.viewer ∙ same }, j.judges.1.0)
finds_judged told.End k joined old between new before now rest line takes same j = absurd j.judges
finds_judged told.Failed k joined old between new before now rest line takes same j = absurd j.judges

-- a line that was read leaves the count of faults
pub cause_is : (r : Result Told OutOfMemory) (n m : ℕ) → IfOk r IsAnswer → m ≡ n → FindCause r n m
cause_is (Ok (told.Joined size confirmed)) n m answer same = same
cause_is (Ok told.Bytes) n m answer same = same
cause_is (Ok told.Other) n m answer same = same
cause_is (Ok (told.Broken k)) n m answer same = same
cause_is (Ok told.End) n m answer same = absurd answer
cause_is (Ok told.Failed) n m answer same = absurd answer
cause_is (Err fault) n m answer same = same

-- what was found where the line that was taken was judged
pub finds_after : (r : Result Told OutOfMemory) (old between new : CaptureReading) (before rest : Option (List ℕ)) (unread : List ℕ) (line : Line) → TakesLine before (prepend_known unread rest) line →
    between.viewer ≡ old.viewer → new.unread ≡ unread → ((k : ℕ) (joined : List ℕ) → StandsBefore k joined old → StandsBefore k joined between) →
    IfOk r (λ answer. (k : ℕ) (joined : List ℕ) → StandsBefore k joined between → JudgesLine answer k joined between new line) →
    IfOk r (λ answer. (k : ℕ) (joined : List ℕ) → StandsBefore k joined old → Finds answer k joined old new before (ahead new rest) rest)
finds_after (Err fault) old between new before rest unread line takes same read stands judged = tt
finds_after (Ok answer) old between new before rest unread line takes same read stands judged = λ k joined s.
    finds_judged answer k joined old between new before (ahead new rest) rest line (rw read takes) same (judged k joined (stands k joined s))

-- the number of the next line
pub next_number : (line next k : ℕ) → line ≡ counted k → next ≡ min (line + 1) (2 ^ 64 - 1) → next ≡ counted (k + 1)
next_number line next k is after = omega (arith, is, after)

-- a failed read leaves the number of the line
pub loses_part : (old new : CaptureReading) (before now rest : Option (List ℕ)) → LosesFront before now → new.viewer ≡ old.viewer → new.line ≡ old.line → new.joined ≡ old.joined →
    (k : ℕ) (joined : List ℕ) → StandsBefore k joined old → Finds told.Failed k joined old new before now rest
loses_part old new before now rest loses viewer line flags k joined s = record { loses = loses; stands = record { line = line ∙ s.line; joined_are = rw flags s.joined_are }; viewer = viewer }
