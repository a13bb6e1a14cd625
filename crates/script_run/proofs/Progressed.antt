-- How far lines were done, and then one more line.
use Rattle.std.proofs.Common.{◌≡◌, ℕ, List, ◌++◌, suc, ◌+◌, ◌-◌, ◌^◌, ◌<◌, length, Some, None, Bool, true, false, subst, arith}
use Rattle.std.specs.Prelude.{Option, Result, Ok, Err, if◌then◌else◌}
use Rattle.std.specs.Io.KnownBytes.{Keeps}
use Rattle.std.proofs.KnownBytes.{Appends-kept}
use Rattle.line_text.specs.Lines.{lines_of, script_limit}
use Rattle.frame_rules.specs.Encoder.{Encoder}
use Rattle.script_rules.specs.Script.{LineRefusal, ScriptReading}
use Rattle.script_rules.specs.CaptureText.{Run}
use Rattle.script_run.specs.declared.fault.ScriptFault.{ScriptFault}
use Rattle.script_run.specs.declared.fault.ScriptFault.TheVariants as fault
use Rattle.script_run.specs.Held.{Grows, IsFrontOf}
use Rattle.script_run.specs.Run.{ReadsCause, WritesCause, Tells, refusal_at}
use Rattle.script_run.specs.Steps.{HoldsNone, IsWriteFault}
use Rattle.script_run.specs.Reading.{Moment, moment, ahead_of, WroteSomeLines, WroteAllLines, WroteDoneLines, StopsInALine}
use Rattle.script_run.specs.Standing.{Seen, Stands, IsInCourse}
use Rattle.script_run.specs.Writing.{ByLines, Writing, IsSteady}
use Rattle.script_run.specs.Progress.{NextLineDone, LinesDoneSoFar, AllLinesDone}
use Rattle.script_run.proofs.Held.{front_later, not_empty}
use Rattle.script_run.proofs.Cut.{cut_short, all_stop}
use Rattle.script_run.proofs.Continued.{some_and_then_some, some_and_then_all, ends_later, stops_later, reading_later}

-- a line was done behind those that were
pub done_further : (made : Writing) → (goes_on : Bool) (whole : ByLines) (k : ℕ) (stands next : ScriptReading → Run Encoder → Type 0) (told : Option (List ℕ)) (before between now : Moment)
    (done : LinesDoneSoFar made true whole k stands before between)
    → NextLineDone made (Ok goes_on) (made.from (k + 1) between.reading.at done.2.r done.2.run) (k + 1) next told between now
    → LinesDoneSoFar made goes_on whole (k + 1) next before now
done_further made true whole k stands next told before between now done d = (
  omega (arith, done.0, d.0),
  d.1,
  record { r = d.2.r; run = d.2.run; standing = d.2.standing; wrote = some_and_then_some whole _ _ before between now done.2.wrote d.2.wrote },
)
done_further made false whole k stands next told before between now done d = (
  ends_later (ahead_of before) (ahead_of between) (ahead_of now) done.2.wrote.lines done.2.wrote.takes d.0,
  some_and_then_all whole _ _ before between now done.2.wrote d.1,
)

-- the first of these lines was done
pub done_at_first : (made : Writing) → (goes_on : Bool) (whole : ByLines) (stands : ScriptReading → Run Encoder → Type 0) (told : Option (List ℕ)) (before now : Moment)
    → NextLineDone made (Ok goes_on) whole 2 stands told before now
    → LinesDoneSoFar made goes_on whole 2 stands before now
done_at_first made true whole stands told before now d = (omega (arith, d.0), d.1, d.2)
done_at_first made false whole stands told before now d = d

-- a front was written of what a run would have come to that stopped in a line
pub stopped_short : (whole : ByLines) (told text : Option (List ℕ)) (before now : Moment) → IsSteady whole → Grows before.told told
    → StopsInALine whole before (moment now.reading now.left text) → IsFrontOf told now.told text → StopsInALine whole before now
stopped_short whole told text before now s g d f =
    cut_short (ahead_of before) before.told now.told text whole s d (front_later before.told told now.told text g f)

-- a line behind those that were done ended the run
pub ended_at_last : (made : Writing) → (answer : ScriptFault) (whole : ByLines) (k : ℕ) (stands next : ScriptReading → Run Encoder → Type 0) (told : Option (List ℕ)) (before between now : Moment)
    → IsSteady whole → Grows before.told told → (done : LinesDoneSoFar made true whole k stands before between)
    → NextLineDone made (Err answer) (made.from (k + 1) between.reading.at done.2.r done.2.run) (k + 1) next told between now → AllLinesDone (Err answer) whole before now
ended_at_last made (fault.Line line rule) whole k stands next told before between now s g done d = some_and_then_all whole _ _ before between now done.2.wrote d.1
ended_at_last made fault.ReadFault whole k stands next told before between now s g done d = reading_later whole _ before between now done.2.wrote d
ended_at_last made fault.WriteFault whole k stands next told before between now s g done d =
    stopped_short whole told d.text before now s g (stops_later whole _ before between (moment now.reading now.left d.text) done.2.wrote d.stops) d.front
ended_at_last made fault.OutOfMemory whole k stands next told before between now s g done d =
    stopped_short whole told d.text before now s g (stops_later whole _ before between (moment now.reading now.left d.text) done.2.wrote d.stops) d.front

-- the first of these lines ended the run
pub ends_at_first : (made : Writing) → (answer : ScriptFault) (whole : ByLines) (k : ℕ) (stands : ScriptReading → Run Encoder → Type 0) (before now : Moment) → IsSteady whole
    → NextLineDone made (Err answer) whole k stands before.told before now → AllLinesDone (Err answer) whole before now
ends_at_first made (fault.Line line rule) whole k stands before now s d = d.1
ends_at_first made fault.ReadFault whole k stands before now s d = d
ends_at_first made fault.WriteFault whole k stands before now s d = cut_short (ahead_of before) before.told now.told d.text whole s d.stops d.front
ends_at_first made fault.OutOfMemory whole k stands before now s d = cut_short (ahead_of before) before.told now.told d.text whole s d.stops d.front

-- all lines were done behind those that were
pub all_after : (result : Result (Unit {0}) ScriptFault) (whole rest : ByLines) (before between now : Moment) → WroteSomeLines whole rest before between
    → AllLinesDone result rest between now → AllLinesDone result whole before now
all_after (Ok x) whole rest before between now g d =
    (ends_later (ahead_of before) (ahead_of between) (ahead_of now) g.lines g.takes d.0, some_and_then_all whole rest _ before between now g d.1)
all_after (Err (fault.Line line rule)) whole rest before between now g d = some_and_then_all whole rest _ before between now g d
all_after (Err fault.ReadFault) whole rest before between now g d = reading_later whole rest before between now g d
all_after (Err fault.WriteFault) whole rest before between now g d = stops_later whole rest before between now g d
all_after (Err fault.OutOfMemory) whole rest before between now g d = stops_later whole rest before between now g d

-- ---- the loop over the lines

pub has_room : (made : Writing) → (goes_on : Bool) (whole : ByLines) (k : ℕ) (stands : ScriptReading → Run Encoder → Type 0) (before now : Moment) → LinesDoneSoFar made goes_on whole k stands before now → goes_on ≡ true
    → k + 1 < 2 ^ 32
has_room made true whole k stands before now done is = omega (arith, done.0, done.1)
has_room made false whole k stands before now done is = absurd (cc is)

pub in_course : (made : Writing) (goes_on : Bool) (whole : ByLines) (k : ℕ) (seen : Seen) (keeps : ScriptReading → Run Encoder → Type 0) (before now : Moment)
    → LinesDoneSoFar made goes_on whole k (Stands seen keeps) before now → goes_on ≡ true → IsInCourse keeps
in_course made true whole k seen keeps before now done is = record { r = done.2.r; run = done.2.run; standing = done.2.standing.kept }
in_course made false whole k seen keeps before now done is = absurd (cc is)

shorter_by : (made : Writing) → (more : Bool) (rest : ByLines) (k : ℕ) (stands : ScriptReading → Run Encoder → Type 0) (told : Option (List ℕ)) (between now : Moment)
    → NextLineDone made (Ok more) rest k stands told between now
    → (if more then suc (script_limit - now.reading.at) else 0) < suc (script_limit - between.reading.at)
shorter_by made true rest k stands told between now d = omega (arith, d.0, d.1)
shorter_by made false rest k stands told between now d = omega arith

pub shorter : (made : Writing) → (goes_on more : Bool) (rest : ByLines) (k : ℕ) (stands : ScriptReading → Run Encoder → Type 0) (told : Option (List ℕ)) (between now : Moment) → goes_on ≡ true
    → NextLineDone made (Ok more) rest k stands told between now
    → (if more then suc (script_limit - now.reading.at) else 0) < (if goes_on then suc (script_limit - between.reading.at) else 0)
shorter made true more rest k stands told between now is d = shorter_by made more rest k stands told between now d
shorter made false more rest k stands told between now is d = absurd (cc is)

-- ---- the causes of a fault, of whatever it is the answer

pub reads_on : (answer : ScriptFault) (before now : ℕ) → ReadsCause {T = Bool} (Err answer) before now → ReadsCause {T = Unit {0}} (Err answer) before now
reads_on (fault.Line line rule) before now cause = cause
reads_on fault.ReadFault before now cause = cause
reads_on fault.WriteFault before now cause = cause
reads_on fault.OutOfMemory before now cause = cause

pub writes_on : (answer : ScriptFault) (before now : ℕ) → WritesCause {T = Bool} (Err answer) before now → WritesCause {T = Unit {0}} (Err answer) before now
writes_on (fault.Line line rule) before now cause = cause
writes_on fault.ReadFault before now cause = cause
writes_on fault.WriteFault before now cause = cause
writes_on fault.OutOfMemory before now cause = cause

-- ---- what was held back was written at the end

stops_kept : (ahead told mid telling : Option (List ℕ)) (whole : ByLines) → Keeps mid telling → Tells ahead (λ bytes. WroteDoneLines whole (lines_of bytes) told mid)
    → Tells ahead (λ bytes. WroteDoneLines whole (lines_of bytes) told telling)
stops_kept None told mid telling whole k d = tt
stops_kept (Some bytes) told mid telling whole k d = record {
  done = d.done;
  rest = d.rest;
  front = d.front;
  are_first = d.are_first;
  written = Appends-kept told mid telling (whole.so_far d.done ++ d.front) d.written k;
  is_front = d.is_front;
}

all_kept : (whole : ByLines) (refused : Option LineRefusal) (before now : Moment) (telling : Option (List ℕ)) → Keeps now.told telling
    → WroteAllLines whole refused before now → WroteAllLines whole refused before (moment now.reading now.left telling)
all_kept whole refused before now telling k d = record {
  text = d.text;
  written = Appends-kept before.told now.told telling d.text d.written k;
  gives = d.gives;
}

-- all of it
pub all_flushed : (result : Result (Unit {0}) ScriptFault) (whole : ByLines) (before now : Moment) (telling : Option (List ℕ)) → Keeps now.told telling
    → AllLinesDone result whole before now → AllLinesDone result whole before (moment now.reading now.left telling)
all_flushed (Ok x) whole before now telling k d = (d.0, all_kept whole None before now telling k d.1)
all_flushed (Err (fault.Line line rule)) whole before now telling k d = all_kept whole (refusal_at line rule) before now telling k d
all_flushed (Err fault.ReadFault) whole before now telling k d = record {
  lines = d.lines;
  takes = d.takes;
  written = Appends-kept before.told now.told telling (whole.so_far d.lines) d.written k;
  part = d.part;
}
all_flushed (Err fault.WriteFault) whole before now telling k d = stops_kept (ahead_of before) before.told now.told telling whole k d
all_flushed (Err fault.OutOfMemory) whole before now telling k d = stops_kept (ahead_of before) before.told now.told telling whole k d

-- whatever a run had come to, it stopped in a line where a front of that was written
stops_anyhow : (result : Result (Unit {0}) ScriptFault) (whole : ByLines) (before now : Moment) (held : List ℕ) → IsSteady whole → HoldsNone result held
    → 0 < length held → AllLinesDone result whole before now → StopsInALine whole before now
stops_anyhow (Ok x) whole before now held s none some d = all_stop whole None before now s d.1
stops_anyhow (Err (fault.Line line rule)) whole before now held s none some d = all_stop whole (refusal_at line rule) before now s d
stops_anyhow (Err fault.ReadFault) whole before now held s none some d = absurd (not_empty held none some)
stops_anyhow (Err fault.WriteFault) whole before now held s none some d = d
stops_anyhow (Err fault.OutOfMemory) whole before now held s none some d = d

stop_is : (answer : ScriptFault) (whole : ByLines) (before now : Moment) → IsWriteFault answer → StopsInALine whole before now
    → AllLinesDone (Err answer) whole before now
stop_is (fault.Line line rule) whole before now w d = absurd w
stop_is fault.ReadFault whole before now w d = absurd w
stop_is fault.WriteFault whole before now w d = d
stop_is fault.OutOfMemory whole before now w d = d

-- a front of it
pub front_flushed : (result : Result (Unit {0}) ScriptFault) (answer : ScriptFault) (whole : ByLines) (before now : Moment) (told telling : Option (List ℕ)) (held : List ℕ)
    → IsSteady whole → IsWriteFault answer → HoldsNone result held → 0 < length held → AllLinesDone result whole before now → Grows before.told told
    → IsFrontOf told telling now.told → AllLinesDone (Err answer) whole before (moment now.reading now.left telling)
front_flushed result answer whole before now told telling held s w none some d g f = stop_is answer whole before (moment now.reading now.left telling) w
    (cut_short (ahead_of before) before.told telling now.told whole s (stops_anyhow result whole before now held s none some d)
    (front_later before.told told telling now.told g f))

reads_same : (result : Result (Unit {0}) ScriptFault) (before now : ℕ) (held : List ℕ) → HoldsNone result held → 0 < length held → ReadsCause result before now → now ≡ before
reads_same (Ok x) before now held none some cause = cause
reads_same (Err (fault.Line line rule)) before now held none some cause = cause
reads_same (Err fault.ReadFault) before now held none some cause = absurd (not_empty held none some)
reads_same (Err fault.WriteFault) before now held none some cause = cause
reads_same (Err fault.OutOfMemory) before now held none some cause = cause

writes_same : (result : Result (Unit {0}) ScriptFault) (before now : ℕ) (held : List ℕ) → HoldsNone result held → 0 < length held → WritesCause result before now
    → now ≡ before
writes_same (Ok x) before now held none some cause = cause
writes_same (Err (fault.Line line rule)) before now held none some cause = cause
writes_same (Err fault.ReadFault) before now held none some cause = cause
writes_same (Err fault.WriteFault) before now held none some cause = absurd (not_empty held none some)
writes_same (Err fault.OutOfMemory) before now held none some cause = cause

reads_as : (answer : ScriptFault) (before now : ℕ) → IsWriteFault answer → now ≡ before → ReadsCause {T = Unit {0}} (Err answer) before now
reads_as (fault.Line line rule) before now w same = absurd w
reads_as fault.ReadFault before now w same = absurd w
reads_as fault.WriteFault before now w same = same
reads_as fault.OutOfMemory before now w same = same

pub flushed_reads : (result : Result (Unit {0}) ScriptFault) (answer : ScriptFault) (before now : ℕ) (held : List ℕ) → IsWriteFault answer → HoldsNone result held
    → 0 < length held → ReadsCause result before now → ReadsCause {T = Unit {0}} (Err answer) before now
flushed_reads result answer before now held w none some cause = reads_as answer before now w (reads_same result before now held none some cause)

pub flushed_writes : (result : Result (Unit {0}) ScriptFault) (answer : ScriptFault) (before mid now : ℕ) (held : List ℕ) → HoldsNone result held → 0 < length held
    → WritesCause result before mid → WritesCause {T = Unit {0}} (Err answer) mid now → WritesCause {T = Unit {0}} (Err answer) before now
flushed_writes result answer before mid now held none some first second =
    subst (λ n. WritesCause {T = Unit {0}} (Err answer) n now) (writes_same result before mid held none some first) second

pub holds_on : (answer : ScriptFault) (held : List ℕ) → HoldsNone {T = Bool} (Err answer) held → HoldsNone {T = Unit {0}} (Err answer) held
holds_on (fault.Line line rule) held none = none
holds_on fault.ReadFault held none = none
holds_on fault.WriteFault held none = none
holds_on fault.OutOfMemory held none = none
