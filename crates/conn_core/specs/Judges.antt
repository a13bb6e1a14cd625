-- What calls say that read a packet.
use Rattle.std.specs.Prelude.{◌≡◌, ◌≤◌, ℕ, List, ◌++◌, Result, Ok, Err}
use Rattle.wire_num.specs.declared.range.Range.{Range}
use Rattle.px_core.specs.declared.rectangle.Rect.{Rect}
use Rattle.input_pdu.specs.declared.event.Event.{Event}
use Rattle.conn_rules.specs.declared.answer.Reply.{Reply}
use Rattle.conn_rules.specs.declared.answer.Reply.TheVariants.{Nothing, Confirm, Response, Attached, Joined, Welcome, Final}
use Rattle.conn_rules.specs.declared.conn_step.ConnStep.{ConnStep}
use Rattle.conn_rules.specs.declared.refusal.Refusal.{Refusal}
use Rattle.conn_rules.specs.Answers.{Telling, telling}
use Rattle.conn_rules.specs.Told.{event_steps, area_steps}
use Rattle.conn_core.specs.declared.fault.Fault.{Fault}
use Rattle.conn_core.specs.declared.fault.Fault.TheVariants.{Refused, OutOfMemory}

-- it gave what is given there, or refused what is refused there; or memory was wanting
abbrev pub IsJudged : {A : Type 0} → Result A Fault → Result A Refusal → Type 0
IsJudged (Ok v) judged = judged ≡ Ok v
IsJudged (Err (Refused refusal)) judged = judged ≡ Err refusal
IsJudged (Err OutOfMemory) judged = Unit {0}

-- the same with these steps beside it
abbrev pub IsJudgedBeside : {A : Type 0} → List ConnStep → Result A Fault → Result (Telling A) Refusal → Type 0
IsJudgedBeside told (Ok v) judged = judged ≡ Ok (telling v told)
IsJudgedBeside told (Err (Refused refusal)) judged = judged ≡ Err refusal
IsJudgedBeside told (Err OutOfMemory) judged = Unit {0}

-- the steps of what was found
abbrev pub found_steps : List Event → List Rect → List ConnStep
found_steps events areas = event_steps events ++ area_steps areas

-- a reply that the writers take: to no more static virtual channels than a client may have, and to a user channel
abbrev pub IsWritable : Reply → Type 0
IsWritable Nothing = Unit {0}
IsWritable (Confirm request) = Unit {0}
IsWritable (Response channels asked) = channels ≤ 31
IsWritable (Attached user) = 1001 ≤ user
IsWritable (Joined user channel) = 1001 ≤ user
IsWritable (Welcome client) = Unit {0}
IsWritable (Final which user) = Unit {0}

-- a part of so many bytes
abbrev pub IsPart : ℕ → Range → Type 0
IsPart size part = (part.from ≤ part.to) × (part.to ≤ size)
