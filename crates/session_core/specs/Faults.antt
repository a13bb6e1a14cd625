-- The answers of calls as answers of steps; want of memory is none of these.
use Rattle.std.specs.Prelude.{ℕ, Option, Some, None, Result, Ok, Err}
use Rattle.session_rules.specs.Journal.Refusal.{NotInvited as not_invited, RoomFull as room_full, JoinsSpent as joins_spent, NotHolder as not_holder, BadDrawing as bad_drawing, EmptySlot as empty_slot, SlotSize as slot_size, JournalFull as journal_full}
use Rattle.session_rules.specs.Steps.{Answer}
use Rattle.session_rules.specs.Steps.Answer.{Joined, Accepted, Refused}
use Rattle.session_core.specs.declared.faults.JoinFault.{JoinFault}
use Rattle.session_core.specs.declared.faults.JoinFault.TheVariants as join
use Rattle.session_core.specs.declared.faults.InputRefusal.{InputRefusal}
use Rattle.session_core.specs.declared.faults.InputRefusal.TheVariants as input
use Rattle.session_core.specs.declared.faults.DrawRefusal.{DrawRefusal}
use Rattle.session_core.specs.declared.faults.DrawRefusal.TheVariants as draw

abbrev pub join_answer : Result ℕ JoinFault → Option Answer
join_answer (Ok v) = Some (Joined v)
join_answer (Err join.NotInvited) = Some (Refused not_invited)
join_answer (Err join.RoomFull) = Some (Refused room_full)
join_answer (Err join.JoinsSpent) = Some (Refused joins_spent)
join_answer (Err join.OutOfMemory) = None

abbrev pub input_answer : Result (Unit {0}) InputRefusal → Option Answer
input_answer (Ok done) = Some Accepted
input_answer (Err (input.NotHolder holder)) = Some (Refused (not_holder holder))
input_answer (Err input.JournalFull) = Some (Refused journal_full)
input_answer (Err input.OutOfMemory) = None

abbrev pub draw_answer : Result (Unit {0}) DrawRefusal → Option Answer
draw_answer (Ok done) = Some Accepted
draw_answer (Err (draw.NotHolder holder)) = Some (Refused (not_holder holder))
draw_answer (Err (draw.BadDrawing rule)) = Some (Refused (bad_drawing rule))
draw_answer (Err (draw.EmptySlot slot)) = Some (Refused (empty_slot slot))
draw_answer (Err (draw.SlotSize slot)) = Some (Refused (slot_size slot))
draw_answer (Err draw.JournalFull) = Some (Refused journal_full)
draw_answer (Err draw.OutOfMemory) = None
