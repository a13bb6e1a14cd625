use Rattle.std.proofs.Common.{[], ◌≤◌, ◌-◌, length}
use Rattle.session_rules.specs.Pending.{pending_between}
use Rattle.frame_plan.specs.Orders.{drawings_in, AreChosen}
use Rattle.frame_plan.specs.Walks.{HasGoneOver}
use Rattle.frame_plan.proofs.frame.walk_over.Given as goal

-- the walk over the drawings of the entries so far
abbrev pub invariant-loop-entry : goal.invariant-loop-entry
invariant-loop-entry l = record {
  above : l.desk.number ≤ l.entry;
  within : l.entry ≤ length l.session.journal;
  gone : HasGoneOver l.session.head.size l.desk.confirmed l.fn.walker [] (pending_between l.session.head.size l.session.journal l.desk.number l.entry) l.walker (drawings_in l.orders);
  chosen : AreChosen l.desk.confirmed l.orders;
}

abbrev pub decreases-loop-entry : goal.decreases-loop-entry
decreases-loop-entry l = length l.session.journal - l.entry
