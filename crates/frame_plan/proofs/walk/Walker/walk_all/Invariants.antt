use Rattle.std.proofs.Common.{take}
use Rattle.frame_plan.specs.Orders.{drawings_in, AreChosen}
use Rattle.frame_plan.specs.Walks.{HasGoneOver}
use Rattle.frame_plan.proofs.walk.Walker.walk_all.Given as goal

-- the walk over the drawings so far
abbrev pub invariant-loop-i : goal.invariant-loop-i
invariant-loop-i l = record {
  gone : HasGoneOver l.size l.confirmed l.fn.self (drawings_in l.fn.orders) (take l.i l.drawings) l.self (drawings_in l.orders);
  chosen : AreChosen l.confirmed l.fn.orders → AreChosen l.confirmed l.orders;
}
