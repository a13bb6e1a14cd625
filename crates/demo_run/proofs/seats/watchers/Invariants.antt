use Rattle.demo_run.specs.Standing.{AreNew}
use Rattle.demo_run.proofs.seats.watchers.Given as goal

abbrev pub invariant-loop-i : goal.invariant-loop-i
invariant-loop-i l = AreNew l.i l.watchers.items
