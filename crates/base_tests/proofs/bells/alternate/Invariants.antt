use Rattle.grow_lock.specs.Passes.{IsPassOf}
use Rattle.base_tests.proofs.bells.alternate.Given as goal

-- the pass stays one of this lock
abbrev pub invariant-loop : goal.invariant-loop
invariant-loop g l = IsPassOf l.lock l.pass
