use Rattle.grow_lock.specs.Passes.{IsPassOf}
use Rattle.session_tests.proofs.stored.keep_steps.Given as goal

-- both passes stay those of their locks
abbrev pub invariant-loop : goal.invariant-loop
invariant-loop g l = IsPassOf l.books l.place × IsPassOf l.lock l.pass
