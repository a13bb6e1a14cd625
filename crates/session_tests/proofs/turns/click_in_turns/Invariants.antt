use Rattle.std.proofs.Common.{◌≡◌}
use Rattle.grow_lock.specs.Passes.{IsPassOf}
use Rattle.session_tests.proofs.turns.click_in_turns.Given as goal

-- the pass stays one of this lock, and keeps its share
abbrev pub invariant-loop : goal.invariant-loop
invariant-loop g l = IsPassOf l.lock l.pass × (l.pass.share ≡ l.fn.pass.share)
