use Rattle.std.proofs.Common.{◌≡◌}
use Rattle.grow_lock.specs.Passes.{IsPassOf}
use Rattle.base_tests.proofs.turns.append_in_turns.Given as goal

-- the pass stays one of this lock, and keeps its share
abbrev pub invariant-loop-line : goal.invariant-loop-line
invariant-loop-line g l = IsPassOf l.lock l.pass × (l.pass.share ≡ l.fn.pass.share)
