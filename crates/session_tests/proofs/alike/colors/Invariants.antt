use Rattle.std.proofs.Common.{◌≡◌}
use Rattle.std.specs.Prelude.{true}
use Rattle.px_core.specs.Colors.{are_colors}
use Rattle.session_tests.proofs.alike.colors.Given as goal

-- those so far are colours
abbrev pub invariant-loop-number : goal.invariant-loop-number
invariant-loop-number l = are_colors l.colors.items ≡ true
