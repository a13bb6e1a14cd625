use Rattle.std.proofs.Common.{length, ◌-◌}
use Rattle.session_core.proofs.cells.+rect_from.Given as goal

abbrev pub decreases-rect_from : goal.decreases-rect_from
decreases-rect_from l = length l.pairs.now - l.i
