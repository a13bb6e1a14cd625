use Rattle.std.proofs.Common.{length}
use Rattle.viewer_wire.proofs.rows.+expect_each.Given as goal

abbrev pub decreases-expect_each : goal.decreases-expect_each
decreases-expect_each l = length l.fields.now
