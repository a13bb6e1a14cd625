use Rattle.std.proofs.Common.{◌∙◌}
use Rattle.std.specs.Simd.Lanes.{chunk}
use Rattle.std.proofs.lemmas.Simd.{length-chunk}
use Rattle.lane_rop.proofs.Counting.{color_ones}
use Rattle.lane_rop.proofs.runs.first_other.Goals as goal

pub returns : goal.returns
returns c = c.trailing_ones.ensures ∙ color_ones c.args.color (chunk c.args.at 16 c.args.pixels.now) (length-chunk c.args.at 16 c.args.pixels.now c.requires)
