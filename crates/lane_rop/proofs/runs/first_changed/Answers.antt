use Rattle.std.proofs.Common.{◌∙◌}
use Rattle.std.specs.Simd.Lanes.{chunk}
use Rattle.std.proofs.lemmas.Simd.{length-chunk}
use Rattle.lane_rop.proofs.Counting.{pair_ones}
use Rattle.lane_rop.proofs.runs.first_changed.Goals as goal

pub returns : goal.returns
returns c = let at = c.args.at in
    c.trailing_ones.ensures
    ∙ pair_ones (chunk at 16 c.args.pixels.now) (chunk at 16 c.args.above.now)
    (length-chunk at 16 c.args.pixels.now c.requires.pixels) (length-chunk at 16 c.args.above.now c.requires.above)
