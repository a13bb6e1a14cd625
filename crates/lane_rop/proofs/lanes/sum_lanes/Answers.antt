use Rattle.std.proofs.Common.{◌∙◌, get_or}
use Rattle.lane_rop.specs.Sums.{added}
use Rattle.lane_rop.proofs.lanes.sum_lanes.Goals as goal

pub returns : goal.returns
returns c = record {
  long = c.added_lanes.ensures.long;
  each = λ k l. c.added_lanes.ensures.each k l
      ∙ (λ j. added (get_or c.args.x k 0) (c.added_words-one.ensures.each k l j) (c.added_words-more.ensures.each k l j));
}
