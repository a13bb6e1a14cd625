use Rattle.std.proofs.Common.{◌∙◌, get_or}
use Rattle.std.proofs.lemmas.Simd.{get_or-replicate}
use Rattle.lane_rop.specs.Sums.{added}
use Rattle.lane_rop.proofs.lanes.added_words.Goals as goal

pub returns : goal.returns
returns c = record {
  long = c.added_lanes.ensures.long;
  each = λ k l. c.added_lanes.ensures.each k l
      ∙ (λ j. added (get_or c.args.bits k 0) (get_or-replicate 16 k c.args.one 0 l j) (get_or-replicate 16 k c.args.more 0 l j));
}
