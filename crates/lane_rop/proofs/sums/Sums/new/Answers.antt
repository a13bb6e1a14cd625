use Rattle.std.proofs.Common.{◌∙◌, [], ◌∷◌}
use Rattle.lane_rop.specs.Sums.{sum_of_three}
use Rattle.lane_rop.proofs.SumLaws.{form_is_sum}
use Rattle.lane_rop.proofs.sums.Sums.new.Goals as goal

pub invariant_of-result : goal.invariant_of-result
invariant_of-result c = record {
  of_code = λ p s d.
      (λ j. sum_of_three (c.mask.ensures j ∷ c.mask-2.ensures j ∷ c.mask-3.ensures j ∷ c.mask-4.ensures j ∷ [])
      (c.mask-5.ensures j ∷ c.mask-6.ensures j ∷ c.mask-7.ensures j ∷ c.mask-8.ensures j ∷ []) p s d)
      ∙ form_is_sum c.args.code c.normal_form-form.result c.normal_form-form.ensures p s d;
}
