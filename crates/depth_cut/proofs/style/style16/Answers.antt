use Rattle.std.proofs.Common.{◌∙◌, sym}
use Rattle.depth_cut.proofs.Styled.{pat_fits, mem3_fits}
use Rattle.depth_cut.proofs.style.style16.Goals as goal

pub with_style-requires-clause-fits : goal.with_style-requires-clause-fits
with_style-requires-clause-fits c = pat_fits c.args.f c.values.result.now c.recall_field_list.ensures (sym c.kind.ensures ∙ c.in-1.is) c.values.ensures.value

pub with_style-requires-in-14-clause-fits : goal.with_style-requires-in-14-clause-fits
with_style-requires-in-14-clause-fits c = mem3_fits c.args.f c.values-in-14.result.now c.recall_field_list.ensures (sym c.kind.ensures ∙ c.in-14.is) c.values-in-14.ensures.value
