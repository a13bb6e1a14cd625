use Rattle.lane_rop.proofs.NormalForm.{form_is_normal}
use Rattle.lane_rop.proofs.sums.normal_form.Goals as goal

pub returns : goal.returns
returns c = form_is_normal c.args.code c.ranges.code.fits
