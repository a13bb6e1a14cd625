use Rattle.std.proofs.Common.{arith}
use Rattle.client_picture.proofs.Flags.{row_touched, no_pixel}
use Rattle.client_picture.proofs.touched.touch_each.Goals as goal

pub loop-y-init : goal.loop-y-init
loop-y-init c = λ k h. (h, (λ low less. absurd (omega (arith, low, less))))

pub loop-y-preserved : goal.loop-y-preserved
loop-y-preserved c = row_touched c.loop-y.touched c.args.touched.now c.args.part.y c.loop-y.y (omega arith) c.loop-y.invariant

pub returns : goal.returns
returns c = record {
  flags = c.loop-y.auto.touched;
  rows = λ y h. let r = c.loop-y.invariant y h in (r.0, no_pixel c.args.part y (λ low less. r.1 low (omega (arith, less))));
}
