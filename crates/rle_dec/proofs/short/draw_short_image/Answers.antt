use Rattle.std.proofs.Common.{arith}
use Rattle.rle_dec.proofs.Steps.{image_step}
use Rattle.rle_dec.proofs.short.draw_short_image.Goals as goal

pub returns-in-Some-clause-step : goal.returns-in-Some-clause-step
returns-in-Some-clause-step c =
    let front = c.in-Some.ensures.drawn in
    image_step c.args.depth c.args.w c.args.at c.args.n c.args.code c.args.before.now c.args.out.now c.draw_front.new.out c.args.bytes.now c.in-Some.rest.now
    c.requires.more c.draw_front.auto.out c.requires.code.0 c.requires.code.1 c.requires.n (omega (arith, c.requires.room)) front.0 front.1 front.2
