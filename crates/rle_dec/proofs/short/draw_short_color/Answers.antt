use Rattle.std.proofs.Common.{arith}
use Rattle.rle_dec.proofs.Steps.{color_step}
use Rattle.rle_dec.proofs.short.draw_short_color.Goals as goal

pub returns-in-Ok-clause-step : goal.returns-in-Ok-clause-step
returns-in-Ok-clause-step c =
    color_step c.args.depth c.args.w c.args.at c.args.n c.args.code c.in-Ok.color c.args.before.now c.args.out.now c.draw_few.new.out c.args.bytes.now c.in-Ok.rest.now
    c.requires.more c.draw_few.auto.out c.requires.code.0 c.requires.code.1 c.requires.n (omega (arith, c.requires.room)) c.in-Ok.ensures c.draw_few.ensures
