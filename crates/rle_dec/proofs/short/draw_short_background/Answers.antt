use Rattle.std.proofs.Common.{sym, ◌∙◌, arith}
use Rattle.rle_dec.proofs.Steps.{background_step}
use Rattle.rle_dec.proofs.short.draw_short_background.Goals as goal

pub returns-clause-step : goal.returns-clause-step
returns-clause-step c depth =
    background_step depth c.args.w c.args.at c.args.n c.args.code c.args.before.now c.args.out.now c.draw_few_above.new.out c.args.rest.now
    c.requires.more c.draw_few_above.auto.out c.requires.code.0 c.requires.code.1 c.requires.n (omega (arith, c.requires.room)) c.if-at-w.false (sym c.follows_run.ensures ∙ c.if-follows_run.false) c.draw_few_above.ensures
