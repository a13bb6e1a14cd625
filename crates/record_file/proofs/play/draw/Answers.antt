use Rattle.std.proofs.Common.{◌∙◌, sym}
use Rattle.record_file.proofs.Played.{absent_draw, drawn, draw_refused}
use Rattle.record_file.proofs.play.draw.Goals as goal

pub returns-then-not-present-clause-played : goal.returns-then-not-present-clause-played
returns-then-not-present-clause-played c = absent_draw c.args.session.now c.args.by c.args.d c.recall_legal.ensures.journal (sym c.present.ensures ∙ c.if-not-present.true)

pub returns-in-Ok-clause-played : goal.returns-in-Ok-clause-played
returns-in-Ok-clause-played c = drawn c.args.session.now c.draw.new.self c.args.by c.args.d c.in-Ok.ensures.answer c.in-Ok.ensures.journal

pub returns-in-Err-clause-played : goal.returns-in-Err-clause-played
returns-in-Err-clause-played c =
    draw_refused c.refused_draw.result c.args.session.now _ c.args.by c.args.d c.in-Err.fault c.recall_legal.ensures.rows.distinct c.refused_draw.ensures c.in-Err.ensures.journal
