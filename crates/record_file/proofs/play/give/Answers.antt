use Rattle.std.proofs.Common.{◌∙◌, sym}
use Rattle.record_file.proofs.Played.{absent_give, gave}
use Rattle.record_file.proofs.play.give.Goals as goal

pub returns-then-not-present-clause-played : goal.returns-then-not-present-clause-played
returns-then-not-present-clause-played c = absent_give c.args.session.now c.args.by c.args.to c.recall_legal.ensures.journal (sym c.present.ensures ∙ c.if-not-present.true)

pub returns-in-Ok-clause-played : goal.returns-in-Ok-clause-played
returns-in-Ok-clause-played c =
    gave c.args.session.now c.input.new.self c.args.by c.args.to c.holder.result c.in-Ok.ensures.head c.in-Ok.ensures.answer c.in-Ok.ensures.journal c.holder.ensures
