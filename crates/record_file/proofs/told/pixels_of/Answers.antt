use Rattle.std.proofs.Common.{◌∙◌}
use Rattle.std.proofs.lemmas.Result.{IfOk-weaker}
use Rattle.record_file.proofs.Kept.{pixels_are}
use Rattle.record_file.proofs.told.pixels_of.Goals as goal

pub returns : goal.returns
returns c =
    IfOk-weaker c.pixels_of.result _ _
    (λ pixels h. h ∙ pixels_are c.args.session.now c.look.result.now c.size-size.result c.size-size.ensures c.look.ensures c.recall_legal.ensures.size c.recall_legal.ensures.journal) c.pixels_of.ensures.pixels
