use Rattle.std.proofs.Common.{[], ap, ◌∙◌}
use Rattle.std.specs.Prelude.{Ok}
use Rattle.wire_num.specs.Layout.{fields_at}
use Rattle.viewer_rules.specs.HostAnswers.{indication, final_answer}
use Rattle.viewer_rules.specs.ViewerHandshake.{answering, after_final}
use Rattle.viewer_rules.specs.declared.stage.Stage.{Stage}
use Rattle.viewer_wire.proofs.Answering.{answered_ok, answered_err, awaits, quiet}
use Rattle.viewer_wire.proofs.answer.answer_final.Goals as goal

pub returns-in-Ok : goal.returns-in-Ok
returns-in-Ok c =
    let next : Stage = after_final c.args.user c.args.which in
    λ name k. answered_ok c.args.packet.now (fields_at (indication (final_answer c.args.which c.args.user)) c.args.packet.now) (λ _. answering [] next) [] (Ok c.awaiting.result) [] c.in-Ok.ensures
    (quiet next c.awaiting.result (c.awaiting.ensures ∙ ap awaits c.after_final.ensures))

pub returns-in-Err : goal.returns-in-Err
returns-in-Err c = λ name k. answered_err c.args.packet.now (fields_at (indication (final_answer c.args.which c.args.user)) c.args.packet.now) (λ _. answering [] (after_final c.args.user c.args.which)) _ [] c.in-Err.ensures
