use Rattle.std.proofs.Common.{[], ◌++◌}
use Rattle.wire_num.specs.Layout.{fields_at}
use Rattle.viewer_rules.specs.declared.stage.Stage.TheVariants as stage
use Rattle.viewer_rules.specs.ClientPackets.{erect_domain, attach_user}
use Rattle.viewer_rules.specs.HostAnswers.{connect_response_answer}
use Rattle.viewer_rules.specs.ViewerHandshake.{answering}
use Rattle.viewer_wire.proofs.Answering.{answered_ok, answered_err}
use Rattle.viewer_wire.proofs.answer.answer_response.Goals as goal

pub returns-in-Ok : goal.returns-in-Ok
returns-in-Ok c = λ name k. answered_ok c.args.packet.now (fields_at connect_response_answer c.args.packet.now) (λ _. answering (erect_domain ++ attach_user) stage.Attach) [] _ _ c.in-Ok.ensures c.send_attach.ensures

pub returns-in-Err : goal.returns-in-Err
returns-in-Err c = λ name k. answered_err c.args.packet.now (fields_at connect_response_answer c.args.packet.now) (λ _. answering (erect_domain ++ attach_user) stage.Attach) _ [] c.in-Err.ensures
