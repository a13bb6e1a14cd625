use Rattle.std.proofs.Common.{[]}
use Rattle.wire_num.specs.Layout.{fields_at}
use Rattle.viewer_rules.specs.declared.stage.Stage.TheVariants as stage
use Rattle.viewer_rules.specs.ClientPackets.{bits_asked, connect_initial}
use Rattle.viewer_rules.specs.HostAnswers.{connection_confirm}
use Rattle.viewer_rules.specs.ViewerHandshake.{answering}
use Rattle.viewer_wire.proofs.Answering.{answered_ok, answered_err}
use Rattle.viewer_wire.proofs.answer.answer_confirm.Goals as goal

pub returns-in-Ok : goal.returns-in-Ok
returns-in-Ok c = λ name. answered_ok c.args.packet.now (fields_at connection_confirm c.args.packet.now) (λ _. answering (connect_initial (bits_asked c.args.confirmed.now)) stage.Response) [] _ _ c.in-Ok.ensures c.send_initial.ensures

pub returns-in-Err : goal.returns-in-Err
returns-in-Err c = λ name. answered_err c.args.packet.now (fields_at connection_confirm c.args.packet.now) (λ _. answering (connect_initial (bits_asked c.args.confirmed.now)) stage.Response) _ [] c.in-Err.ensures
