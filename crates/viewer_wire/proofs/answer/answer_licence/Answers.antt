use Rattle.std.proofs.Common.{[]}
use Rattle.std.specs.Prelude.{Ok}
use Rattle.viewer_rules.specs.declared.stage.Stage.TheVariants as stage
use Rattle.wire_num.specs.Layout.{fields_at}
use Rattle.viewer_rules.specs.HostAnswers.{indication, licence_answer}
use Rattle.viewer_rules.specs.ViewerHandshake.{answering}
use Rattle.viewer_rules.specs.declared.stage.Stage.{Stage}
use Rattle.viewer_wire.proofs.Answering.{answered_ok, answered_err, quiet}
use Rattle.viewer_wire.proofs.answer.answer_licence.Goals as goal

pub returns-in-Ok : goal.returns-in-Ok
returns-in-Ok c =
    let next : Stage = stage.Demand c.args.user in
    λ name k. answered_ok c.args.packet.now (fields_at (indication licence_answer) c.args.packet.now) (λ _. answering [] next) [] (Ok c.awaiting.result) [] c.in-Ok.ensures (quiet next c.awaiting.result c.awaiting.ensures)

pub returns-in-Err : goal.returns-in-Err
returns-in-Err c = λ name k. answered_err c.args.packet.now (fields_at (indication licence_answer) c.args.packet.now) (λ _. answering [] (stage.Demand c.args.user)) _ [] c.in-Err.ensures
