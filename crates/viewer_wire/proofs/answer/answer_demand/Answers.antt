use Rattle.std.proofs.Common.{[]}
use Rattle.wire_num.specs.Layout.{fields_at}
use Rattle.viewer_rules.specs.ClientPackets.{bits_asked}
use Rattle.viewer_rules.specs.HostAnswers.{indication, demand_answer}
use Rattle.viewer_rules.specs.ViewerHandshake.{welcomed}
use Rattle.viewer_wire.specs.Reads.{sides}
use Rattle.viewer_wire.proofs.Answering.{answered_ok, answered_err}
use Rattle.viewer_wire.proofs.answer.answer_demand.Goals as goal

pub returns-in-Ok : goal.returns-in-Ok
returns-in-Ok c = λ name. answered_ok c.args.packet.now (fields_at (indication (demand_answer (bits_asked c.args.confirmed.now))) c.args.packet.now) (welcomed c.args.confirmed.now c.args.user) (sides c.in-Ok.size) _ _ c.in-Ok.ensures c.send_five.ensures

pub returns-in-Err : goal.returns-in-Err
returns-in-Err c = λ name. answered_err c.args.packet.now (fields_at (indication (demand_answer (bits_asked c.args.confirmed.now))) c.args.packet.now) (welcomed c.args.confirmed.now c.args.user) _ [] c.in-Err.ensures
