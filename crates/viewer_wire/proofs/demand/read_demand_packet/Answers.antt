use Rattle.px_core.specs.Depth.{bits_in}
use Rattle.wire_num.specs.Layout.{fields_at}
use Rattle.mcs_ber.proofs.Within.{onward}
use Rattle.viewer_rules.specs.HostAnswers.{indication, demand_answer}
use Rattle.viewer_wire.specs.Reads.{sides}
use Rattle.viewer_wire.proofs.demand.read_demand_packet.Goals as goal

pub returns-in-Ok : goal.returns-in-Ok
returns-in-Ok c = onward sides (fields_at (indication (demand_answer (bits_in c.args.depth)))) (fields_at (demand_answer (bits_in c.args.depth))) _ _ _ _ (c.in-Ok.ensures.0 (demand_answer (bits_in c.args.depth))) c.in-Ok.ensures.1 c.read_demand_answer.ensures

pub returns-in-Err : goal.returns-in-Err
returns-in-Err c = (c.in-Err.ensures.0 (demand_answer (bits_in c.args.depth)), c.in-Err.ensures.1, c.in-Err.ensures.2)
