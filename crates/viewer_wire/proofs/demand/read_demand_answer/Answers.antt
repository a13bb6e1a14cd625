use Rattle.px_core.specs.Depth.{bits_in}
use Rattle.wire_num.specs.Layout.{fields_at}
use Rattle.mcs_ber.proofs.Within.{onward}
use Rattle.viewer_rules.specs.HostAnswers.{width_and_later, demand_answer}
use Rattle.viewer_wire.specs.Reads.{sides}
use Rattle.viewer_wire.proofs.demand.read_demand_answer.Goals as goal

pub returns-in-Ok : goal.returns-in-Ok
unfolding demand_answer
returns-in-Ok c = onward sides (fields_at (demand_answer (bits_in c.args.depth))) (fields_at width_and_later) _ _ _ _ (c.in-Ok.ensures.0 width_and_later) c.in-Ok.ensures.1 (c.read_sides.ensures)

pub returns-in-Err : goal.returns-in-Err
unfolding demand_answer
returns-in-Err c = (c.in-Err.ensures.0 width_and_later, c.in-Err.ensures.1, c.in-Err.ensures.2)
