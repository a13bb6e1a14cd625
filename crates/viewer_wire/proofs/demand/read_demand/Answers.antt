use Rattle.px_core.specs.Depth.{bits_in}
use Rattle.wire_num.specs.Layout.{fields_at}
use Rattle.viewer_rules.specs.HostAnswers.{indication, demand_answer}
use Rattle.viewer_wire.specs.Reads.{sides}
use Rattle.viewer_wire.proofs.Counted.{whole_ok, whole_err}
use Rattle.viewer_wire.proofs.demand.read_demand.Goals as goal

pub returns-in-Ok : goal.returns-in-Ok
returns-in-Ok c = whole_ok sides (fields_at (indication (demand_answer (bits_in c.args.depth)))) _ c.args.packet.now _ _ c.new-cursor.ensures c.in-Ok.ensures

pub returns-in-Err : goal.returns-in-Err
returns-in-Err c = whole_err sides (fields_at (indication (demand_answer (bits_in c.args.depth)))) _ c.args.packet.now _ _ _ c.new-cursor.ensures c.in-Err.ensures c.at.ensures.place c.at.ensures.inside
