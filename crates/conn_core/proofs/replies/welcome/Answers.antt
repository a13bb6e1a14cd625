use Rattle.std.proofs.lemmas.Result.{err_from_is_err_and}
use Rattle.wire_num.proofs.Fronts.{front_before, front_after}
use Rattle.mcs_dom.specs.SendData.{send_data_indication}
use Rattle.info_lic.specs.Licence.{licence}
use Rattle.caps_sets.specs.DemandActive.{demand_active}
use Rattle.conn_core.proofs.replies.welcome.Goals as goal

pub returns-in_err-license-clause-memory : goal.returns-in_err-license-clause-memory
returns-in_err-license-clause-memory c =
    let p = err_from_is_err_and c.from_residual.result c.from_residual.ensures.1 in
    rw p.1 (front_before _ (send_data_indication licence) (send_data_indication (demand_active c.args.size c.args.depth c.args.resizes)) _ c.in_err-license.ensures.memory)

pub returns-in_err-demand-clause-memory : goal.returns-in_err-demand-clause-memory
returns-in_err-demand-clause-memory c =
    let p = err_from_is_err_and c.from_residual-in_err-demand.result c.from_residual-in_err-demand.ensures.1 in
    rw p.1 (front_after _ (send_data_indication licence) (send_data_indication (demand_active c.args.size c.args.depth c.args.resizes)) _ _ c.in_ok-license.ensures.ok c.in_err-demand.ensures.memory)
