use Rattle.std.proofs.Common.{◌+◌}
use Rattle.std.proofs.lemmas.Result.{err_from_is_err_and}
use Rattle.wire_num.proofs.Fronts.{front_before}
use Rattle.mcs_dom.specs.SendData.{indication_headers}
use Rattle.share_pdu.specs.Share.{data_headers}
use Rattle.share_pdu.proofs.packet_headers.put_packet_headers.Goals as goal

pub returns-in_err-put_indication_headers-clause-memory :
    goal.returns-in_err-put_indication_headers-clause-memory
returns-in_err-put_indication_headers-clause-memory c =
    let p = err_from_is_err_and c.from_residual.result c.from_residual.ensures.1 in
    rw p.1 (front_before c.args.out.now.items (indication_headers (18 + c.args.size)) (data_headers c.args.kind c.args.size) c.put_indication_headers.new.out.items c.in_err-put_indication_headers.ensures.memory)
