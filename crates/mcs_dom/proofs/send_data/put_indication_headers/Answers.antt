use Rattle.std.proofs.Common.{rules}
use Rattle.mcs_dom.specs.SendData.{indication_headers}
use Rattle.mcs_dom.proofs.send_data.put_indication_headers.Goals as goal

pub returns-in_ok-extend_from_slice-clause-ok : goal.returns-in_ok-extend_from_slice-clause-ok
unfolding indication_headers
returns-in_ok-extend_from_slice-clause-ok c = search rules
