use Rattle.std.proofs.Common.{rules}
use Rattle.tpkt_x224.specs.Request.{request_header}
use Rattle.tpkt_x224.proofs.request.read_header.Goals as goal

pub returns-in_err-expect : goal.returns-in_err-expect
unfolding request_header
returns-in_err-expect c = search rules

pub returns-in_err-rest_count : goal.returns-in_err-rest_count
unfolding request_header
returns-in_err-rest_count c = search rules

pub returns : goal.returns
unfolding request_header
returns c = search rules
