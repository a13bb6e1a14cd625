use Rattle.std.proofs.Common.{arith}
use Rattle.std.proofs.lemmas.Grind.{common_steps}
use Rattle.tpkt_x224.specs.Request.{asked_protocols}
use Rattle.tpkt_x224.proofs.request.asked_protocols.Goals as goal

pub returns-then-bytes-eq-NEGOTIATION_REQUEST : goal.returns-then-bytes-eq-NEGOTIATION_REQUEST
unfolding asked_protocols
returns-then-bytes-eq-NEGOTIATION_REQUEST c = grind (arith, common_steps)
