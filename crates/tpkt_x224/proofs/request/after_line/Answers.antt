use Rattle.std.proofs.Common.{arith}
use Rattle.std.proofs.lemmas.Grind.{common_steps}
use Rattle.tpkt_x224.proofs.request.after_line.Goals as goal

pub returns-then-rest-eq-LINE_FEED : goal.returns-then-rest-eq-LINE_FEED
returns-then-rest-eq-LINE_FEED c = grind (arith, common_steps)

pub loop-left-preserved : goal.loop-left-preserved
loop-left-preserved c = grind (arith, common_steps)

pub returns : goal.returns
returns c = grind (arith, common_steps)
