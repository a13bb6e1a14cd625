use Rattle.std.proofs.Common.{◌≡◌, length}
use Rattle.tpkt_x224.specs.Request.{after_line}
use Rattle.tpkt_x224.proofs.request.after_line.Given as goal

abbrev pub invariant-loop-left : goal.invariant-loop-left
invariant-loop-left l = after_line l.left ≡ after_line l.bytes

abbrev pub decreases-loop-left : goal.decreases-loop-left
decreases-loop-left l = length l.left
