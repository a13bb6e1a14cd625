use Rattle.std.proofs.Common.{take, drop}
use Rattle.frame_plan.specs.Orders.{drawings_in, AreChosen}
use Rattle.viewer_sender.specs.Writes.{Writes}
use Rattle.viewer_sender.specs.Goes.{AllGo}
use Rattle.viewer_sender.specs.Runs.{drawings_sending}
use Rattle.viewer_sender.proofs.drawing.put_drawings.Given as goal

abbrev pub invariant-loop-i : goal.invariant-loop-i
invariant-loop-i l = record {
  wrote : Writes l.fn.writer l.writer (λ uses. drawings_sending l.fn.writer.confirmed uses (drawings_in (take l.i l.drawings)));
  fit : AllGo l.fn.writer.confirmed (drawings_in (drop l.i l.drawings));
  chosen : AreChosen l.fn.writer.confirmed (drop l.i l.drawings);
}
