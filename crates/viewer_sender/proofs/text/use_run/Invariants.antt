use Rattle.std.proofs.Common.{◌≡◌, ◌+◌, length, take, drop}
use Rattle.frame_rules.specs.FrameOrders.{Uses, run_use, run_pairs}
use Rattle.viewer_sender.specs.Stands.{CachesStand}
use Rattle.viewer_sender.specs.Writes.{Writes}
use Rattle.viewer_sender.specs.Goes.{GlyphsGo}
use Rattle.viewer_sender.specs.Runs.{run_sending}
use Rattle.viewer_sender.proofs.text.use_run.Given as goal

abbrev pub invariant-loop-i : goal.invariant-loop-i
invariant-loop-i l = record {
  wrote : Writes l.fn.writer l.writer (λ uses. run_sending (run_use l.fn.writer.confirmed uses l.cache (take l.i l.glyphs)));
  pairs : (uses : Uses) → CachesStand l.fn.writer.confirmed l.fn.writer.caches uses → l.pairs.items ≡ run_pairs (run_use l.fn.writer.confirmed uses l.cache (take l.i l.glyphs)).indices (take l.i l.run);
  number : length l.pairs.items ≡ l.i + l.i;
  fit : GlyphsGo (drop l.i l.glyphs);
}
