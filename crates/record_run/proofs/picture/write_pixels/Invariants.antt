use Rattle.std.proofs.Common.{◌≡◌, length}
use Rattle.record_rules.specs.Fields.{colors_bytes}
use Rattle.record_run.proofs.Written.{HasPut}
use Rattle.record_run.proofs.picture.write_pixels.Given as goal

abbrev pub invariant-loop-left : goal.invariant-loop-left
invariant-loop-left g l = record {
  put : HasPut (g.K.Sink.told l.fn.output) (g.K.Sink.told l.output) (colors_bytes l.pixels) (colors_bytes l.left);
  faults : g.K.Sink.faults l.output ≡ g.K.Sink.faults l.fn.output;
}

abbrev pub decreases-loop-left : goal.decreases-loop-left
decreases-loop-left g l = length l.left
