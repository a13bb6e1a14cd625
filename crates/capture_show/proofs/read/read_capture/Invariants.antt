use Rattle.std.proofs.Common.{◌≡◌}
use Rattle.capture_show.specs.Reading.{ahead}
use Rattle.capture_show.proofs.Steps.{AtLine}
use Rattle.capture_show.proofs.read.read_capture.Given as goal

abbrev pub invariant-loop : goal.invariant-loop
invariant-loop g l = record {
  at : AtLine l.viewer l.stage l.reader (g.S.Source.left l.fn.input) (ahead l.reader (g.S.Source.left l.input));
  faults : g.S.Source.faults l.input ≡ g.S.Source.faults l.fn.input;
}
