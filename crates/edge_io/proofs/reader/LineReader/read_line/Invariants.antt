use Rattle.std.proofs.Common.{◌≡◌, ◌-◌, ◌≤◌, length, position, None}
use Rattle.std.specs.Prelude.{◌==◌}
use Rattle.std.specs.Io.KnownBytes.{Keeps}
use Rattle.edge_io.specs.Reading.{ahead}
use Rattle.edge_io.proofs.reader.LineReader.read_line.Given as goal

abbrev pub invariant-loop-self : goal.invariant-loop-self
invariant-loop-self g l = record {
  keeps : Keeps (ahead l.fn.self (g.S.Source.left l.fn.input)) (ahead l.self (g.S.Source.left l.input));
  at : l.self.at ≡ l.fn.self.at;
  part : position (λ b. b == 10) l.self.held ≡ None;
  room : length l.self.held ≤ 32768;
  faults : g.S.Source.faults l.input ≡ g.S.Source.faults l.fn.input;
}

abbrev pub decreases-loop-self : goal.decreases-loop-self
decreases-loop-self g l = 65537 - length l.self.held
