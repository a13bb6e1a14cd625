use Rattle.std.proofs.Common.{◌≡◌, ◌+◌, ◌-◌, ◌^◌, length}
use Rattle.std.specs.Io.KnownBytes.{Keeps}
use Rattle.edge_io.proofs.LineLemmas.{IsPlain}
use Rattle.capture_show.specs.Long.{behind, with_text}
use Rattle.capture_show.proofs.long_lines.LongLines.next_line.Given as goal

abbrev pub invariant-loop-self : goal.invariant-loop-self
invariant-loop-self g l = record {
  keeps : Keeps (behind l.fn.self (g.S.Source.left l.fn.input)) (with_text l.self (g.S.Source.left l.input));
  plain : IsPlain l.self.text;
  faults : g.S.Source.faults l.input ≡ g.S.Source.faults l.fn.input;
}

abbrev pub decreases-loop-self : goal.decreases-loop-self
decreases-loop-self g l = 2 ^ 64 - (length l.self.text + length l.self.unread)
