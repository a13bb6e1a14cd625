use Rattle.std.proofs.Common.{drop, length, ◌-◌}
use Rattle.order_means.specs.FrameMarks.{ClientReading}
use Rattle.client_view.specs.Views.{SameViewer}
use Rattle.client_view.specs.Clients.{StandFor}
use Rattle.client_view.proofs.Streams.{LeftBytes}
use Rattle.client_view.proofs.reading.read_bytes.Given as goal

-- what is left comes to what all came to, and the front of it that was read to a reading
abbrev pub invariant-loop-at : goal.invariant-loop-at
invariant-loop-at l = record {
  left : (r : ClientReading) → StandFor r l.fn.viewer l.fn.cutter → LeftBytes l.fn.viewer.confirmed l.fn.viewer.pictures.size r l.bytes (drop l.at l.bytes) l.viewer l.cutter;
  same : SameViewer l.fn.viewer l.viewer;
}

abbrev pub decreases-loop-at : goal.decreases-loop-at
decreases-loop-at l = length l.bytes - l.at
