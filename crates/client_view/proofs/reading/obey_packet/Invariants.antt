use Rattle.std.proofs.Common.{◌≡◌}
use Rattle.order_means.specs.Updates.{Updates}
use Rattle.order_means.specs.FrameMarks.{View}
use Rattle.update_read.specs.Cutters.{Gives, pending, step_of}
use Rattle.client_view.specs.Views.{StandsFor, SameViewer}
use Rattle.client_view.proofs.Streams.{LeftUpdates}
use Rattle.client_view.proofs.reading.obey_packet.Given as goal

-- some of the packet's updates were obeyed, and the packet gives the others
abbrev pub invariant-loop-step : goal.invariant-loop-step
invariant-loop-step l = record {
  left : (v : View) (u : Updates) → StandsFor v l.fn.viewer → Gives u l.fn.packet → LeftUpdates l.fn.viewer.confirmed l.fn.viewer.pictures.size v u l.viewer l.packet;
  same : SameViewer l.fn.viewer l.viewer;
  fast : l.packet.fast ≡ l.fn.packet.fast;
  stays : l.packet ≡ record l.fn.packet { state = l.packet.state };
  step : l.step ≡ step_of l.packet;
}

abbrev pub decreases-loop-step : goal.decreases-loop-step
decreases-loop-step l = pending l.packet
