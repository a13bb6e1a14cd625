use Rattle.std.proofs.Common.{◌≡◌, length}
use Rattle.tpkt_x224.specs.declared.tpkt.Packet.TheVariants.{Part}
use Rattle.fast_path.specs.Heads.{stream_packet_at}
use Rattle.viewer_rules.specs.ViewerHandshake.{Watching}
use Rattle.look_net.specs.Looks.{Keeps}
use Rattle.look_net.specs.Watches.{Stays}
use Rattle.look_net.proofs.Loop.{GoneSoFar}
use Rattle.look_net.proofs.watch.watch.Given as goal

-- a front of the bytes was gone through
abbrev pub invariant-loop-left : goal.invariant-loop-left
invariant-loop-left l = record {
  gone : (w : Watching) → Stays w.at l.viewer.confirmed l.fn.watcher → Keeps l.viewer.confirmed w l.fn.part.items
      → GoneSoFar l.viewer.name l.viewer.confirmed w l.bytes l.left l.watcher l.part.items l.fn.out.items l.out.items;
  waits : stream_packet_at l.part.items ≡ Part;
}

abbrev pub decreases-loop-left : goal.decreases-loop-left
decreases-loop-left l = length l.left
