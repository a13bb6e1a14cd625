-- The host cuts a viewer's stream into its packets, none of which is of the fast path.
use Rattle.std.proofs.Common.{◌≡◌, ℕ, List, [], ◌∷◌, ◌++◌, inl, inr, append-nil}
use Rattle.std.specs.List.{AllByRecursion}
use Rattle.tpkt_x224.specs.Tpkt.{IsPacket}
use Rattle.tpkt_x224.specs.Pieces.{StartsWith, packets_with}
use Rattle.tpkt_x224.proofs.AnyStream.{stream_is_cut}
use Rattle.fast_path.specs.Heads.{IsStreamPacket, stream_packet_at}
use Rattle.fast_path.proofs.Mixed.{stream_whole, reads_streams}
use Rattle.viewer_rules.specs.Rounds.{joined}

each_of_either : (packets : List (List ℕ)) → AllByRecursion IsPacket packets → AllByRecursion IsStreamPacket packets
each_of_either [] each = tt
each_of_either (packet ∷ packets) each = (inl each.0, each_of_either packets each.1)

none_left : StartsWith IsStreamPacket [] → ⊥
none_left s = nothing s.0 s.1 s.2 s.3
  where
    nothing : (packet more : List ℕ) → IsStreamPacket packet → [] ≡ packet ++ more → ⊥
    nothing [] more (inl p) e = p
    nothing [] more (inr p) e = p
    nothing (b ∷ packet) more p e = let h : ⊥ = cc in h

pub host_cuts : (packets : List (List ℕ)) → AllByRecursion IsPacket packets → packets_with stream_packet_at (joined packets) ≡ record { packets = packets; rest = [] }
host_cuts packets each =
    stream_is_cut stream_packet_at IsStreamPacket reads_streams stream_whole (joined packets) packets []
    (record { joined = append-nil (joined packets); each = each_of_either packets each; left = none_left })
