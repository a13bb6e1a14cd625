-- The packets of a host's stream: TPKT packets, and, for a client that takes the fast path, packets of it ([MS-RDPBCGR] 2.2.9.1.2).
use Rattle.std.specs.Prelude.{◌≡◌, Bool, true, ◌&&◌, ℕ, ◌==◌, ◌⊎◌, List, [], ◌∷◌, if◌then◌else◌}
use Rattle.tpkt_x224.specs.declared.tpkt.Packet.{Packet}
use Rattle.tpkt_x224.specs.declared.tpkt.Packet.TheVariants.{Part, NotTpkt}
use Rattle.tpkt_x224.specs.Tpkt.{IsPacket, packet_at}
use Rattle.fast_path.specs.Heads.{IsCounted, fast_packet_at}

-- what stands at the head of a host's stream, for a client that takes the fast path or not: a first byte of 3 is a TPKT packet's, and where it is taken one of
-- 0, without flags, a packet's of the fast path
abbrev pub host_packet_at : Bool → List ℕ → Packet
host_packet_at fast [] = Part
host_packet_at fast (v ∷ bs) = if v == 3 then packet_at (v ∷ bs) else (if fast && (v == 0) then fast_packet_at (v ∷ bs) else NotTpkt)

-- a whole packet of the fast path, without flags
abbrev pub IsPlainFast : List ℕ → Type 0
IsPlainFast [] = ⊥
IsPlainFast (v ∷ bs) = (v ≡ 0) × IsCounted bs

-- a whole packet of a host
abbrev pub IsHostPacket : Bool → List ℕ → Type 0
IsHostPacket fast bytes = IsPacket bytes ⊎ ((fast ≡ true) × IsPlainFast bytes)
