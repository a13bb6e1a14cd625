-- A stream of TPKT packets is its packets and what is left of it, and is so in one way.
use Rattle.std.proofs.Common.{◌≡◌, ℕ, List, ◌++◌, length, refl}
use Rattle.std.specs.Prelude.{flat_map}
use Rattle.std.specs.List.{AllByRecursion}
use Rattle.tpkt_x224.specs.declared.tpkt.Packet.{Packet}
use Rattle.tpkt_x224.specs.declared.tpkt.Packet.TheVariants.{Whole, Part, NotTpkt, BadLength}
use Rattle.tpkt_x224.specs.Tpkt.{IsPacket, HasWrongVersion, HasBadLength, packet_at}
use Rattle.tpkt_x224.specs.Pieces.{StartsWithPacket, IsPartOfPacket, IsStreamOf, packets_of}
use Rattle.tpkt_x224.proofs.Heads.{whole_head, part_head, version_head, length_head}
use Rattle.tpkt_x224.proofs.Cutting.{reads_tpkt}
use Rattle.tpkt_x224.proofs.AnyStream as any

-- ---- whole packets at the head

pub starts : (bytes : List ℕ) (n : ℕ) → packet_at bytes ≡ Whole n → StartsWithPacket bytes
starts = any.starts packet_at IsPacket reads_tpkt whole_head

pub started : (packet more : List ℕ) → IsPacket packet → packet_at (packet ++ more) ≡ Whole (length packet)
started = any.started packet_at IsPacket reads_tpkt whole_head

-- the same with its length
abbrev pub HeadOf : List ℕ → ℕ → Type 0
HeadOf bytes n = any.HasHead IsPacket bytes n

pub head_is : (bytes : List ℕ) (n : ℕ) → packet_at bytes ≡ Whole n → HeadOf bytes n
head_is = any.head_is packet_at IsPacket reads_tpkt whole_head

pub head_again : (bytes : List ℕ) (n : ℕ) → HeadOf bytes n → packet_at bytes ≡ Whole n
head_again = any.head_again packet_at IsPacket reads_tpkt whole_head

-- ---- packets and rest

pub stream_joined : (bytes : List ℕ) → flat_map (λ packet. packet) (packets_of bytes).packets ++ (packets_of bytes).rest ≡ bytes
stream_joined = any.stream_joined packet_at IsPacket reads_tpkt whole_head

pub each_packet : (bytes : List ℕ) → AllByRecursion IsPacket (packets_of bytes).packets
each_packet = any.each_packet packet_at IsPacket reads_tpkt whole_head

pub none_left : (bytes : List ℕ) → StartsWithPacket (packets_of bytes).rest → ⊥
none_left = any.none_left packet_at IsPacket reads_tpkt whole_head

part_by : (p : Packet) (bytes : List ℕ) → packet_at bytes ≡ p → (StartsWithPacket bytes → ⊥) → (HasWrongVersion bytes → ⊥) → (HasBadLength bytes → ⊥)
    → IsPartOfPacket bytes
part_by (Whole n) bytes e whole wrong bad = absurd (whole (starts bytes n e))
part_by Part bytes e whole wrong bad = (part_head bytes).0 e
part_by NotTpkt bytes e whole wrong bad = absurd (wrong ((version_head bytes).0 e))
part_by BadLength bytes e whole wrong bad = absurd (bad ((length_head bytes).0 e))

pub part_left : (bytes : List ℕ) → (HasWrongVersion (packets_of bytes).rest → ⊥) → (HasBadLength (packets_of bytes).rest → ⊥)
    → IsPartOfPacket (packets_of bytes).rest
part_left bytes wrong bad = part_by (packet_at (packets_of bytes).rest) (packets_of bytes).rest refl (none_left bytes) wrong bad

-- ---- no other packets and rest

pub cut_is_stream : (bytes : List ℕ) (packets : List (List ℕ)) (rest : List ℕ) → packets_of bytes ≡ record { packets = packets; rest = rest }
    → IsStreamOf bytes packets rest
cut_is_stream = any.cut_is_stream packet_at IsPacket reads_tpkt whole_head

pub stream_is_cut : (bytes : List ℕ) (packets : List (List ℕ)) (rest : List ℕ) → IsStreamOf bytes packets rest
    → packets_of bytes ≡ record { packets = packets; rest = rest }
stream_is_cut = any.stream_is_cut packet_at IsPacket reads_tpkt whole_head
