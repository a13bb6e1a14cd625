-- The whole packet, of either kind, with which bytes begin, by its length alone; and the byte of a packet that may say a Pointer PDU's kind.
use Rattle.std.specs.Prelude.{◌≡◌, ◌≤◌, ◌⊎◌, ℕ, ◌==◌, nat_lt, nat_le, Bool, ◌&&◌, ◌||◌, List, [], ◌∷◌, length, get_or, Option, Some, None, if◌then◌else◌}
use Rattle.tpkt_x224.specs.declared.tpkt.Packet.{Packet}
use Rattle.tpkt_x224.specs.declared.tpkt.Packet.TheVariants.{Whole, Part, NotTpkt, BadLength}
use Rattle.tpkt_x224.specs.Tpkt.{IsPacket, packet_at}
use Rattle.order_means.specs.PointerPackets.{pointer_kind}
use Rattle.update_read.specs.Cutters.{fast_length}

-- a size that is no smaller than its header, and all there; else 0
abbrev pub size_if_there : ℕ → ℕ → ℕ → ℕ
size_if_there head size count = if nat_le head size && nat_le size count then size else 0

abbrev pub counted_size : Option (ℕ × ℕ) → ℕ → ℕ
counted_size None count = 0
counted_size (Some m) count = size_if_there m.0 m.1 count

-- how many bytes a packet of the fast path has that is whole; else 0
abbrev pub fast_size : List ℕ → ℕ
fast_size [] = 0
fast_size (b ∷ bs) = if b == 0 then counted_size (fast_length (b ∷ bs)) (length (b ∷ bs)) else 0

abbrev pub whole_size_by : Packet → List ℕ → ℕ
whole_size_by (Whole n) bytes = n
whole_size_by Part bytes = 0
whole_size_by NotTpkt bytes = fast_size bytes
whole_size_by BadLength bytes = 0

-- how many bytes the packet has with which these begin, where it is whole; else 0
abbrev pub whole_size : List ℕ → ℕ
whole_size bytes = whole_size_by (packet_at bytes) bytes

-- ---- by itself

-- the length in a header is no smaller than the header, and counts so many bytes
abbrev pub IsCounted : Option (ℕ × ℕ) → ℕ → Type 0
IsCounted None count = ⊥
IsCounted (Some m) count = (m.0 ≤ m.1) × (m.1 ≡ count)

-- a whole packet of the fast path
abbrev pub IsFastWhole : List ℕ → Type 0
IsFastWhole [] = ⊥
IsFastWhole (b ∷ bs) = (b ≡ 0) × IsCounted (fast_length (b ∷ bs)) (length (b ∷ bs))

-- one whole packet, of either kind
abbrev pub IsWholePacket : List ℕ → Type 0
IsWholePacket packet = IsPacket packet ⊎ IsFastWhole packet

-- ---- a Pointer PDU's kind

-- that of a Pointer PDU stands at this offset
abbrev pub has_kind_at : List ℕ → ℕ → Bool
has_kind_at packet at = nat_lt at (length packet) && (get_or packet at 0 == pointer_kind)

-- at an offset where pduType2 may stand, behind a length of one byte or of two
abbrev pub may_be_pointer : List ℕ → Bool
may_be_pointer packet = has_kind_at packet 28 || has_kind_at packet 29
