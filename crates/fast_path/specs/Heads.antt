-- Fast-path packets, and what stands at the head of a stream in which they and TPKT packets come ([MS-RDPBCGR] 2.2.8.1.2 and 2.2.9.1.2).
use Rattle.std.specs.Prelude.{◌≡◌, ◌≢◌, ◌<◌, ◌≤◌, Bool, false, ℕ, ◌+◌, ◌-◌, ◌*◌, ◌%◌, ◌==◌, ◌⊎◌, nat_lt, List, [], ◌∷◌, length, if◌then◌else◌}
use Rattle.tpkt_x224.specs.declared.tpkt.Packet.{Packet}
use Rattle.tpkt_x224.specs.declared.tpkt.Packet.TheVariants.{Whole, Part, NotTpkt, BadLength}
use Rattle.tpkt_x224.specs.Tpkt.{IsPacket, HasBadLength, packet_at, wanted_length}

-- ---- which bytes are a packet

-- behind the first of two length bytes, whose top bit is set: the packet's length, the highest byte first, and what it carries
abbrev pub IsCountedLong : ℕ → List ℕ → Type 0
IsCountedLong high [] = ⊥
IsCountedLong high (low ∷ carried) = 256 * (high - 128) + low ≡ 3 + length carried

-- behind a packet's first byte: the packet's length in one byte below 128, or in two, and what it carries
abbrev pub IsCounted : List ℕ → Type 0
IsCounted [] = ⊥
IsCounted (l ∷ bs) = ((l < 128) × (l ≡ 2 + length bs)) ⊎ ((128 ≤ l) × IsCountedLong l bs)

-- a whole fast-path packet: a byte with action 0 in its lowest two bits, and the rest by its length
abbrev pub IsFastPacket : List ℕ → Type 0
IsFastPacket [] = ⊥
IsFastPacket (v ∷ bs) = (v % 4 ≡ 0) × IsCounted bs

-- a whole packet of either kind; none is of both, since a TPKT packet's first byte is 3
abbrev pub IsStreamPacket : List ℕ → Type 0
IsStreamPacket bytes = IsPacket bytes ⊎ IsFastPacket bytes

-- ---- faults at a head

-- neither a TPKT packet's first byte nor a fast-path packet's
abbrev pub HasOtherAction : List ℕ → Type 0
HasOtherAction [] = ⊥
HasOtherAction (v ∷ bs) = (v ≢ 3) × (v % 4 ≢ 0)

-- behind the first of two length bytes: a length below the three bytes of the header and itself
abbrev pub IsShortLong : ℕ → List ℕ → Type 0
IsShortLong high [] = ⊥
IsShortLong high (low ∷ bs) = 256 * (high - 128) + low < 3

-- behind the first byte: a length below the bytes of the header and itself
abbrev pub IsShort : List ℕ → Type 0
IsShort [] = ⊥
IsShort (l ∷ bs) = (l < 2) ⊎ ((128 ≤ l) × IsShortLong l bs)

-- a fast-path packet's first byte, and a length that is no packet's
abbrev pub HasShortLength : List ℕ → Type 0
HasShortLength [] = ⊥
HasShortLength (v ∷ bs) = (v % 4 ≡ 0) × IsShort bs

-- ---- what stands at a head

-- a packet of n bytes, of which the header and the length have k, and so many bytes are there
abbrev pub packet_of_size : ℕ → ℕ → ℕ → Packet
packet_of_size k n there = if nat_lt n k then BadLength else (if nat_lt there n then Part else Whole n)

-- behind the first of two length bytes
abbrev pub after_long : ℕ → List ℕ → Packet
after_long high [] = Part
after_long high (low ∷ bs) = packet_of_size 3 (256 * (high - 128) + low) (3 + length bs)

-- behind the first byte
abbrev pub after_action : List ℕ → Packet
after_action [] = Part
after_action (l ∷ bs) = if nat_lt l 128 then packet_of_size 2 l (2 + length bs) else after_long l bs

-- What stands at the head of bytes whose first one has action 0. A length below the bytes of the header and itself is seen as soon as
-- its bytes are there.
abbrev pub fast_packet_at : List ℕ → Packet
fast_packet_at [] = Part
fast_packet_at (v ∷ bs) = after_action bs

-- what stands at the head of a stream of both kinds: a first byte of 3 is a TPKT packet's, one with action 0 a fast-path packet's
abbrev pub stream_packet_at : List ℕ → Packet
stream_packet_at [] = Part
stream_packet_at (v ∷ bs) = if v == 3 then packet_at (v ∷ bs) else (if v % 4 == 0 then fast_packet_at (v ∷ bs) else NotTpkt)

-- whether there is a first byte that has action 0
abbrev pub is_fast : List ℕ → Bool
is_fast [] = false
is_fast (v ∷ bs) = v % 4 == 0

-- how many bytes must be there before more can be said, behind the first of two length bytes
abbrev pub wanted_long : ℕ → List ℕ → ℕ
wanted_long high [] = 3
wanted_long high (low ∷ bs) = 256 * (high - 128) + low

-- behind a fast-path packet's first byte
abbrev pub wanted_fast : List ℕ → ℕ
wanted_fast [] = 2
wanted_fast (l ∷ bs) = if nat_lt l 128 then l else wanted_long l bs

-- how many bytes of a stream of both kinds must be there before more can be said of its head: two; then the header and the length, and behind them the packet
abbrev pub wanted_in_stream : List ℕ → ℕ
wanted_in_stream [] = 2
wanted_in_stream (v ∷ bs) = if v % 4 == 0 then wanted_fast bs else wanted_length (v ∷ bs)

-- the first byte has action 0, where there is one
abbrev pub BeginsFast : List ℕ → Type 0
BeginsFast [] = Unit {0}
BeginsFast (v ∷ bs) = v % 4 ≡ 0

-- a TPKT length below 7, or a fast-path length below the bytes of the header and itself
abbrev pub HasBadStreamLength : List ℕ → Type 0
HasBadStreamLength bytes = HasBadLength bytes ⊎ HasShortLength bytes
