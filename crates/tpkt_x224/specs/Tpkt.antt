-- TPKT packets (RFC 1006, section 6).
use Rattle.std.specs.Prelude.{◌<◌, ◌≢◌, ◌≡◌, ◌≤◌, ℕ, ◌+◌, ◌*◌, ◌==◌, nat_lt, List, [], ◌∷◌, ◌++◌, length, if◌then◌else◌}
use Rattle.byteorder.specs.Endian.{big_bytes}
use Rattle.tpkt_x224.specs.declared.tpkt.Packet.{Packet}
use Rattle.tpkt_x224.specs.declared.tpkt.Packet.TheVariants.{Whole, Part, NotTpkt, BadLength}

-- a whole packet: version 3, a byte of any value, the packet's length in two bytes, and what it carries, which begins with
-- an X.224 header of at least three bytes
abbrev pub IsPacket : List ℕ → Type 0
IsPacket (v ∷ r ∷ h ∷ l ∷ carried) = (v ≡ 3) × (256 * h + l ≡ 4 + length carried) × (3 ≤ length carried)
IsPacket (v ∷ r ∷ h ∷ []) = ⊥
IsPacket (v ∷ r ∷ []) = ⊥
IsPacket (v ∷ []) = ⊥
IsPacket [] = ⊥

-- another version stands at the head
abbrev pub HasWrongVersion : List ℕ → Type 0
HasWrongVersion [] = ⊥
HasWrongVersion (v ∷ bs) = v ≢ 3

-- the right version, and a length that is no packet's
abbrev pub HasBadLength : List ℕ → Type 0
HasBadLength (v ∷ r ∷ h ∷ l ∷ carried) = (v ≡ 3) × (256 * h + l < 7)
HasBadLength (v ∷ r ∷ h ∷ []) = ⊥
HasBadLength (v ∷ r ∷ []) = ⊥
HasBadLength (v ∷ []) = ⊥
HasBadLength [] = ⊥

-- the packet that carries these bytes
abbrev pub packet_of : List ℕ → List ℕ
packet_of carried = (3 ∷ 0 ∷ big_bytes 2 (4 + length carried)) ++ carried

-- a packet of n bytes, of which so many are there behind its header
abbrev pub packet_of_length : ℕ → ℕ → Packet
packet_of_length n carried =
    if nat_lt n 7 then BadLength else (if nat_lt (4 + carried) n then Part else Whole n)

-- the same, behind the version
abbrev pub after_version : List ℕ → Packet
after_version [] = Part
after_version (r ∷ []) = Part
after_version (r ∷ h ∷ []) = Part
after_version (r ∷ h ∷ l ∷ carried) = packet_of_length (256 * h + l) (length carried)

-- what stands at the head of a stream: a wrong version and a length below 7 are seen as soon as their bytes are there
abbrev pub packet_at : List ℕ → Packet
packet_at [] = Part
packet_at (v ∷ bs) = if v == 3 then after_version bs else NotTpkt

-- how many bytes of a stream must be there before more can be said of its head: the header, and behind it the packet
abbrev pub wanted_length : List ℕ → ℕ
wanted_length [] = 4
wanted_length (v ∷ []) = 4
wanted_length (v ∷ r ∷ []) = 4
wanted_length (v ∷ r ∷ h ∷ []) = 4
wanted_length (v ∷ r ∷ h ∷ l ∷ carried) = 256 * h + l
