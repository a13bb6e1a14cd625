-- A fast-path packet of the host with one update ([MS-RDPBCGR] 2.2.9.1.2).
use Rattle.std.specs.Prelude.{ℕ, ◌+◌, nat_lt, List, [], ◌∷◌, ◌++◌, length, if◌then◌else◌}
use Rattle.byteorder.specs.Endian.{big_bytes, little_bytes}

-- the length of a packet with one update of n bytes of data: in one byte below 128, else in two, the highest first, with the top bit set
abbrev pub packet_length : ℕ → List ℕ
packet_length n = if nat_lt (5 + n) 128 then (5 + n) ∷ [] else big_bytes 2 (32768 + (6 + n))

-- what stands before data of n bytes: action 0; the packet's length; the update's code; the size of its data
unfoldable pub fast_headers : ℕ → ℕ → List ℕ
fast_headers code n = 0 ∷ (packet_length n ++ code ∷ little_bytes 2 n)

-- the packet of an update of this code with these data
abbrev pub fast_packet : ℕ → List ℕ → List ℕ
fast_packet code bytes = fast_headers code (length bytes) ++ bytes
