-- How many bytes a packet of the fast path has.
use Rattle.std.proofs.Common.{ℕ, ◌+◌, ◌≤◌, Bool, true, false, List, [], ◌∷◌, ◌++◌, length, arith}
use Rattle.std.specs.Prelude.{nat_lt, if◌then◌else◌}
use Rattle.byteorder.specs.Endian.{big_bytes, little_bytes}
use Rattle.fast_path.specs.Written.{fast_headers, fast_packet}

-- what stands before data, by the form of the length
abbrev headers_by : Bool → ℕ → ℕ → List ℕ
headers_by b code n = 0 ∷ ((if b then (5 + n) ∷ [] else big_bytes 2 (32768 + (6 + n))) ++ code ∷ little_bytes 2 n)

short_by : (b : Bool) (code : ℕ) (bytes : List ℕ) → length bytes ≤ 16377 → length (headers_by b code (length bytes) ++ bytes) ≤ 16383
short_by true code bytes few = omega (arith, few)
short_by false code bytes few = omega (arith, few)

-- data that are short enough
pub fast_short : (code : ℕ) (bytes : List ℕ) → length bytes ≤ 16377 → length (fast_packet code bytes) ≤ 16383
unfolding fast_headers
fast_short code bytes few = short_by (nat_lt (5 + length bytes) 128) code bytes few
