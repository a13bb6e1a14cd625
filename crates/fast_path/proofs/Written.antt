-- Packets that are written: their size, and that they are whole.
use Rattle.std.proofs.Common.{◌≡◌, ℕ, ◌+◌, ◌/◌, ◌%◌, ◌≤◌, ◌<◌, Bool, true, false, List, [], ◌∷◌, ◌++◌, length, inl, inr, refl, arith}
use Rattle.std.specs.Prelude.{nat_lt, if◌then◌else◌}
use Rattle.std.proofs.lemmas.Bool.Decides.{nat_tests}
use Rattle.byteorder.specs.Endian.{big_bytes, little_bytes}
use Rattle.fast_path.specs.Heads.{IsFastPacket}
use Rattle.fast_path.specs.Written.{fast_headers, fast_packet}

-- what stands before data, by the form of the length
abbrev headers_by : Bool → ℕ → ℕ → List ℕ
headers_by b code n = 0 ∷ ((if b then (5 + n) ∷ [] else big_bytes 2 (32768 + (6 + n))) ++ code ∷ little_bytes 2 n)

pub fast_data : (code : ℕ) (bytes : List ℕ) → length (fast_packet code bytes) ≤ 16383 → length bytes ≤ 16377
unfolding fast_headers
fast_data code bytes h = by (nat_lt (5 + length bytes) 128) refl h
  where
    by : (b : Bool) → nat_lt (5 + length bytes) 128 ≡ b → length (headers_by b code (length bytes) ++ bytes) ≤ 16383 → length bytes ≤ 16377
    by true e h = let few : 5 + length bytes < 128 = grind (arith, nat_tests, e) in omega (arith, few)
    by false e h = omega (arith, h)

whole_by : (b : Bool) (code : ℕ) (bytes : List ℕ) → nat_lt (5 + length bytes) 128 ≡ b → length bytes ≤ 32761 → IsFastPacket (headers_by b code (length bytes) ++ bytes)
whole_by true code bytes e few =
    let short : 5 + length bytes < 128 = grind (arith, nat_tests, e) in
    (refl, inl (short, omega arith))
whole_by false code bytes e few =
    let high : (32768 + (6 + length bytes)) / 256 % 256 ≡ 128 + (6 + length bytes) / 256 = omega (arith, few) in
    let low : (32768 + (6 + length bytes)) % 256 ≡ (6 + length bytes) % 256 = omega (arith, few) in
    (refl, inr (omega (arith, high), omega (arith, high, low)))

pub fast_whole : (code : ℕ) (bytes : List ℕ) → length bytes ≤ 32761 → IsFastPacket (fast_packet code bytes)
unfolding fast_headers
fast_whole code bytes few = whole_by (nat_lt (5 + length bytes) 128) code bytes refl few
