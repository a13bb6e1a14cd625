-- The two forms of lengths: the packed encoding rules' (X.691, 10.9) and the basic encoding rules' (X.690, 8.1.3).
use Rattle.std.specs.Prelude.{ℕ, ◌+◌, ◌-◌, ◌*◌, ◌==◌, List, [], ◌∷◌, nat_lt, Ok, Err, if◌then◌else◌}
use Rattle.byteorder.specs.Endian.{big_bytes}
use Rattle.wire_num.specs.Field.{Read}
use Rattle.wire_num.specs.Number.{big_at}
use Rattle.wire_num.specs.FieldValue.{as_one_field}

-- the second byte of a packed length whose first one is b
abbrev pub long_per_at : ℕ → List ℕ → Read ℕ
long_per_at b [] = Err []
long_per_at b (c ∷ bs) = if nat_lt b 192 then Ok (256 * (b - 128) + c, bs) else Err (c ∷ bs)

-- a packed length: one byte below 128, or two whose top bits are 10 (X.691, 10.9.3.6 and 10.9.3.7)
abbrev pub per_len_at : List ℕ → Read ℕ
per_len_at [] = Err []
per_len_at (b ∷ bs) = if nat_lt b 128 then Ok (b, bs) else as_one_field (b ∷ bs) (long_per_at b bs)

-- a basic length: one byte below 128, 81 and one byte, or 82 and two (X.690, 8.1.3.4 and 8.1.3.5)
abbrev pub ber_len_at : List ℕ → Read ℕ
ber_len_at [] = Err []
ber_len_at (b ∷ bs) =
    if nat_lt b 128 then Ok (b, bs)
    else (if b == 129 then as_one_field (b ∷ bs) (big_at 1 bs)
    else (if b == 130 then as_one_field (b ∷ bs) (big_at 2 bs) else Err (b ∷ bs)))

-- the shortest packed length of n
abbrev pub per_len_of : ℕ → List ℕ
per_len_of n = if nat_lt n 128 then n ∷ [] else big_bytes 2 (32768 + n)

-- the shortest basic length of n
abbrev pub ber_len_of : ℕ → List ℕ
ber_len_of n = if nat_lt n 128 then n ∷ [] else (if nat_lt n 256 then 129 ∷ n ∷ [] else 130 ∷ big_bytes 2 n)
