-- Numbers in fields. They are written by `little_bytes`, the lowest byte first, and by `big_bytes`, the highest first.
use Rattle.std.specs.Prelude.{◌<◌, ℕ, suc, ◌+◌, ◌-◌, ◌*◌, ◌^◌, ℤ, pos, negsuc, List, [], ◌∷◌}
use Rattle.byteorder.specs.Endian.{little_bytes, twos_complement}
use Rattle.wire_num.specs.Field.{Read, map_read, bytes_at}

-- the number in bytes, the lowest first
abbrev pub little_value : List ℕ → ℕ
little_value [] = 0
little_value (b ∷ bs) = b + 256 * little_value bs

-- the number in bytes behind a number, the highest first
abbrev pub big_after : ℕ → List ℕ → ℕ
big_after n [] = n
big_after n (b ∷ bs) = big_after (256 * n + b) bs

-- the number in bytes, the highest first
abbrev pub big_value : List ℕ → ℕ
big_value bs = big_after 0 bs

-- a field of n bytes that is a number, the lowest byte first
abbrev pub little_at : ℕ → List ℕ → Read ℕ
little_at n bs = map_read little_value (bytes_at n bs)

-- the same, the highest byte first
abbrev pub big_at : ℕ → List ℕ → Read ℕ
big_at n bs = map_read big_value (bytes_at n bs)

-- the number of n bytes that stands for a signed one
abbrev pub unsigned : ℕ → ℤ → ℕ
unsigned n (pos x) = x
unsigned n (negsuc x) = 256 ^ n - suc x

-- a signed number has place in n bytes
abbrev pub IsSigned : ℕ → ℤ → Type 0
IsSigned n (pos x) = x < 2 ^ (8 * n - 1)
IsSigned n (negsuc x) = x < 2 ^ (8 * n - 1)

-- a signed number in n bytes, the lowest first
abbrev pub little_signed : ℕ → ℤ → List ℕ
little_signed n z = little_bytes n (unsigned n z)

-- a field of n bytes that is a signed number, the lowest byte first
abbrev pub little_signed_at : ℕ → List ℕ → Read ℤ
little_signed_at n bs = map_read (λ x. twos_complement n x) (little_at n bs)
