-- An operation as a sum of products of its operands, by exclusive or: the algebraic normal form of its code.
use Rattle.std.specs.Prelude.{◌≡◌, ℕ, ◌+◌, ◌%◌, ◌<◌, List, bit_and, bit_xor, min, slice_index}
use Rattle.std.specs.Int.{bit_at}
use Rattle.rop3_core.specs.Rop3.{raster_bit, ternary_raster}

-- a word, and another added where these bits are set
abbrev pub added : ℕ → ℕ → ℕ → ℕ
added bits one more = bit_xor one (bit_and bits more)

-- the sum of the products 1, d, x and xd, each as its word says
abbrev pub sum_of_two : List ℕ → ℕ → ℕ → ℕ
sum_of_two words x d = added x (added d (slice_index words 0) (slice_index words 1)) (added d (slice_index words 2) (slice_index words 3))

-- the sum of the products without the pattern, and of those with it
abbrev pub sum_of_three : List ℕ → List ℕ → ℕ → ℕ → ℕ → ℕ
sum_of_three low high p s d = added p (sum_of_two low s d) (sum_of_two high s d)

-- the sum of products that have these words is the operation of a code
abbrev pub IsSumOf : ℕ → List ℕ → List ℕ → Type 0
IsSumOf code low high = (p s d : ℕ) → sum_of_three low high p s d ≡ ternary_raster code p s d

-- the same of single bits
abbrev pub added_bit : ℕ → ℕ → ℕ → ℕ
added_bit bit one more = (one + min bit more) % 2

-- the sum of products: that of the operands which are 1 in 4p + 2s + d is in it where the bit of this number is 1
abbrev pub sum_bit : (ℕ → ℕ) → ℕ → ℕ → ℕ → ℕ
sum_bit bit p s d = added_bit p
    (added_bit s (added_bit d (bit 0) (bit 1)) (added_bit d (bit 2) (bit 3)))
    (added_bit s (added_bit d (bit 4) (bit 5)) (added_bit d (bit 6) (bit 7)))

-- with the products that a form has, the sum is what the code makes of each three bits
abbrev pub IsNormalForm : ℕ → ℕ → Type 0
IsNormalForm code form = (p s d : ℕ) → p < 2 → s < 2 → d < 2 → sum_bit (bit_at form) p s d ≡ raster_bit code p s d
