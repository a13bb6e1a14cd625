-- The masks of an operation's code: one word for each bit of the code.
use Rattle.std.specs.Prelude.{ℕ, ◌-◌, ◌*◌, ◌^◌, List, [], ◌∷◌, bit_and, bit_xor}
use Rattle.std.specs.Int.{bit_at}

-- all ones where the code has a one at this place, else zero
abbrev pub mask : ℕ → ℕ → ℕ
mask code place = (2 ^ 24 - 1) * bit_at code place

abbrev pub masks_of : ℕ → List ℕ
masks_of code = mask code 0 ∷ mask code 1 ∷ mask code 2 ∷ mask code 3 ∷ mask code 4 ∷ mask code 5 ∷ mask code 6 ∷ mask code 7 ∷ []

-- the bits of `one` where these bits are set, else those of `zeros`
abbrev pub chosen : ℕ → ℕ → ℕ → ℕ
chosen bits zeros ones = bit_xor zeros (bit_and bits (bit_xor zeros ones))
