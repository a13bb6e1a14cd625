-- Worked sums of products, by which a raster operation is made of sixteen pixels at once.
use Rattle.std.proofs.Common.{◌≡◌, ◌∷◌, [], ◌/◌, ◌%◌, ℕ, List, map, refl, arith}
use Rattle.lane_rop.specs.Sums.{sum_of_two, sum_of_three, sum_bit}
use Rattle.lane_rop.specs.Rows.{AreMade}
use Rattle.std.specs.Int.{bit_at}

-- x is 1100 and d is 1010: the products 1, d, x and xd, each alone
-- wrong: the second word is that of x, the third that of d
the_four_products : map (λ (words : List ℕ). sum_of_two words 0xC 0xA)
    ((0xF ∷ 0 ∷ 0 ∷ 0 ∷ []) ∷ (0 ∷ 0xF ∷ 0 ∷ 0 ∷ []) ∷ (0 ∷ 0 ∷ 0xF ∷ 0 ∷ []) ∷ (0 ∷ 0 ∷ 0 ∷ 0xF ∷ []) ∷ []) ≡ 0xF ∷ 0xA ∷ 0xC ∷ 0x8 ∷ []
the_four_products = refl

-- all four, added by exclusive or, are where neither is set
-- wrong: products are added by or
all_four_are_neither : sum_of_two (0xF ∷ 0xF ∷ 0xF ∷ 0xF ∷ []) 0xC 0xA ≡ 0x1
all_four_are_neither = refl

-- the pattern is 11110000, and of the products with it there is the pattern alone
-- wrong: the first words are those of the products with the pattern
the_second_words_are_those_with_the_pattern : sum_of_three (0 ∷ 0 ∷ 0 ∷ 0 ∷ []) (0xFF ∷ 0 ∷ 0 ∷ 0 ∷ []) 0xF0 0xCC 0xAA ≡ 0xF0
the_second_words_are_those_with_the_pattern = refl

-- of pattern, source and destination, from 000 up to 111
abbrev bits_of : ℕ → List ℕ
bits_of form = map (λ (n : ℕ). sum_bit (bit_at form) (n / 4) (n / 2 % 2) (n % 2)) (0 ∷ 1 ∷ 2 ∷ 3 ∷ 4 ∷ 5 ∷ 6 ∷ 7 ∷ [])

-- the source alone is bit 2 of the form; pattern xor destination are bits 4 and 1
-- wrong: bit 1 of a form is the source
the_form_of_a_source_copy : bits_of 4 ≡ 0 ∷ 0 ∷ 1 ∷ 1 ∷ 0 ∷ 0 ∷ 1 ∷ 1 ∷ []
the_form_of_a_source_copy = refl

-- wrong: bits are added by or
the_form_of_an_inverting_pattern : bits_of 18 ≡ 0 ∷ 1 ∷ 0 ∷ 1 ∷ 1 ∷ 0 ∷ 1 ∷ 0 ∷ []
the_form_of_an_inverting_pattern = refl

-- a part of a row ends before its end
-- wrong: a part of a row has the place at its end
the_end_stays_as_it_was : AreMade (λ (k : ℕ). 9) 0 1 (5 ∷ 6 ∷ []) (9 ∷ 9 ∷ []) → ⊥
the_end_stays_as_it_was h = let same : 9 ≡ 6 = h.behind 1 (omega arith) in omega (arith, same)
