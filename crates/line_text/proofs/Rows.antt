-- Worked texts.
use Rattle.std.proofs.Common.{◌≡◌, [], ◌∷◌, ◌++◌, refl, true, false, Some, None, codes}
use Rattle.std.specs.Prelude.{pos, negsuc}
use Rattle.line_text.specs.Lines.{lines_of, is_past_limits}
use Rattle.line_text.specs.Words.{words_of, parts_at}
use Rattle.line_text.specs.Numbers.{number_of, number_up_to, coordinate_of}
use Rattle.line_text.specs.Hexadecimal.{hexadecimal_of, hexadecimals, hexadecimals_of, hexadecimal_text}

no_lines : lines_of [] ≡ []
no_lines = refl

two_lines : lines_of (codes "size 4 1" ++ 10 ∷ codes "take" ++ 10 ∷ [])
    ≡ record { text = codes "size 4 1"; ended = true } ∷ record { text = codes "take"; ended = true } ∷ []
two_lines = refl

an_empty_line_and_an_unended_one : lines_of (10 ∷ codes "take") ≡ record { text = []; ended = true } ∷ record { text = codes "take"; ended = false } ∷ []
an_empty_line_and_an_unended_one = refl

at_the_limit : is_past_limits 268435451 (record { text = codes "take"; ended = true }) ≡ false
at_the_limit = refl

past_the_limit : is_past_limits 268435452 (record { text = codes "take"; ended = true }) ≡ true
past_the_limit = refl

three_words : words_of (codes "size 64 48") ≡ codes "size" ∷ codes "64" ∷ codes "48" ∷ []
three_words = refl

an_empty_word : words_of (codes "take ") ≡ codes "take" ∷ [] ∷ []
an_empty_word = refl

no_word : words_of [] ≡ [] ∷ []
no_word = refl

a_pair : parts_at 58 (codes "65:0") ≡ codes "65" ∷ codes "0" ∷ []
a_pair = refl

nought : number_of (codes "0") ≡ Some 0
nought = refl

a_number : number_of (codes "65535") ≡ Some 65535
a_number = refl

a_leading_zero : number_of (codes "00") ≡ None
a_leading_zero = refl

no_digit : number_of [] ≡ None
no_digit = refl

a_letter : number_of (codes "1a") ≡ None
a_letter = refl

too_large : number_up_to 255 (codes "256") ≡ None
too_large = refl

a_negative_coordinate : coordinate_of (codes "-4096") ≡ Some (negsuc 4095)
a_negative_coordinate = refl

minus_nought : coordinate_of (codes "-0") ≡ Some (pos 0)
minus_nought = refl

two_signs : coordinate_of (codes "--1") ≡ None
two_signs = refl

a_colour : hexadecimal_of 6 (codes "FF00a0") ≡ Some 0xFF00A0
a_colour = refl

too_few_digits : hexadecimal_of 6 (codes "FF00a") ≡ None
too_few_digits = refl

two_colours : hexadecimals_of 6 (codes "000001FFFFFF") ≡ Some (1 ∷ 0xFFFFFF ∷ [])
two_colours = refl

a_digit_left_over : hexadecimals_of 2 (codes "FF0") ≡ None
a_digit_left_over = refl

a_row_of_a_glyph : hexadecimals 1 2 (codes "F0") ≡ Some (0xF0 ∷ [])
a_row_of_a_glyph = refl

two_bytes : hexadecimal_text (3 ∷ 0xEB ∷ []) ≡ codes "03eb"
two_bytes = refl
