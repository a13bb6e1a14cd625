-- Words of the network viewer's command line, worked out by hand.
use Rattle.std.specs.Prelude.{◌≡◌, is_some, true, [], ◌∷◌, Some, None, codes}
use Rattle.std.proofs.Common.{refl}
use Rattle.caps_sets.specs.Confirmed.{plain, full, with_bitmap_cache, sized}
use Rattle.command_words.specs.ViewWords.{viewing, viewing_of_words}

a_preset : viewing_of_words (codes "3389") (codes "bob") (codes "1") (codes "plain" ∷ []) ≡ Some (viewing 3389 (codes "bob") 1 plain)
a_preset = refl

an_override : viewing_of_words (codes "65535") (codes "ann.b_1") (codes "65535") (codes "full" ∷ codes "bc0=1,2" ∷ [])
    ≡ Some (viewing 65535 (codes "ann.b_1") 65535 (with_bitmap_cache 0 (sized 1 2) full))
an_override = refl

cautious : viewing_of_words (codes "1") (codes "a") (codes "1") (codes "full" ∷ codes "cautious" ∷ []) ≡ Some (viewing 1 (codes "a") 1 (record full { cautious = true }))
cautious = refl

-- 16 bits for each pixel have a word, and 24 have none
sixteen_bits : is_some (viewing_of_words (codes "1") (codes "a") (codes "1") (codes "full" ∷ codes "bpp=16" ∷ [])) ≡ true
sixteen_bits = refl

twenty_four_bits : viewing_of_words (codes "1") (codes "a") (codes "1") (codes "full" ∷ codes "bpp=24" ∷ []) ≡ None
twenty_four_bits = refl

-- a port, or a number of marks, that isn't one
port_0 : viewing_of_words (codes "0") (codes "bob") (codes "1") (codes "full" ∷ []) ≡ None
port_0 = refl

port_65536 : viewing_of_words (codes "65536") (codes "bob") (codes "1") (codes "full" ∷ []) ≡ None
port_65536 = refl

marks_0 : viewing_of_words (codes "3389") (codes "bob") (codes "0") (codes "full" ∷ []) ≡ None
marks_0 = refl

leading_zero : viewing_of_words (codes "03389") (codes "bob") (codes "1") (codes "full" ∷ []) ≡ None
leading_zero = refl

-- no name
no_name : viewing_of_words (codes "3389") [] (codes "1") (codes "full" ∷ []) ≡ None
no_name = refl

bad_name : viewing_of_words (codes "3389") (codes "bob!") (codes "1") (codes "full" ∷ []) ≡ None
bad_name = refl

-- each preset word is one word of the command
no_preset : viewing_of_words (codes "3389") (codes "bob") (codes "1") [] ≡ None
no_preset = refl

two_in_one : viewing_of_words (codes "3389") (codes "bob") (codes "1") (codes "full bc0=1,2" ∷ []) ≡ None
two_in_one = refl

empty_word : viewing_of_words (codes "3389") (codes "bob") (codes "1") (codes "full" ∷ [] ∷ []) ≡ None
empty_word = refl

unknown_preset : viewing_of_words (codes "3389") (codes "bob") (codes "1") (codes "most" ∷ []) ≡ None
unknown_preset = refl

pointers : viewing_of_words (codes "3389") (codes "bob") (codes "1") (codes "full" ∷ codes "pointer=0" ∷ []) ≡ None
pointers = refl
