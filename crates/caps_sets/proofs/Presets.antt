-- Some sizes of the presets, the cache that serves, and what words confirm.
use Rattle.std.proofs.Common.{◌≡◌, [], ◌∷◌, refl, Some, None, true, codes}
use Rattle.std.specs.Prelude.{nat_le, ◌&&◌}
use Rattle.px_core.specs.declared.depth.Depth.TheVariants.{Bits24, Bits16}
use Rattle.caps_sets.specs.Confirmed.{plain, full, bare, marked, sized, with_bitmap_cache, with_glyph_cache, cache_size, first_cache, depth_of}
use Rattle.caps_sets.specs.Presets.{presets, confirmed_by}
use Rattle.line_text.specs.Words.{words_of}

-- the lowest bitmap cache of `full` for 64 by 64 pixels is cache 2
third_bitmap_cache : cache_size full.bitmaps 2 ≡ sized 336 12288
third_bitmap_cache = refl

serves_64_by_64 : first_cache (λ s. nat_le 1 s.entries && nat_le 12288 s.cell) full.bitmaps ≡ Some 2
serves_64_by_64 = refl

-- one byte less of the greatest cell, and none serves
serves_none : first_cache (λ s. nat_le 1 s.entries && nat_le 12288 s.cell) (with_bitmap_cache 2 (sized 336 12287) full).bitmaps ≡ None
serves_none = refl

last_glyph_cache : cache_size marked.glyphs 9 ≡ sized 64 2048
last_glyph_cache = refl

overridden : cache_size (with_glyph_cache 0 (sized 3 4) bare).glyphs 0 ≡ sized 3 4
overridden = refl

-- what words confirm
marked_alone : confirmed_by presets (words_of (codes "marked")) ≡ Some (record full { marker = true })
marked_alone = refl

later_overrides_count : confirmed_by presets (words_of (codes "full bc2=1,2 cautious bc2=336,12287 gc9=0,65535"))
    ≡ Some (record full {
      bitmaps = sized 120 768 ∷ sized 120 3072 ∷ sized 336 12287 ∷ [];
      glyphs = sized 254 4 ∷ sized 254 4 ∷ sized 254 8 ∷ sized 254 8 ∷ sized 254 16 ∷ sized 254 32 ∷ sized 254 64 ∷ sized 254 128 ∷ sized 254 256 ∷ sized 0 65535 ∷ [];
      cautious = true;
    })
later_overrides_count = refl

-- 16 bits by a word, as often and wherever it stands among the overrides
at_sixteen_bits : confirmed_by presets (words_of (codes "plain bpp=16")) ≡ Some (record plain { depth = Bits16 })
at_sixteen_bits = refl

sixteen_bits_anywhere : confirmed_by presets (words_of (codes "plain bpp=16 cautious bc0=1,2 bpp=16"))
    ≡ Some (record plain { bitmaps = sized 1 2 ∷ sized 0 0 ∷ sized 0 0 ∷ []; cautious = true; depth = Bits16 })
sixteen_bits_anywhere = refl

at_twenty_four_bits : depth_of marked ≡ Bits24
at_twenty_four_bits = refl

-- updates of the fast path by a whole word, in any place
fast_by_a_word : confirmed_by presets (words_of (codes "plain fast")) ≡ Some (record plain { fast = true })
fast_by_a_word = refl

fast_among_others : confirmed_by presets (words_of (codes "full fast bpp=16 fast cautious")) ≡ Some (record full { cautious = true; depth = Bits16; fast = true })
fast_among_others = refl

a_longer_word : confirmed_by presets (words_of (codes "plain faster")) ≡ None
a_longer_word = refl

a_value_of_fast : confirmed_by presets (words_of (codes "plain fast=1")) ≡ None
a_value_of_fast = refl

fast_before_the_preset : confirmed_by presets (words_of (codes "fast plain")) ≡ None
fast_before_the_preset = refl

-- so many shapes of pointers, by a number without a leading zero, up to 25
two_pointers : confirmed_by presets (words_of (codes "plain pointer=2")) ≡ Some (record plain { pointers = 2 })
two_pointers = refl

twenty_five_pointers : confirmed_by presets (words_of (codes "plain pointer=25")) ≡ Some (record plain { pointers = 25 })
twenty_five_pointers = refl

twenty_six_pointers : confirmed_by presets (words_of (codes "full pointer=26")) ≡ None
twenty_six_pointers = refl

no_pointers : confirmed_by presets (words_of (codes "plain pointer=0")) ≡ Some plain
no_pointers = refl

no_pointers_at_last : confirmed_by presets (words_of (codes "full pointer=25 fast pointer=0")) ≡ Some (record full { fast = true })
no_pointers_at_last = refl

later_pointers_count : confirmed_by presets (words_of (codes "plain pointer=3 pointer=7")) ≡ Some (record plain { pointers = 7 })
later_pointers_count = refl

an_earlier_word_is_wrong : confirmed_by presets (words_of (codes "plain pointer=26 pointer=7")) ≡ None
an_earlier_word_is_wrong = refl

a_leading_zero : confirmed_by presets (words_of (codes "plain pointer=025")) ≡ None
a_leading_zero = refl

two_zeros : confirmed_by presets (words_of (codes "plain pointer=00")) ≡ None
two_zeros = refl

no_number : confirmed_by presets (words_of (codes "plain pointer=")) ≡ None
no_number = refl

a_sign : confirmed_by presets (words_of (codes "plain pointer=+2")) ≡ None
a_sign = refl

a_letter_behind : confirmed_by presets (words_of (codes "plain pointer=2x")) ≡ None
a_letter_behind = refl

pointers_alone : confirmed_by presets (words_of (codes "plain pointer")) ≡ None
pointers_alone = refl

pointers_in_the_plural : confirmed_by presets (words_of (codes "plain pointers=2")) ≡ None
pointers_in_the_plural = refl

pointers_before_the_preset : confirmed_by presets (words_of (codes "pointer=2 plain")) ≡ None
pointers_before_the_preset = refl

-- no other number of bits is such a word, nor is one more letter
twenty_four_bits_said : confirmed_by presets (words_of (codes "plain bpp=24")) ≡ None
twenty_four_bits_said = refl

fifteen_bits_said : confirmed_by presets (words_of (codes "plain bpp=15")) ≡ None
fifteen_bits_said = refl

a_longer_number : confirmed_by presets (words_of (codes "plain bpp=160")) ≡ None
a_longer_number = refl

bits_before_the_preset : confirmed_by presets (words_of (codes "bpp=16 plain")) ≡ None
bits_before_the_preset = refl

no_words : confirmed_by presets (words_of []) ≡ None
no_words = refl

unknown_preset : confirmed_by presets (words_of (codes "cautious full")) ≡ None
unknown_preset = refl

fourth_bitmap_cache : confirmed_by presets (words_of (codes "bare bc3=1,1")) ≡ None
fourth_bitmap_cache = refl

cell_past_the_limit : confirmed_by presets (words_of (codes "bare bc0=1,65536")) ≡ None
cell_past_the_limit = refl

a_word_too_many : confirmed_by presets (words_of (codes "full ")) ≡ None
a_word_too_many = refl
