-- What preset words confirm can be confirmed.
use Rattle.std.proofs.Common.{◌≡◌, ℕ, ◌<◌, ◌≤◌, List, [], ◌∷◌, replicate, refl, ◌∙◌, arith, Bool, true, false, Some, None}
use Rattle.std.specs.Prelude.{Option, IfSome, All, nat_le, ◌&&◌, ◌==◌, ◌-◌, drop, option_map, if◌then◌else◌, codes}
use Rattle.std.specs.Option.{option_and_then}
use Rattle.std.specs.Bool.{then_some}
use Rattle.std.specs.Char.{is_ascii_digit}
use Rattle.std.proofs.lemmas.Bool.Decides.{nat_tests}
use Rattle.std.proofs.lemmas.List.{length-set}
use Rattle.std.proofs.lemmas.List.Elements.{All-set, All-replicate, All-from_recursion}
use Rattle.px_core.specs.declared.depth.Depth.TheVariants.{Bits16}
use Rattle.line_text.specs.Words.{parts_at, is_same_word}
use Rattle.line_text.specs.Numbers.{number_of, at_most, number_up_to}
use Rattle.caps_sets.specs.declared.cache_size.CacheSize.{CacheSize}
use Rattle.caps_sets.specs.declared.confirmed.Confirmed.{Confirmed}
use Rattle.caps_sets.specs.Confirmed.{most_pointers, sized, plain, full, marked, bare, with_bitmap_cache, with_glyph_cache}
use Rattle.caps_sets.specs.Presets.{presets, preset_named, cache_limit, size_by, with_cache, overridden, is_pointer_word, with_pointers, overridden_word, overridden_by, confirmed_by}
use Rattle.viewer_rules.specs.Rounds.{IsSized, IsConfirmable}

and_found : {A B : Type 0} (P : A → Type 0) (Q : B → Type 0) (f : A → Option B) (o : Option A) → IfSome o P → ((a : A) → P a → IfSome (f a) Q) → IfSome (option_and_then f o) Q
and_found P Q f None h g = tt
and_found P Q f (Some a) h g = g a h

map_found : {A B : Type 0} (P : A → Type 0) (Q : B → Type 0) (f : A → B) (o : Option A) → IfSome o P → ((a : A) → P a → Q (f a)) → IfSome (option_map f o) Q
map_found P Q f None h g = tt
map_found P Q f (Some a) h g = g a h

-- ---- sizes of caches

abbrev IsSmall : ℕ → Type 0
IsSmall n = n < 65536

small_by : (o : Option ℕ) → IfSome (at_most cache_limit o) IsSmall
small_by None = tt
small_by (Some n) = by (nat_le n cache_limit) refl
  where
    by : (b : Bool) → nat_le n cache_limit ≡ b → IfSome (then_some b n) IsSmall
    by true e = grind (arith, nat_tests, e)
    by false e = tt

size_found : (parts : List (List ℕ)) → IfSome (size_by parts) IsSized
size_found [] = tt
size_found (a ∷ []) = tt
size_found (a ∷ b ∷ []) = and_found IsSmall IsSized (λ e. option_map (sized e) (number_up_to cache_limit b)) (number_up_to cache_limit a) (small_by (number_of a))
    (λ e h. map_found IsSmall IsSized (sized e) (number_up_to cache_limit b) (small_by (number_of b)) (λ n k. (h, k)))
size_found (a ∷ b ∷ c ∷ more) = tt

-- ---- overrides

bitmap_set : (k : ℕ) (s : CacheSize) (c : Confirmed) → IsConfirmable c → IsSized s → IsConfirmable (with_bitmap_cache k s c)
bitmap_set k s c h fits = record {
  bitmaps = length-set c.bitmaps k s ∙ h.bitmaps;
  glyphs = h.glyphs;
  level = h.level;
  bitmap_sizes = All-set IsSized c.bitmaps k s fits h.bitmap_sizes;
  glyph_sizes = h.glyph_sizes;
  pointers = h.pointers;
}

glyph_set : (k : ℕ) (s : CacheSize) (c : Confirmed) → IsConfirmable c → IsSized s → IsConfirmable (with_glyph_cache k s c)
glyph_set k s c h fits = record {
  bitmaps = h.bitmaps;
  glyphs = length-set c.glyphs k s ∙ h.glyphs;
  level = h.level;
  bitmap_sizes = h.bitmap_sizes;
  glyph_sizes = All-set IsSized c.glyphs k s fits h.glyph_sizes;
  pointers = h.pointers;
}

cache_found : (c : Confirmed) (kind : List ℕ) (k : ℕ) (s : CacheSize) → IsConfirmable c → IsSized s → IfSome (with_cache c kind k s) IsConfirmable
cache_found c kind k s h fits = by (is_same_word kind (codes "bc") && nat_le k 2) (is_same_word kind (codes "gc") && nat_le k 9)
  where
    by : (bitmap glyph : Bool) → IfSome (if bitmap then Some (with_bitmap_cache k s c) else (if glyph then Some (with_glyph_cache k s c) else None)) IsConfirmable
    by true glyph = bitmap_set k s c h fits
    by false true = glyph_set k s c h fits
    by false false = tt

override_found : (c : Confirmed) (word : List ℕ) → IsConfirmable c → IfSome (overridden c word) IsConfirmable
override_found c [] h = tt
override_found c (a ∷ []) h = tt
override_found c (a ∷ b ∷ []) h = tt
override_found c (a ∷ b ∷ k ∷ []) h = tt
override_found c (a ∷ b ∷ k ∷ sign ∷ rest) h = by (is_ascii_digit k && (sign == 61))
  where
    by : (t : Bool) → IfSome (if t then option_and_then (with_cache c (a ∷ b ∷ []) (k - 48)) (size_by (parts_at 44 rest)) else None) IsConfirmable
    by true = and_found IsSized IsConfirmable (with_cache c (a ∷ b ∷ []) (k - 48)) (size_by (parts_at 44 rest)) (size_found (parts_at 44 rest)) (λ s fits. cache_found c (a ∷ b ∷ []) (k - 48) s h fits)
    by false = tt

cautious_too : (c : Confirmed) → IsConfirmable c → IsConfirmable (record c { cautious = true })
cautious_too c h = record { bitmaps = h.bitmaps; glyphs = h.glyphs; level = h.level; bitmap_sizes = h.bitmap_sizes; glyph_sizes = h.glyph_sizes; pointers = h.pointers }

sixteen_too : (c : Confirmed) → IsConfirmable c → IsConfirmable (record c { depth = Bits16 })
sixteen_too c h = record { bitmaps = h.bitmaps; glyphs = h.glyphs; level = h.level; bitmap_sizes = h.bitmap_sizes; glyph_sizes = h.glyph_sizes; pointers = h.pointers }

fast_too : (c : Confirmed) → IsConfirmable c → IsConfirmable (record c { fast = true })
fast_too c h = record { bitmaps = h.bitmaps; glyphs = h.glyphs; level = h.level; bitmap_sizes = h.bitmap_sizes; glyph_sizes = h.glyph_sizes; pointers = h.pointers }

abbrev IsFew : ℕ → Type 0
IsFew n = n ≤ most_pointers

few_by : (o : Option ℕ) → IfSome (at_most most_pointers o) IsFew
few_by None = tt
few_by (Some n) = by (nat_le n most_pointers) refl
  where
    by : (b : Bool) → nat_le n most_pointers ≡ b → IfSome (then_some b n) IsFew
    by true e = grind (arith, nat_tests, e)
    by false e = tt

pointers_too : (c : Confirmed) (n : ℕ) → IsConfirmable c → n ≤ most_pointers → IsConfirmable (record c { pointers = n })
pointers_too c n h few = record { bitmaps = h.bitmaps; glyphs = h.glyphs; level = h.level; bitmap_sizes = h.bitmap_sizes; glyph_sizes = h.glyph_sizes; pointers = few }

pointers_found : (c : Confirmed) (digits : List ℕ) → IsConfirmable c → IfSome (with_pointers c digits) IsConfirmable
pointers_found c digits h =
    map_found IsFew IsConfirmable (λ n. record c { pointers = n }) (number_up_to most_pointers digits) (few_by (number_of digits)) (λ n few. pointers_too c n h few)

word_found : (c : Confirmed) (word : List ℕ) → IsConfirmable c → IfSome (overridden_word c word) IsConfirmable
word_found c word h = by (is_same_word word (codes "cautious")) (is_same_word word (codes "fast")) (is_same_word word (codes "bpp=16")) (is_pointer_word word)
  where
    by : (cautious fast sixteen pointer : Bool)
        → IfSome (if cautious then Some (record c { cautious = true })
        else (if fast then Some (record c { fast = true }) else (if sixteen then Some (record c { depth = Bits16 })
        else (if pointer then with_pointers c (drop 8 word) else overridden c word)))) IsConfirmable
    by true fast sixteen pointer = cautious_too c h
    by false true sixteen pointer = fast_too c h
    by false false true pointer = sixteen_too c h
    by false false false true = pointers_found c (drop 8 word) h
    by false false false false = override_found c word h

words_found : (c : Confirmed) (words : List (List ℕ)) → IsConfirmable c → IfSome (overridden_by c words) IsConfirmable
words_found c [] h = h
words_found c (word ∷ words) h = and_found IsConfirmable IsConfirmable (λ d. overridden_by d words) (overridden_word c word) (word_found c word h) (λ d k. words_found d words k)

-- ---- presets

abbrev Fits : List CacheSize → Type 0
Fits sizes = All IsSized sizes

none_fit : (n : ℕ) → Fits (replicate n (sized 0 0))
none_fit n = All-replicate IsSized n (sized 0 0) (omega arith, omega arith)

plain_too : IsConfirmable plain
plain_too = record { bitmaps = refl; glyphs = refl; level = omega arith; bitmap_sizes = none_fit 3; glyph_sizes = none_fit 10; pointers = omega arith }

bare_too : IsConfirmable bare
bare_too = record { bitmaps = refl; glyphs = refl; level = omega arith; bitmap_sizes = none_fit 3; glyph_sizes = none_fit 10; pointers = omega arith }

full_bitmaps : Fits full.bitmaps
full_bitmaps = All-from_recursion IsSized full.bitmaps ((omega arith, omega arith), ((omega arith, omega arith), ((omega arith, omega arith), tt)))

full_glyphs : Fits full.glyphs
full_glyphs = All-from_recursion IsSized full.glyphs (
  (omega arith, omega arith),
  (
    (omega arith, omega arith),
    (
      (omega arith, omega arith),
      (
        (omega arith, omega arith),
        (
          (omega arith, omega arith),
          (
            (omega arith, omega arith),
            ((omega arith, omega arith), ((omega arith, omega arith), ((omega arith, omega arith), ((omega arith, omega arith), tt)))),
          ),
        ),
      ),
    ),
  ),
)

full_too : IsConfirmable full
full_too = record { bitmaps = refl; glyphs = refl; level = omega arith; bitmap_sizes = full_bitmaps; glyph_sizes = full_glyphs; pointers = omega arith }

marked_too : IsConfirmable marked
marked_too = record { bitmaps = refl; glyphs = refl; level = omega arith; bitmap_sizes = full_bitmaps; glyph_sizes = full_glyphs; pointers = omega arith }

preset_found : (word : List ℕ) → IfSome (preset_named presets word) IsConfirmable
preset_found word = by (is_same_word word (codes "plain")) (is_same_word word (codes "full")) (is_same_word word (codes "marked")) (is_same_word word (codes "bare"))
  where
    by : (p f m b : Bool) → IfSome (if p then Some plain else (if f then Some full else (if m then Some marked else (if b then Some bare else None)))) IsConfirmable
    by true f m b = plain_too
    by false true m b = full_too
    by false false true b = marked_too
    by false false false true = bare_too
    by false false false false = tt

pub preset_words_found : (words : List (List ℕ)) → IfSome (confirmed_by presets words) IsConfirmable
preset_words_found [] = tt
preset_words_found (word ∷ words) = and_found IsConfirmable IsConfirmable (λ c. overridden_by c words) (preset_named presets word) (preset_found word) (λ c h. words_found c words h)
