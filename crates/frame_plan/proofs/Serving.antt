-- Caches that serve an image or a run are those that have what is needed.
use Rattle.std.proofs.Common.{◌≡◌, ℕ, ◌+◌, ◌*◌, ◌/◌, List, [], ◌∷◌, sym, refl, ap, ◌∙◌, arith, min}
use Rattle.std.specs.Prelude.{Bool, ◌&&◌, nat_le, Some, if◌then◌else◌}
use Rattle.std.proofs.lemmas.Bool.Decides.{nat_tests}
use Rattle.px_core.proofs.Stretches.{same_test}
use Rattle.caps_sets.specs.declared.cache_size.CacheSize.{CacheSize}
use Rattle.caps_sets.specs.Confirmed.{first_cache, first_cache_from}
use Rattle.draw_ops.specs.Content.{ImageOf, GlyphOf}
use Rattle.draw_ops.specs.Slots.{Loaded}
use Rattle.frame_rules.specs.Support.{serves_image, serves_run, greatest_cell, distinct_loads}
use Rattle.frame_plan.specs.declared.needs.Needs.{Needs}
use Rattle.frame_plan.specs.Needs.{serves}

first_as : (f g : CacheSize → Bool) → ((s : CacheSize) → f s ≡ g s) → (n : ℕ) (ss : List CacheSize) → first_cache_from n f ss ≡ first_cache_from n g ss
first_as f g same n [] = refl
first_as f g same n (s ∷ ss) = ap (λ b. if b then Some n else first_cache_from (n + 1) f ss) (same s)
    ∙ ap (λ o. if g s then Some n else o) (first_as f g same (n + 1) ss)

-- a cell that is counted in words
cell_words : (cell words bytes : ℕ) → bytes ≡ 4 * words → nat_le words (cell / 4) ≡ nat_le bytes cell
cell_words cell words bytes e =
    same_test (nat_le words (cell / 4)) (nat_le bytes cell) (λ h. grind (arith, nat_tests, h, e)) (λ h. grind (arith, nat_tests, h, e))

-- one entry that is used
one_entry : (entries : ℕ) → nat_le 1 (min entries 512) ≡ nat_le 1 entries
one_entry entries = same_test (nat_le 1 (min entries 512)) (nat_le 1 entries) (λ h. grind (arith, nat_tests, h)) (λ h. grind (arith, nat_tests, h))

pub image_needs : (image : ImageOf) (columns : ℕ) (sizes : List CacheSize) → columns ≡ (image.w + 3) / 4
    → first_cache (serves (record { entries = 1; most = 512; words = 3 * (columns * image.h) })) sizes ≡ first_cache (serves_image image) sizes
image_needs image columns sizes e = first_as (serves needs) (serves_image image) same 0 sizes
  where
    needs : Needs
    needs = record { entries = 1; most = 512; words = 3 * (columns * image.h) }

    bytes : 3 * (4 * ((image.w + 3) / 4) * image.h) ≡ 4 * (3 * (columns * image.h))
    bytes = ap (λ q. 3 * (4 * q * image.h)) (sym e) ∙ (omega arith)

    same : (s : CacheSize) → serves needs s ≡ serves_image image s
    same s = ap (λ b. b && nat_le (3 * (columns * image.h)) (s.cell / 4)) (one_entry s.entries)
        ∙ ap (λ b. nat_le 1 s.entries && b) (cell_words s.cell (3 * (columns * image.h)) (3 * (4 * ((image.w + 3) / 4) * image.h)) bytes)

pub run_needs : (glyphs : List (Loaded GlyphOf)) (entries words : ℕ) (sizes : List CacheSize) → entries ≡ distinct_loads glyphs → 4 * words ≡ greatest_cell glyphs
    → first_cache (serves (record { entries = entries; most = 254; words = words })) sizes ≡ first_cache (serves_run glyphs) sizes
run_needs glyphs entries words sizes e w = first_as (serves needs) (serves_run glyphs) same 0 sizes
  where
    needs : Needs
    needs = record { entries = entries; most = 254; words = words }

    same : (s : CacheSize) → serves needs s ≡ serves_run glyphs s
    same s = ap (λ n. nat_le n (min s.entries 254) && nat_le words (s.cell / 4)) e
        ∙ ap (λ b. nat_le (distinct_loads glyphs) (min s.entries 254) && b) (cell_words s.cell words (greatest_cell glyphs) (sym w))
