-- The numbers of the caches that serve, and the entries of brushes and glyphs, which have one byte.
use Rattle.std.proofs.Common.{◌≡◌, ℕ, ◌<◌, ◌%◌, List, length, refl, arith}
use Rattle.std.specs.Prelude.{Option, Some, None}
use Rattle.draw_ops.specs.Content.{ImageOf, GlyphOf}
use Rattle.draw_ops.specs.Slots.{Loaded}
use Rattle.caps_sets.specs.declared.confirmed.Confirmed.{Confirmed}
use Rattle.frame_rules.specs.Support.{serves_image, serves_run, image_cache, run_cache}
use Rattle.frame_rules.specs.FrameOrders.{Uses, or_0, brush_use}
use Rattle.frame_laws.proofs.SentKeeps.{first_serves}
use Rattle.frame_laws.proofs.CachesFit.{brush_use_fits}
use Rattle.viewer_sender.specs.Goes.{BrushGoes}

image_cache_below : (c : Confirmed) (image : Option (Loaded ImageOf)) (k : ℕ) → length c.bitmaps ≡ 3 → image_cache c image ≡ Some k → k < 3
image_cache_below c None k three e = absurd (cc e)
image_cache_below c (Some image) k three e = let f = (first_serves (serves_image image.content) c.bitmaps 0 k e).1 in omega (arith, f, three)

run_cache_below : (c : Confirmed) (glyphs : List (Loaded GlyphOf)) (k : ℕ) → length c.glyphs ≡ 10 → run_cache c glyphs ≡ Some k → k < 10
run_cache_below c glyphs k ten e = let f = (first_serves (serves_run glyphs) c.glyphs 0 k e).1 in omega (arith, f, ten)

-- a number that was chosen is one of those
pub image_number_below : (c : Confirmed) (image : Option (Loaded ImageOf)) (n : ℕ) → length c.bitmaps ≡ 3 → n ≡ or_0 (image_cache c image) → n < 3
image_number_below c image n three e = by (image_cache c image) refl e
  where
    by : (o : Option ℕ) → image_cache c image ≡ o → n ≡ or_0 o → n < 3
    by None is e = omega (arith, e)
    by (Some k) is e = let few = image_cache_below c image k three is in omega (arith, e, few)

pub run_number_below : (c : Confirmed) (glyphs : List (Loaded GlyphOf)) (n : ℕ) → length c.glyphs ≡ 10 → n ≡ or_0 (run_cache c glyphs) → n < 10
run_number_below c glyphs n ten e = by (run_cache c glyphs) refl e
  where
    by : (o : Option ℕ) → run_cache c glyphs ≡ o → n ≡ or_0 o → n < 10
    by None is e = omega (arith, e)
    by (Some k) is e = let few = run_cache_below c glyphs k ten is in omega (arith, e, few)

pub low_byte : (n : ℕ) → n < 256 → n % 256 ≡ n
low_byte n h = omega (arith, h)

pub brush_below : (c : Confirmed) (uses : Uses) (brush : Option (Loaded (List ℕ))) → BrushGoes brush → (brush_use c uses brush).index < 64
brush_below c uses None h = omega arith
brush_below c uses (Some brush) h = (brush_use_fits c uses brush h.0 h.1).below
