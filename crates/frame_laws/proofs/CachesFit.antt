-- The cache orders of a use go whole: images, brushes and the glyphs of a run; and their indices are those of entries.
use Rattle.std.proofs.Common.{◌≡◌, ℕ, zero, suc, ◌+◌, ◌-◌, ◌*◌, ◌/◌, ◌^◌, ◌<◌, ◌≤◌, List, [], ◌∷◌, length, refl, ap, ◌∙◌, arith, Some, length-append, All}
use Rattle.std.specs.Prelude.{Bool, true, false, nat_lt, min, replicate, ⊤, ℤ, pos, negsuc, int_le, if◌then◌else◌}
use Rattle.std.proofs.lemmas.List.{length-map, length-replicate}
use Rattle.std.proofs.lemmas.Int.{ints}
use Rattle.std.proofs.lemmas.Bool.{and_parts}
use Rattle.std.proofs.lemmas.Bool.Decides.{nat_tests}
use Rattle.draw_ops.specs.Content.{ImageOf, GlyphOf}
use Rattle.draw_ops.specs.Slots.{Loaded}
use Rattle.draw_ops.specs.Fits.{is_offset}
use Rattle.caps_sets.specs.declared.confirmed.Confirmed.{Confirmed}
use Rattle.caps_sets.specs.Confirmed.{cache_size, depth_of}
use Rattle.order_fields.specs.OrderTable.{fits_coordinate}
use Rattle.px_core.specs.Picture.{turned_over}
use Rattle.run_lengths.specs.WirePixels.{padded, PixelData}
use Rattle.order_means.specs.KeptContent.{padded_image, kept_image, padded_glyph}
use Rattle.order_means.specs.CacheOrders.{secondary_bytes, cache_bitmap_body, cache_bitmap_data}
use Rattle.cache_plan.specs.CacheUse.{misses, cache_index, uses_of}
use Rattle.cache_plan.proofs.Indices.{cache_index_below}
use Rattle.frame_rules.specs.FrameOrders.{SentOrder, Uses, Use, use_by, entries_of, image_use, brush_use, glyph_use, run_use, first_glyph_cache, brush_cache}
use Rattle.frame_rules.specs.FrameOrders.SentOrder.{CacheImage, CacheGlyph, CacheBrush}
use Rattle.frame_rules.specs.FrameRead.{image_data}
use Rattle.frame_laws.specs.Sound.{AreColors, IsSoundImage}
use Rattle.frame_laws.proofs.TurnedOver.{length-turned_over, colors_turned_over, padded_facts}
use Rattle.px_core.specs.declared.depth.Depth.{Depth}
use Rattle.px_core.specs.declared.depth.Depth.TheVariants.{Bits24, Bits16}
use Rattle.px_core.specs.Depth.{shown, shown_colors}
use Rattle.px_core.specs.Pixels.{pixels_bytes}
use Rattle.px_core.proofs.Pixels.{length-pixels_bytes}
use Rattle.frame_laws.proofs.WireBack.{data_short}
use Rattle.frame_laws.specs.SoundState.{IsSoundGlyph}
use Rattle.frame_laws.proofs.OrderValues.{GoesWhole, AllGoWhole, whole_append, coordinate}

-- ---- an image

-- the bytes of an image on the wire
few_bytes : (c : Confirmed) (image : ImageOf) → IsSoundImage image → length (image_data c image).bytes ≤ 12288
few_bytes c image s =
    let kept = kept_image (depth_of c) image in
    let facts = padded_facts image s in
    let n = length-turned_over kept.w kept.h kept.pixels (length-map (padded_image image).pixels (shown (depth_of c)) ∙ facts.whole) in
    let most = data_short (depth_of c) c.no_header kept.w (turned_over kept.w kept.h kept.pixels) in
    let few_w = s.few_columns in
    let few_h = s.few_rows in
    let narrow : kept.w ≤ 64 = omega (arith, few_w) in
    let one : kept.w * kept.h ≤ 64 * kept.h = grind (arith, narrow) in
    omega (arith, most, n, one, few_h)

bitmap_length : (depth : Depth) (cache index w h : ℕ) (d : PixelData) → length (cache_bitmap_data depth cache index w h d) ≤ 15 + length d.bytes
bitmap_length depth cache index w h d = by d.is_packed
  where
    by : (b : Bool) → length (if b then secondary_bytes 0x0400 2 (cache_bitmap_body depth cache index w h d.bytes) else secondary_bytes 0 0
        (cache_bitmap_body depth cache index w h d.bytes)) ≤ 15 + length d.bytes
    by true = omega arith
    by false = omega arith

pub image_whole : (c : Confirmed) (cache index : ℕ) (image : ImageOf) → index < 2 ^ 16 → IsSoundImage image → GoesWhole c (CacheImage cache index image)
image_whole c cache index image below s =
    let few = few_bytes c image s in
    let kept = kept_image (depth_of c) image in
    let most = bitmap_length (depth_of c) cache index kept.w kept.h (image_data c image) in
    record {
      fits = record { index_fits = below; few = omega (arith, few) };
      short = λ regs. omega (arith, few, most);
      plain = tt;
    }

-- ---- a brush

all_colors : (xs : List ℕ) → AreColors xs → All (λ color. color < 2 ^ 24) xs
all_colors [] h k d below = absurd (omega (arith, below))
all_colors (x ∷ xs) h zero d below = h.0
all_colors (x ∷ xs) h (suc k) d below = all_colors xs h.1 k d (omega (arith, below))

-- the bytes of a brush's pixels
brush_short : (depth : Depth) (xs : List ℕ) → length xs ≡ 64 → length (pixels_bytes depth xs) ≤ 192
brush_short Bits24 xs h = let n = length-pixels_bytes Bits24 xs in omega (arith, n, h)
brush_short Bits16 xs h = let n = length-pixels_bytes Bits16 xs in omega (arith, n, h)

pub brush_whole : (c : Confirmed) (entry : ℕ) (brush : List ℕ) → length brush ≡ 64 → AreColors brush → GoesWhole c (CacheBrush entry brush)
brush_whole c entry brush whole colors =
    let n = length-turned_over 8 8 brush whole in
    let cut = shown_colors (depth_of c) brush in
    let bytes = brush_short (depth_of c) (turned_over 8 8 cut) (length-turned_over 8 8 cut (length-map brush (shown (depth_of c)) ∙ whole)) in
    record {
      fits = record { whole = n; colors = all_colors (turned_over 8 8 brush) (colors_turned_over 8 8 brush colors) };
      short = λ regs. omega (arith, bytes);
      plain = tt;
    }

-- ---- a glyph

offset_fits : (z : ℤ) → is_offset z ≡ true → fits_coordinate z ≡ true
offset_fits z h =
    let e = and_parts (int_le (negsuc 63) z) (int_le z (pos 64)) h in
    let low = e.0 in
    let high = e.1 in
    coordinate z (omega (arith, ints, low)) (omega (arith, ints, high))

few_bits : (g : GlyphOf) → IsSoundGlyph g → length g.bits ≤ 128
few_bits g s =
    let whole = s.whole in
    let few_w = s.few_columns in
    let few_h = s.few_rows in
    let narrow : (g.cx + 7) / 8 ≤ 4 = omega (arith, few_w) in
    let one : (g.cx + 7) / 8 * g.cy ≤ 4 * g.cy = grind (arith, narrow) in
    omega (arith, whole, one, few_h)

bits_padded : (g : GlyphOf) → length (padded_glyph g).bits ≡ padded (length g.bits)
bits_padded g =
    let n = padded (length g.bits) - length g.bits in
    let count : length (replicate {A = ℕ} n 0) ≡ n = length-replicate {A = ℕ} n 0 in
    omega (arith, length-append g.bits (replicate {A = ℕ} n 0), count)

pub glyph_whole : (c : Confirmed) (cache index : ℕ) (glyph : GlyphOf) → index < 2 ^ 16 → IsSoundGlyph glyph → GoesWhole c (CacheGlyph cache index glyph)
glyph_whole c cache index glyph below s =
    let few = few_bits glyph s in
    let bits = bits_padded glyph in
    let few_w = s.few_columns in
    let few_h = s.few_rows in
    record {
      fits = record {
        index_fits = below;
        x = offset_fits glyph.x s.left;
        y = offset_fits glyph.y s.above;
        wide = omega (arith, few_w);
        high = omega (arith, few_h);
        bits = bits ∙ ap padded s.whole;
        few = omega (arith, few, bits);
      };
      short = λ regs. omega (arith, few, bits);
      plain = tt;
    }

-- ---- uses

-- a use of a cache with so many entries: at most one order, which goes whole, and an index of an entry
pub record UseFits (c : Confirmed) (most : ℕ) (u : Use) : Type 0 where
  pub whole : AllGoWhole c u.orders
  pub few : length u.orders ≤ 1
  pub below : u.index < most

use_fits : (c : Confirmed) (most : ℕ) (b : Bool) (index : ℕ) (uses : Uses) (content : ℕ → SentOrder) → index < most → GoesWhole c (content index)
    → UseFits c most (use_by b index uses content)
use_fits c most true index uses content below h = record { whole = (h, tt); few = omega arith; below = below }
use_fits c most false index uses content below h = record { whole = tt; few = omega arith; below = below }

pub brush_use_fits : (c : Confirmed) (uses : Uses) (brush : Loaded (List ℕ)) → length brush.content ≡ 64 → AreColors brush.content
    → UseFits c 64 (brush_use c uses (Some brush))
brush_use_fits c uses brush whole colors =
    let past = uses_of brush_cache uses in
    let index = cache_index 64 past brush.number in
    use_fits c 64 (misses 64 past brush.number) index ((brush_cache, brush.number) ∷ uses) (λ i. CacheBrush i brush.content)
    (cache_index_below 64 past brush.number (omega arith)) (brush_whole c index brush.content whole colors)

bitmap_entries : (c : Confirmed) (cache : ℕ) → cache < 3 → entries_of c cache ≡ min (cache_size c.bitmaps cache).entries 512
bitmap_entries c cache h = let below : nat_lt cache first_glyph_cache ≡ true = grind (arith, nat_tests, h) in rw below refl

pub image_use_fits : (c : Confirmed) (uses : Uses) (cache : ℕ) (image : Loaded ImageOf) → cache < 3 → 1 ≤ (cache_size c.bitmaps cache).entries
    → IsSoundImage image.content → UseFits c 512 (image_use c uses cache (Some image))
image_use_fits c uses cache image few some s =
    let past = uses_of cache uses in
    let entries = entries_of c cache in
    let is = bitmap_entries c cache few in
    let least : 0 < entries = omega (arith, is, some) in
    let index = cache_index entries past image.number in
    let below = cache_index_below entries past image.number least in
    use_fits c 512 (misses entries past image.number) index ((cache, image.number) ∷ uses) (λ i. CacheImage cache i image.content)
    (omega (arith, below, is)) (image_whole c cache index image.content (omega (arith, below, is)) s)

abbrev pub AreSoundGlyphs : List (Loaded GlyphOf) → Type 0
AreSoundGlyphs [] = ⊤
AreSoundGlyphs (g ∷ gs) = IsSoundGlyph g.content × AreSoundGlyphs gs

-- a run: at most an order for each glyph
pub record RunFits (c : Confirmed) (count : ℕ) (orders : List SentOrder) (indices : List ℕ) : Type 0 where
  pub whole : AllGoWhole c orders
  pub few : length orders ≤ count

module _ (c : Confirmed) (cache : ℕ) (some : 0 < entries_of c (first_glyph_cache + cache)) (few : entries_of c (first_glyph_cache + cache) ≤ 254) where
  glyph_use_fits : (uses : Uses) (glyph : Loaded GlyphOf) → IsSoundGlyph glyph.content → UseFits c 254 (glyph_use c uses cache glyph)
  glyph_use_fits uses glyph s =
      let n = first_glyph_cache + cache in
      let past = uses_of n uses in
      let entries = entries_of c n in
      let index = cache_index entries past glyph.number in
      let below = cache_index_below entries past glyph.number some in
      use_fits c 254 (misses entries past glyph.number) index ((n, glyph.number) ∷ uses) (λ i. CacheGlyph cache i glyph.content)
      (omega (arith, below, few)) (glyph_whole c cache index glyph.content (omega (arith, below, few)) s)

  pub run_use_fits : (gs : List (Loaded GlyphOf)) (uses : Uses) → AreSoundGlyphs gs
      → RunFits c (length gs) (run_use c uses cache gs).orders (run_use c uses cache gs).indices
  run_use_fits [] uses s = record { whole = tt; few = omega arith }
  run_use_fits (g ∷ gs) uses s =
      let u = glyph_use c uses cache g in
      let one = glyph_use_fits uses g s.0 in
      let rest = run_use_fits gs u.uses s.1 in
      let a = one.few in
      let b = rest.few in
      let more = (run_use c u.uses cache gs).orders in
      record { whole = whole_append c u.orders more one.whole rest.whole; few = omega (arith, a, b, length-append u.orders more) }
