-- Caches: the bytes of takes.
use Rattle.std.proofs.Common.{◌≡◌, ℕ, ◌*◌, [], ◌∷◌, refl, replicate}
use Rattle.std.specs.Prelude.{pos}
use Rattle.px_core.specs.Rectangle.{boxed}
use Rattle.rop3_core.specs.Rop3.{ternary_raster}
use Rattle.draw_ops.specs.declared.shape.Shape.TheVariants.{Blit, LoadImage, LoadGlyph, Text}
use Rattle.draw_ops.specs.Content.{ImageOf, GlyphOf}
use Rattle.caps_sets.specs.Confirmed.{full, bare, sized, with_bitmap_cache, with_glyph_cache}
use Rattle.session_examples.proofs.Takes.{draw, take, bytes_of_run}

abbrev pub square : ℕ → ℕ → ImageOf
square side color = record { w = side; h = side; pixels = replicate (side * side) color }

abbrev pub glyph : ℕ → GlyphOf
glyph bits = record { x = pos 0; y = pos 0; cx = 8; cy = 1; bits = bits ∷ [] }

-- an image goes to the lowest cache whose cell holds it
image_in_a_cache : bytes_of_run 64 64 full (take ∷ draw (LoadImage 0 (square 64 0xFF0000)) ∷ draw (Blit (boxed (pos 0) (pos 0) 64 64) 0xCC 0 (pos 0) (pos 0)) ∷ take ∷ []) ≡
    (3 ∷ 0 ∷ 0 ∷ 45 ∷ 2 ∷ 240 ∷ 128 ∷ 104 ∷ 0 ∷ 1 ∷ 3 ∷ 235 ∷ 112 ∷ 31 ∷ 31 ∷ 0 ∷ 23 ∷ 0 ∷ 234 ∷ 3 ∷ 234 ∷ 3 ∷ 1 ∷ 0 ∷ 0 ∷ 1 ∷ 17 ∷ 0 ∷ 2 ∷ 0 ∷ 0 ∷ 0 ∷ 0 ∷ 0 ∷ 0 ∷ 0 ∷ 1 ∷ 0 ∷ 0 ∷ 0 ∷ 25 ∷ 10 ∷ 12 ∷ 64 ∷ 64 ∷ 3 ∷ 0 ∷ 0 ∷ 36 ∷ 2 ∷ 240 ∷ 128 ∷ 104 ∷ 0 ∷ 1 ∷ 3 ∷ 235 ∷ 112 ∷ 22 ∷ 22 ∷ 0 ∷ 23 ∷ 0 ∷ 234 ∷ 3 ∷ 234 ∷ 3 ∷ 1 ∷ 0 ∷ 0 ∷ 1 ∷ 8 ∷ 0 ∷ 2 ∷ 0 ∷ 0 ∷ 0 ∷ 3 ∷ 0 ∷ 0 ∷ 0 ∷ [])
    ∷ (3 ∷ 0 ∷ 0 ∷ 71 ∷ 2 ∷ 240 ∷ 128 ∷ 104 ∷ 0 ∷ 1 ∷ 3 ∷ 235 ∷ 112 ∷ 57 ∷ 57 ∷ 0 ∷ 23 ∷ 0 ∷ 234 ∷ 3 ∷ 234 ∷ 3 ∷ 1 ∷ 0 ∷ 0 ∷ 1 ∷ 43 ∷ 0 ∷ 2 ∷ 0 ∷ 0 ∷ 0 ∷ 0 ∷ 0 ∷ 0 ∷ 0 ∷ 2 ∷ 0 ∷ 0 ∷ 0 ∷ 3 ∷ 10 ∷ 0 ∷ 0 ∷ 4 ∷ 2 ∷ 2 ∷ 0 ∷ 64 ∷ 64 ∷ 24 ∷ 8 ∷ 0 ∷ 0 ∷ 0 ∷ 96 ∷ 32 ∷ 0 ∷ 0 ∷ 255 ∷ 240 ∷ 192 ∷ 15 ∷ 89 ∷ 13 ∷ 57 ∷ 2 ∷ 0 ∷ 64 ∷ 64 ∷ 204 ∷ 3 ∷ 0 ∷ 0 ∷ 36 ∷ 2 ∷ 240 ∷ 128 ∷ 104 ∷ 0 ∷ 1 ∷ 3 ∷ 235 ∷ 112 ∷ 22 ∷ 22 ∷ 0 ∷ 23 ∷ 0 ∷ 234 ∷ 3 ∷ 234 ∷ 3 ∷ 1 ∷ 0 ∷ 0 ∷ 1 ∷ 8 ∷ 0 ∷ 2 ∷ 0 ∷ 0 ∷ 0 ∷ 3 ∷ 0 ∷ 0 ∷ 0 ∷ []) ∷ []
unfolding ternary_raster
image_in_a_cache = refl

-- a cell that is one byte too small: the image goes as a tile
-- wrong: a cell counts an image's own width, or one byte less than its size is enough
image_past_the_cell : bytes_of_run 64 64 (with_bitmap_cache 2 (sized 336 12287) full) (take ∷ draw (LoadImage 0 (square 64 0xFF0000)) ∷ draw (Blit (boxed (pos 0) (pos 0) 64 64) 0xCC 0 (pos 0) (pos 0)) ∷ take ∷ []) ≡
    (3 ∷ 0 ∷ 0 ∷ 45 ∷ 2 ∷ 240 ∷ 128 ∷ 104 ∷ 0 ∷ 1 ∷ 3 ∷ 235 ∷ 112 ∷ 31 ∷ 31 ∷ 0 ∷ 23 ∷ 0 ∷ 234 ∷ 3 ∷ 234 ∷ 3 ∷ 1 ∷ 0 ∷ 0 ∷ 1 ∷ 17 ∷ 0 ∷ 2 ∷ 0 ∷ 0 ∷ 0 ∷ 0 ∷ 0 ∷ 0 ∷ 0 ∷ 1 ∷ 0 ∷ 0 ∷ 0 ∷ 25 ∷ 10 ∷ 12 ∷ 64 ∷ 64 ∷ 3 ∷ 0 ∷ 0 ∷ 36 ∷ 2 ∷ 240 ∷ 128 ∷ 104 ∷ 0 ∷ 1 ∷ 3 ∷ 235 ∷ 112 ∷ 22 ∷ 22 ∷ 0 ∷ 23 ∷ 0 ∷ 234 ∷ 3 ∷ 234 ∷ 3 ∷ 1 ∷ 0 ∷ 0 ∷ 1 ∷ 8 ∷ 0 ∷ 2 ∷ 0 ∷ 0 ∷ 0 ∷ 3 ∷ 0 ∷ 0 ∷ 0 ∷ [])
    ∷ (3 ∷ 0 ∷ 0 ∷ 62 ∷ 2 ∷ 240 ∷ 128 ∷ 104 ∷ 0 ∷ 1 ∷ 3 ∷ 235 ∷ 112 ∷ 48 ∷ 48 ∷ 0 ∷ 23 ∷ 0 ∷ 234 ∷ 3 ∷ 234 ∷ 3 ∷ 1 ∷ 0 ∷ 0 ∷ 1 ∷ 34 ∷ 0 ∷ 2 ∷ 0 ∷ 0 ∷ 0 ∷ 1 ∷ 0 ∷ 1 ∷ 0 ∷ 0 ∷ 0 ∷ 0 ∷ 0 ∷ 63 ∷ 0 ∷ 63 ∷ 0 ∷ 64 ∷ 0 ∷ 64 ∷ 0 ∷ 24 ∷ 0 ∷ 1 ∷ 4 ∷ 8 ∷ 0 ∷ 96 ∷ 32 ∷ 0 ∷ 0 ∷ 255 ∷ 240 ∷ 192 ∷ 15 ∷ 3 ∷ 0 ∷ 0 ∷ 36 ∷ 2 ∷ 240 ∷ 128 ∷ 104 ∷ 0 ∷ 1 ∷ 3 ∷ 235 ∷ 112 ∷ 22 ∷ 22 ∷ 0 ∷ 23 ∷ 0 ∷ 234 ∷ 3 ∷ 234 ∷ 3 ∷ 1 ∷ 0 ∷ 0 ∷ 1 ∷ 8 ∷ 0 ∷ 2 ∷ 0 ∷ 0 ∷ 0 ∷ 3 ∷ 0 ∷ 0 ∷ 0 ∷ []) ∷ []
unfolding ternary_raster
image_past_the_cell = refl

-- a cache of two entries drops the image that was used longest ago
-- wrong: an image is sent at each use, or the entry used last is given up
two_entries_and_three_images : bytes_of_run 64 48 (with_bitmap_cache 0 (sized 2 768) bare) (draw (LoadImage 0 (square 16 0xFF0000)) ∷ draw (LoadImage 1 (square 16 0x00FF00)) ∷ draw (LoadImage 2 (square 16 0x0000FF)) ∷ draw (Blit (boxed (pos 0) (pos 0) 16 16) 0xCC 0 (pos 0) (pos 0)) ∷ draw (Blit (boxed (pos 0) (pos 0) 16 16) 0xCC 1 (pos 0) (pos 0)) ∷ draw (Blit (boxed (pos 0) (pos 0) 16 16) 0xCC 0 (pos 0) (pos 0)) ∷ draw (Blit (boxed (pos 0) (pos 0) 16 16) 0xCC 2 (pos 0) (pos 0)) ∷ draw (Blit (boxed (pos 0) (pos 0) 16 16) 0xCC 1 (pos 0) (pos 0)) ∷ draw (Blit (boxed (pos 0) (pos 0) 16 16) 0xCC 0 (pos 0) (pos 0)) ∷ take ∷ []) ≡
    (3 ∷ 0 ∷ 0 ∷ 182 ∷ 2 ∷ 240 ∷ 128 ∷ 104 ∷ 0 ∷ 1 ∷ 3 ∷ 235 ∷ 112 ∷ 128 ∷ 167 ∷ 167 ∷ 0 ∷ 23 ∷ 0 ∷ 234 ∷ 3 ∷ 234 ∷ 3 ∷ 1 ∷ 0 ∷ 0 ∷ 1 ∷ 153 ∷ 0 ∷ 2 ∷ 0 ∷ 0 ∷ 0 ∷ 0 ∷ 0 ∷ 0 ∷ 0 ∷ 12 ∷ 0 ∷ 0 ∷ 0 ∷ 25 ∷ 10 ∷ 12 ∷ 64 ∷ 48 ∷ 3 ∷ 8 ∷ 0 ∷ 0 ∷ 4 ∷ 2 ∷ 0 ∷ 0 ∷ 16 ∷ 16 ∷ 24 ∷ 6 ∷ 0 ∷ 0 ∷ 0 ∷ 112 ∷ 0 ∷ 0 ∷ 255 ∷ 0 ∷ 208 ∷ 89 ∷ 13 ∷ 56 ∷ 16 ∷ 16 ∷ 204 ∷ 3 ∷ 8 ∷ 0 ∷ 0 ∷ 4 ∷ 2 ∷ 0 ∷ 0 ∷ 16 ∷ 16 ∷ 24 ∷ 6 ∷ 0 ∷ 1 ∷ 0 ∷ 112 ∷ 0 ∷ 255 ∷ 0 ∷ 0 ∷ 208 ∷ 1 ∷ 0 ∷ 1 ∷ 1 ∷ 0 ∷ 1 ∷ 0 ∷ 1 ∷ 0 ∷ 0 ∷ 3 ∷ 8 ∷ 0 ∷ 0 ∷ 4 ∷ 2 ∷ 0 ∷ 0 ∷ 16 ∷ 16 ∷ 24 ∷ 6 ∷ 0 ∷ 1 ∷ 0 ∷ 112 ∷ 255 ∷ 0 ∷ 0 ∷ 0 ∷ 208 ∷ 1 ∷ 0 ∷ 1 ∷ 1 ∷ 0 ∷ 3 ∷ 8 ∷ 0 ∷ 0 ∷ 4 ∷ 2 ∷ 0 ∷ 0 ∷ 16 ∷ 16 ∷ 24 ∷ 6 ∷ 0 ∷ 0 ∷ 0 ∷ 112 ∷ 0 ∷ 255 ∷ 0 ∷ 0 ∷ 208 ∷ 1 ∷ 0 ∷ 1 ∷ 0 ∷ 0 ∷ 3 ∷ 8 ∷ 0 ∷ 0 ∷ 4 ∷ 2 ∷ 0 ∷ 0 ∷ 16 ∷ 16 ∷ 24 ∷ 6 ∷ 0 ∷ 1 ∷ 0 ∷ 112 ∷ 0 ∷ 0 ∷ 255 ∷ 0 ∷ 208 ∷ 1 ∷ 0 ∷ 1 ∷ 1 ∷ 0 ∷ 3 ∷ 0 ∷ 0 ∷ 36 ∷ 2 ∷ 240 ∷ 128 ∷ 104 ∷ 0 ∷ 1 ∷ 3 ∷ 235 ∷ 112 ∷ 22 ∷ 22 ∷ 0 ∷ 23 ∷ 0 ∷ 234 ∷ 3 ∷ 234 ∷ 3 ∷ 1 ∷ 0 ∷ 0 ∷ 1 ∷ 8 ∷ 0 ∷ 2 ∷ 0 ∷ 0 ∷ 0 ∷ 3 ∷ 0 ∷ 0 ∷ 0 ∷ []) ∷ []
two_entries_and_three_images = refl

-- one cache order for each glyph, then the run
-- wrong: a cached glyph isn't padded to four bytes
three_glyphs : bytes_of_run 64 48 (with_glyph_cache 0 (sized 3 4) bare) (take ∷ draw (LoadGlyph 0 65 (glyph 0xFF)) ∷ draw (LoadGlyph 0 66 (glyph 0x0F)) ∷ draw (LoadGlyph 0 67 (glyph 0xF0)) ∷ draw (Text (pos 4) (pos 5) 0xFFFFFF 0 ((65, 0) ∷ (66, 8) ∷ (67, 8) ∷ [])) ∷ take ∷ []) ≡
    (3 ∷ 0 ∷ 0 ∷ 45 ∷ 2 ∷ 240 ∷ 128 ∷ 104 ∷ 0 ∷ 1 ∷ 3 ∷ 235 ∷ 112 ∷ 31 ∷ 31 ∷ 0 ∷ 23 ∷ 0 ∷ 234 ∷ 3 ∷ 234 ∷ 3 ∷ 1 ∷ 0 ∷ 0 ∷ 1 ∷ 17 ∷ 0 ∷ 2 ∷ 0 ∷ 0 ∷ 0 ∷ 0 ∷ 0 ∷ 0 ∷ 0 ∷ 1 ∷ 0 ∷ 0 ∷ 0 ∷ 25 ∷ 10 ∷ 12 ∷ 64 ∷ 48 ∷ 3 ∷ 0 ∷ 0 ∷ 36 ∷ 2 ∷ 240 ∷ 128 ∷ 104 ∷ 0 ∷ 1 ∷ 3 ∷ 235 ∷ 112 ∷ 22 ∷ 22 ∷ 0 ∷ 23 ∷ 0 ∷ 234 ∷ 3 ∷ 234 ∷ 3 ∷ 1 ∷ 0 ∷ 0 ∷ 1 ∷ 8 ∷ 0 ∷ 2 ∷ 0 ∷ 0 ∷ 0 ∷ 3 ∷ 0 ∷ 0 ∷ 0 ∷ [])
    ∷ (3 ∷ 0 ∷ 0 ∷ 135 ∷ 2 ∷ 240 ∷ 128 ∷ 104 ∷ 0 ∷ 1 ∷ 3 ∷ 235 ∷ 112 ∷ 121 ∷ 121 ∷ 0 ∷ 23 ∷ 0 ∷ 234 ∷ 3 ∷ 234 ∷ 3 ∷ 1 ∷ 0 ∷ 0 ∷ 1 ∷ 107 ∷ 0 ∷ 2 ∷ 0 ∷ 0 ∷ 0 ∷ 0 ∷ 0 ∷ 0 ∷ 0 ∷ 4 ∷ 0 ∷ 0 ∷ 0 ∷ 3 ∷ 9 ∷ 0 ∷ 0 ∷ 0 ∷ 3 ∷ 0 ∷ 1 ∷ 0 ∷ 0 ∷ 0 ∷ 0 ∷ 0 ∷ 0 ∷ 8 ∷ 0 ∷ 1 ∷ 0 ∷ 255 ∷ 0 ∷ 0 ∷ 0 ∷ 3 ∷ 9 ∷ 0 ∷ 0 ∷ 0 ∷ 3 ∷ 0 ∷ 1 ∷ 1 ∷ 0 ∷ 0 ∷ 0 ∷ 0 ∷ 0 ∷ 8 ∷ 0 ∷ 1 ∷ 0 ∷ 15 ∷ 0 ∷ 0 ∷ 0 ∷ 3 ∷ 9 ∷ 0 ∷ 0 ∷ 0 ∷ 3 ∷ 0 ∷ 1 ∷ 2 ∷ 0 ∷ 0 ∷ 0 ∷ 0 ∷ 0 ∷ 8 ∷ 0 ∷ 1 ∷ 0 ∷ 240 ∷ 0 ∷ 0 ∷ 0 ∷ 9 ∷ 27 ∷ 218 ∷ 3 ∷ 56 ∷ 3 ∷ 1 ∷ 255 ∷ 255 ∷ 255 ∷ 4 ∷ 0 ∷ 5 ∷ 0 ∷ 28 ∷ 0 ∷ 6 ∷ 0 ∷ 4 ∷ 0 ∷ 5 ∷ 0 ∷ 6 ∷ 0 ∷ 0 ∷ 1 ∷ 8 ∷ 2 ∷ 8 ∷ 3 ∷ 0 ∷ 0 ∷ 36 ∷ 2 ∷ 240 ∷ 128 ∷ 104 ∷ 0 ∷ 1 ∷ 3 ∷ 235 ∷ 112 ∷ 22 ∷ 22 ∷ 0 ∷ 23 ∷ 0 ∷ 234 ∷ 3 ∷ 234 ∷ 3 ∷ 1 ∷ 0 ∷ 0 ∷ 1 ∷ 8 ∷ 0 ∷ 2 ∷ 0 ∷ 0 ∷ 0 ∷ 3 ∷ 0 ∷ 0 ∷ 0 ∷ []) ∷ []
three_glyphs = refl

-- a cache with fewer entries than the run has glyphs: the run goes as a tile
three_glyphs_and_two_entries : bytes_of_run 64 48 (with_glyph_cache 0 (sized 2 4) bare) (take ∷ draw (LoadGlyph 0 65 (glyph 0xFF)) ∷ draw (LoadGlyph 0 66 (glyph 0x0F)) ∷ draw (LoadGlyph 0 67 (glyph 0xF0)) ∷ draw (Text (pos 4) (pos 5) 0xFFFFFF 0 ((65, 0) ∷ (66, 8) ∷ (67, 8) ∷ [])) ∷ take ∷ []) ≡
    (3 ∷ 0 ∷ 0 ∷ 45 ∷ 2 ∷ 240 ∷ 128 ∷ 104 ∷ 0 ∷ 1 ∷ 3 ∷ 235 ∷ 112 ∷ 31 ∷ 31 ∷ 0 ∷ 23 ∷ 0 ∷ 234 ∷ 3 ∷ 234 ∷ 3 ∷ 1 ∷ 0 ∷ 0 ∷ 1 ∷ 17 ∷ 0 ∷ 2 ∷ 0 ∷ 0 ∷ 0 ∷ 0 ∷ 0 ∷ 0 ∷ 0 ∷ 1 ∷ 0 ∷ 0 ∷ 0 ∷ 25 ∷ 10 ∷ 12 ∷ 64 ∷ 48 ∷ 3 ∷ 0 ∷ 0 ∷ 36 ∷ 2 ∷ 240 ∷ 128 ∷ 104 ∷ 0 ∷ 1 ∷ 3 ∷ 235 ∷ 112 ∷ 22 ∷ 22 ∷ 0 ∷ 23 ∷ 0 ∷ 234 ∷ 3 ∷ 234 ∷ 3 ∷ 1 ∷ 0 ∷ 0 ∷ 1 ∷ 8 ∷ 0 ∷ 2 ∷ 0 ∷ 0 ∷ 0 ∷ 3 ∷ 0 ∷ 0 ∷ 0 ∷ [])
    ∷ (3 ∷ 0 ∷ 0 ∷ 74 ∷ 2 ∷ 240 ∷ 128 ∷ 104 ∷ 0 ∷ 1 ∷ 3 ∷ 235 ∷ 112 ∷ 60 ∷ 60 ∷ 0 ∷ 23 ∷ 0 ∷ 234 ∷ 3 ∷ 234 ∷ 3 ∷ 1 ∷ 0 ∷ 0 ∷ 1 ∷ 46 ∷ 0 ∷ 2 ∷ 0 ∷ 0 ∷ 0 ∷ 1 ∷ 0 ∷ 1 ∷ 0 ∷ 0 ∷ 0 ∷ 0 ∷ 0 ∷ 63 ∷ 0 ∷ 47 ∷ 0 ∷ 64 ∷ 0 ∷ 48 ∷ 0 ∷ 24 ∷ 0 ∷ 1 ∷ 4 ∷ 20 ∷ 0 ∷ 0 ∷ 32 ∷ 240 ∷ 68 ∷ 10 ∷ 104 ∷ 255 ∷ 255 ∷ 255 ∷ 4 ∷ 104 ∷ 255 ∷ 255 ∷ 255 ∷ 243 ∷ 104 ∷ 1 ∷ 0 ∷ 0 ∷ 0 ∷ 3 ∷ 0 ∷ 0 ∷ 36 ∷ 2 ∷ 240 ∷ 128 ∷ 104 ∷ 0 ∷ 1 ∷ 3 ∷ 235 ∷ 112 ∷ 22 ∷ 22 ∷ 0 ∷ 23 ∷ 0 ∷ 234 ∷ 3 ∷ 234 ∷ 3 ∷ 1 ∷ 0 ∷ 0 ∷ 1 ∷ 8 ∷ 0 ∷ 2 ∷ 0 ∷ 0 ∷ 0 ∷ 3 ∷ 0 ∷ 0 ∷ 0 ∷ []) ∷ []
three_glyphs_and_two_entries = refl
