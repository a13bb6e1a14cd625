-- Cached images and glyphs: the pictures at the marks.
use Rattle.std.proofs.Common.{◌≡◌, [], ◌∷◌, refl, replicate, pos}
use Rattle.std.specs.Prelude.{Ok}
use Rattle.caps_sets.specs.Confirmed.{sized, full, bare, with_bitmap_cache, with_glyph_cache}
use Rattle.rop3_core.specs.Rop3.{ternary_raster}
use Rattle.order_means.specs.FrameMarks.{pictures_at_marks}
use Rattle.wire_examples.proofs.Viewer.{size_of, known, filled}
use Rattle.wire_examples.proofs.Captures.{image_in_a_cache, two_entries_and_three_images, three_glyphs}

pub image_in_a_cache_shows : pictures_at_marks full (size_of 64 64) image_in_a_cache ≡ Ok (known (replicate 4096 0) ∷ known (replicate 4096 0xFF0000) ∷ [])
unfolding ternary_raster
image_in_a_cache_shows = refl

-- the last of six blits is of the first image
pub two_entries_and_three_images_show : pictures_at_marks (with_bitmap_cache 0 (sized 2 768) bare) (size_of 64 48) two_entries_and_three_images
    ≡ Ok (known (filled (size_of 64 48) (pos 0) (pos 0) 16 16 0xFF0000 (replicate 3072 0)) ∷ [])
unfolding ternary_raster
two_entries_and_three_images_show = refl

-- the glyphs FF, 0F and F0 in row 5 from columns 4, 12 and 20 on: the columns 4 to 11 and 16 to 23
pub three_glyphs_show : pictures_at_marks (with_glyph_cache 0 (sized 3 4) bare) (size_of 64 48) three_glyphs
    ≡ Ok (known (replicate 3072 0) ∷ known (filled (size_of 64 48) (pos 16) (pos 5) 8 1 0xFFFFFF (filled (size_of 64 48) (pos 4) (pos 5) 8 1 0xFFFFFF (replicate 3072 0))) ∷ [])
three_glyphs_show = refl
