-- Worked pictures that are kept as tiles, and which tiles a drawing needs as the surface's own.
use Rattle.std.proofs.Common.{◌≡◌, ◌∷◌, ◌++◌, ◌<◌, [], ℕ, zero, suc, List, refl, replicate, true, false, Some, None, arith}
use Rattle.std.specs.Prelude.{pos, negsuc, IsTrue}
use Rattle.px_core.specs.declared.rectangle.Rect.{Rect}
use Rattle.px_core.specs.declared.surface.Size.{Size}
use Rattle.px_core.specs.Rectangle.{boxed, in_rect, in_clip}
use Rattle.draw_ops.specs.declared.shape.Shape.TheVariants.{Fill, Save}
use Rattle.px_core.specs.Picture.{both}
use Rattle.tile_surface.specs.declared.cell.Cell.{Cell}
use Rattle.tile_surface.specs.declared.cell.Cell.TheVariants.{Blank, Own}
use Rattle.tile_surface.specs.Cells.{tile_pixel}
use Rattle.tile_surface.specs.Ownership.{IsOwnAt, is_past}
use Rattle.tile_surface.specs.Later.{OwnsLater, run_box}

-- two tiles beside each other, and the first one of the row below
abbrev cells : List Cell
cells = Own (1 ∷ 2 ∷ []) ∷ Own (3 ∷ 4 ∷ []) ∷ replicate 30 Blank ++ Own (5 ∷ replicate 63 0 ++ 6 ∷ []) ∷ []

-- wrong: tiles are numbered column by column
pixel_65_of_a_row_is_in_the_second_tile : tile_pixel cells 65 0 ≡ 4
pixel_65_of_a_row_is_in_the_second_tile = refl

row_64_is_in_the_tile_below : tile_pixel cells 0 64 ≡ 5
row_64_is_in_the_tile_below = refl

a_row_of_a_tile_has_64_pixels : tile_pixel cells 0 65 ≡ 6
a_row_of_a_tile_has_64_pixels = refl

-- wrong: a blank tile is white
a_blank_tile_is_black : tile_pixel cells 130 0 ≡ 0
a_blank_tile_is_black = refl

-- past the last cell all is black
-- wrong: what lies past the last tile isn't black
there_is_no_tile_past_the_last : tile_pixel cells 64 64 ≡ 0
there_is_no_tile_past_the_last = refl

-- ---- a picture of 65 by 1

abbrev size : Size
size = record { w = 65; h = 1 }

-- wrong: the column behind the last one isn't past the picture
-- wrong: a pixel is past the picture where it is past both of its sides
past_the_right_side_and_below : is_past size 65 0 ∷ is_past size 0 1 ∷ is_past size 64 0 ∷ [] ≡ true ∷ true ∷ false ∷ []
past_the_right_side_and_below = refl

-- a fill of its last column is written into its second tile
abbrev last : Rect
last = boxed (pos 64) (pos 0) 1 1

-- wrong: a blank tile is the surface's own
a_blank_tile_is_not_the_surfaces_own : OwnsLater size (Own [] ∷ Blank ∷ []) None (Fill last 0) → ⊥
a_blank_tile_is_not_the_surfaces_own h = h.own 64 0 (omega arith) (omega arith) refl

-- on a picture of one pixel a fill whose clip lies beside it is written nowhere
abbrev beside : Rect
beside = boxed (pos 1) (pos 0) 1 1

-- wrong: a clip isn't looked at
a_clip_spares_the_tiles_past_it : OwnsLater (record { w = 1; h = 1 }) (Blank ∷ []) (Some beside) (Fill (boxed (pos 0) (pos 0) 2 1) 0)
a_clip_spares_the_tiles_past_it = record { own = spared }
  where
    spared : (x y : ℕ) → x < 1 → y < 1 → IsTrue (both (in_clip (Some beside)) (in_rect (boxed (pos 0) (pos 0) 2 1)) (pos x) (pos y)) → IsOwnAt (Blank ∷ []) x y
    spared zero zero h k inside = absurd (cc inside)
    spared zero (suc y) h k inside = absurd (omega (arith, k))
    spared (suc x) y h k inside = absurd (omega (arith, h))

-- wrong: a save needs the tiles of its rectangle
a_save_writes_into_no_tile : OwnsLater size (Blank ∷ []) None (Save 3 last)
a_save_writes_into_no_tile = tt

-- ---- runs

-- glyphs 0 and 8 to the right of the pen: 64 to its left and above it, and 96 behind the last one
-- wrong: a run goes as far as its first delta
-- wrong: a run begins at its pen
-- wrong: a run's glyphs begin within 32 pixels of the pen
the_box_of_a_run : run_box (pos 4) (pos 5) ((65, 0) ∷ (66, 8) ∷ []) ≡ boxed (negsuc 59) (negsuc 58) 168 160
the_box_of_a_run = refl
