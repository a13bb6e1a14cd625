-- Worked paintings that a reader of the formulas could take for something else.
use Rattle.std.proofs.Common.{◌≡◌, ℕ, List, [], ◌∷◌, ◌++◌, refl, Some, None, replicate}
use Rattle.std.specs.Prelude.{pos, negsuc, Option, option_map}
use Rattle.px_core.specs.declared.surface.Size.{Size}
use Rattle.px_core.specs.declared.rectangle.Rect.{Rect}
use Rattle.px_core.specs.Picture.{listed}
use Rattle.px_core.specs.Rectangle.{boxed}
use Rattle.rop3_core.specs.Rop3.{ternary_raster}
use Rattle.draw_ops.specs.declared.shape.Drawing.{Drawing}
use Rattle.draw_ops.specs.declared.shape.Shape.{Shape}
use Rattle.draw_ops.specs.declared.shape.Shape.TheVariants.{Pat, Text, Line, LoadImage, LoadBrush, LoadGlyph}
use Rattle.draw_ops.specs.Content.{ImageOf, GlyphOf}
use Rattle.draw_ops.specs.Slots.{SurfaceState, Loaded, opening_surface, lookup}
use Rattle.draw_ops.specs.Drawing.{painting_of, state_after_drawing, state_after_drawings}
use Rattle.draw_ops.specs.Fits.{Misfit, first_misfit}
use Rattle.draw_ops.specs.Fits.Misfit.{Empty}

abbrev plain : Shape → Drawing
plain shape = record { shape = shape; clip = None }

-- a black picture after a line of colour 1
abbrev lined : Size → Shape → List ℕ
lined size line = (state_after_drawing size (opening_surface size) (plain line)).picture

-- ---- brushes

-- the rows of 64 numbers: beside column 7 stands column 0 again, and below row 7 row 0
-- wrong: a brush isn't repeated past column 7, or past row 7
-- wrong: a brush is repeated after 16 columns and rows
a_brush_goes_on_past_eight : (state_after_drawings (record { w = 12; h = 9 }) (opening_surface (record { w = 12; h = 9 }))
    (plain (LoadBrush 2 (listed 64 0 (λ i. i))) ∷ plain (Pat (boxed (pos 7) (pos 7) 4 2) 0xF0 2) ∷ [])).picture
    ≡ replicate 91 0 ++ (63 ∷ 56 ∷ 57 ∷ 58 ∷ 0 ∷ 0 ∷ 0 ∷ 0 ∷ 0 ∷ 0 ∷ 0 ∷ 0 ∷ 7 ∷ 0 ∷ 1 ∷ 2 ∷ 0 ∷ [])
unfolding ternary_raster
a_brush_goes_on_past_eight = refl

-- ---- lines

abbrev small : Size
small = record { w = 8; h = 3 }

-- after 1 and 3 steps the line stands between two rows, and goes on to the next
-- wrong: where a line stands halfway between two rows it stays
a_half_goes_on : lined small (Line (pos 0) (pos 0) (pos 4) (pos 2) 1)
    ≡ (1 ∷ 0 ∷ 0 ∷ 0 ∷ 0 ∷ 0 ∷ 0 ∷ 0
    ∷ 0 ∷ 1 ∷ 1 ∷ 0 ∷ 0 ∷ 0 ∷ 0 ∷ 0
    ∷ 0 ∷ 0 ∷ 0 ∷ 1 ∷ 1 ∷ 0 ∷ 0 ∷ 0 ∷ [])
a_half_goes_on = refl

-- from its other end it has other pixels
-- wrong: a line is drawn from left to right, wherever it begins
a_half_goes_on_from_where_the_line_begins : lined small (Line (pos 4) (pos 2) (pos 0) (pos 0) 1)
    ≡ (1 ∷ 1 ∷ 0 ∷ 0 ∷ 0 ∷ 0 ∷ 0 ∷ 0
    ∷ 0 ∷ 0 ∷ 1 ∷ 1 ∷ 0 ∷ 0 ∷ 0 ∷ 0
    ∷ 0 ∷ 0 ∷ 0 ∷ 0 ∷ 1 ∷ 0 ∷ 0 ∷ 0 ∷ [])
a_half_goes_on_from_where_the_line_begins = refl

-- wrong: a steep line has one pixel for each column
-- wrong: a steep line is drawn with the columns of its ends swapped
a_steep_line_has_each_row : lined small (Line (pos 1) (pos 0) (pos 2) (pos 2) 1)
    ≡ (0 ∷ 1 ∷ 0 ∷ 0 ∷ 0 ∷ 0 ∷ 0 ∷ 0
    ∷ 0 ∷ 0 ∷ 1 ∷ 0 ∷ 0 ∷ 0 ∷ 0 ∷ 0
    ∷ 0 ∷ 0 ∷ 1 ∷ 0 ∷ 0 ∷ 0 ∷ 0 ∷ 0 ∷ [])
a_steep_line_has_each_row = refl

-- wrong: a steep line is drawn from the top, wherever it begins
a_steep_line_upwards : lined small (Line (pos 2) (pos 2) (pos 1) (pos 0) 1)
    ≡ (0 ∷ 1 ∷ 0 ∷ 0 ∷ 0 ∷ 0 ∷ 0 ∷ 0
    ∷ 0 ∷ 1 ∷ 0 ∷ 0 ∷ 0 ∷ 0 ∷ 0 ∷ 0
    ∷ 0 ∷ 0 ∷ 1 ∷ 0 ∷ 0 ∷ 0 ∷ 0 ∷ 0 ∷ [])
a_steep_line_upwards = refl

-- 7 steps, of which the first two lie left of the picture
-- wrong: a line that begins outside begins at the picture's edge
a_line_begins_outside : lined small (Line (negsuc 1) (pos 0) (pos 5) (pos 2) 1)
    ≡ (0 ∷ 0 ∷ 0 ∷ 0 ∷ 0 ∷ 0 ∷ 0 ∷ 0
    ∷ 1 ∷ 1 ∷ 1 ∷ 1 ∷ 0 ∷ 0 ∷ 0 ∷ 0
    ∷ 0 ∷ 0 ∷ 0 ∷ 0 ∷ 1 ∷ 1 ∷ 0 ∷ 0 ∷ [])
a_line_begins_outside = refl

abbrev rect_of : List Drawing → Shape → Rect
rect_of before shape = (painting_of small (state_after_drawings small (opening_surface small) before) shape).rect

-- both ends lie in it
-- wrong: the box of a line is a row higher
the_box_of_a_line : rect_of [] (Line (pos 7) (pos 2) (pos 0) (pos 0) 1) ≡ boxed (pos 0) (pos 0) 8 3
the_box_of_a_line = refl

-- ---- runs of glyphs

abbrev flat : GlyphOf
flat = record { x = pos 0; y = pos 0; cx = 8; cy = 1; bits = 0xFF ∷ [] }

abbrev low : GlyphOf
low = record { x = negsuc 0; y = pos 1; cx = 4; cy = 2; bits = 0x90 ∷ 0xF0 ∷ [] }

-- columns 3 to 7 belong to both
-- wrong: a pixel of two glyphs of a run is left out
a_pixel_of_two_glyphs : (state_after_drawings small (opening_surface small) (plain (LoadGlyph 0 65 flat) ∷ plain (Text (pos 0) (pos 0) 7 0 ((65, 0) ∷ (65, 3) ∷ [])) ∷ [])).picture
    ≡ replicate 8 7 ++ replicate 16 0
a_pixel_of_two_glyphs = refl

-- the bits behind column 3 pad the row: columns 4 and 5 lie between the cells
-- wrong: bits that pad a glyph's row are drawn
bits_that_pad_a_row_are_not_drawn : (state_after_drawings small (opening_surface small) (plain (LoadGlyph 0 65 (record flat { cx = 4 })) ∷ plain (Text (pos 0) (pos 0) 7 0 ((65, 0) ∷ (65, 6) ∷ [])) ∷ [])).picture
    ≡ (7 ∷ 7 ∷ 7 ∷ 7 ∷ 0 ∷ 0 ∷ 7 ∷ 7 ∷ replicate 16 0)
bits_that_pad_a_row_are_not_drawn = refl

-- it has the cells alone, and not the pen's own point
-- wrong: the rectangle of a run has the pen's point too
the_rectangle_of_a_run : rect_of (plain (LoadGlyph 0 66 low) ∷ []) (Text (pos 2) (pos 0) 7 0 ((66, 0) ∷ [])) ≡ boxed (pos 1) (pos 1) 4 2
the_rectangle_of_a_run = refl

-- a glyph that isn't there is named by its code, and not by its font
-- wrong: a missing glyph is named by font and code
a_missing_glyph_of_font_1 : first_misfit small (opening_surface small) (plain (Text (pos 0) (pos 0) 7 1 ((65, 0) ∷ []))) ≡ Some (Empty 65)
a_missing_glyph_of_font_1 = refl

-- ---- slots

abbrev dot : ℕ → ImageOf
dot color = record { w = 1; h = 1; pixels = color ∷ [] }

abbrev number_of : {A : Type 0} → Option (Loaded A) → Option ℕ
number_of o = option_map (λ l. l.number) o

abbrev twice_loaded : SurfaceState
twice_loaded = state_after_drawings small (opening_surface small) (plain (LoadImage 7 (dot 5)) ∷ plain (LoadImage 7 (dot 6)) ∷ plain (LoadBrush 2 (replicate 64 5))
    ∷ plain (LoadBrush 2 (replicate 64 6)) ∷ plain (LoadGlyph 1 65 flat) ∷ plain (LoadGlyph 1 65 low) ∷ [])

-- each holds the second of its two loads
-- wrong: a slot of an image, a brush or a glyph keeps what was loaded first
a_slot_filled_again_holds_the_new :
    number_of (lookup 7 twice_loaded.images) ∷ number_of (lookup 2 twice_loaded.brushes) ∷ number_of (lookup 321 twice_loaded.glyphs) ∷ [] ≡ Some 2 ∷ Some 4 ∷ Some 6 ∷ []
a_slot_filled_again_holds_the_new = refl
