-- Worked drawings on small pictures with content, and one refusal for each rule.
use Rattle.std.proofs.Common.{◌≡◌, ℕ, List, [], ◌∷◌, ◌++◌, refl, Some, None, replicate}
use Rattle.std.specs.Prelude.{pos, negsuc, Option}
use Rattle.px_core.specs.declared.surface.Size.{Size}
use Rattle.px_core.specs.declared.rectangle.Rect.{Rect}
use Rattle.px_core.specs.Picture.{listed}
use Rattle.px_core.specs.Rectangle.{boxed}
use Rattle.rop3_core.specs.Rop3.{ternary_raster}
use Rattle.draw_ops.specs.declared.shape.Drawing.{Drawing}
use Rattle.draw_ops.specs.declared.shape.Shape.{Shape}
use Rattle.draw_ops.specs.declared.shape.Shape.TheVariants.{Fill, Dst, Pat, Copy, Blit, Blit3, Text, Line, Save, Restore, LoadImage, LoadBrush, LoadGlyph}
use Rattle.draw_ops.specs.Content.{ImageOf, GlyphOf}
use Rattle.draw_ops.specs.Slots.{SurfaceState, opening_surface}
use Rattle.draw_ops.specs.Drawing.{state_after_drawing, state_after_drawings}
use Rattle.draw_ops.specs.Fits.{Misfit, first_misfit}
use Rattle.draw_ops.specs.Fits.Misfit.{Rule, Empty, TooSmall}

-- a picture of 8 by 6, of which pixel (x, y) is the number 8y + x
abbrev size : Size
size = record { w = 8; h = 6 }

abbrev numbered : SurfaceState
numbered = record (opening_surface size) { picture = listed 48 0 (λ i. i) }

abbrev plain : Shape → Drawing
plain shape = record { shape = shape; clip = None }

abbrev clipped : Shape → Rect → Drawing
clipped shape clip = record { shape = shape; clip = Some clip }

abbrev after : List Drawing → List ℕ
after ds = (state_after_drawings size numbered ds).picture

-- source and destination overlap, and every pixel comes from the old picture
-- wrong: a copy works row by row on the picture that it changes
a_copy_reads_the_old_picture : after (clipped (Copy (boxed (pos 0) (pos 1) 8 5) 0xCC (pos 0) (pos 0)) (boxed (pos 2) (pos 2) 3 3) ∷ [])
    ≡ (0 ∷ 1 ∷ 2 ∷ 3 ∷ 4 ∷ 5 ∷ 6 ∷ 7
    ∷ 8 ∷ 9 ∷ 10 ∷ 11 ∷ 12 ∷ 13 ∷ 14 ∷ 15
    ∷ 16 ∷ 17 ∷ 10 ∷ 11 ∷ 12 ∷ 21 ∷ 22 ∷ 23
    ∷ 24 ∷ 25 ∷ 18 ∷ 19 ∷ 20 ∷ 29 ∷ 30 ∷ 31
    ∷ 32 ∷ 33 ∷ 26 ∷ 27 ∷ 28 ∷ 37 ∷ 38 ∷ 39
    ∷ 40 ∷ 41 ∷ 42 ∷ 43 ∷ 44 ∷ 45 ∷ 46 ∷ 47 ∷ [])
unfolding ternary_raster
a_copy_reads_the_old_picture = refl

a_saved_block_is_restored_elsewhere : after (plain (Save 0 (boxed (pos 1) (pos 1) 2 2)) ∷ plain (Fill (boxed (pos 0) (pos 0) 8 2) 0) ∷ plain (Restore 0 (pos 5) (pos 0)) ∷ [])
    ≡ (0 ∷ 0 ∷ 0 ∷ 0 ∷ 0 ∷ 9 ∷ 10 ∷ 0
    ∷ 0 ∷ 0 ∷ 0 ∷ 0 ∷ 0 ∷ 17 ∷ 18 ∷ 0 ∷ listed 32 16 (λ i. i))
a_saved_block_is_restored_elsewhere = refl

-- a fill that reaches past the surface
a_fill_past_the_corner : after (plain (Fill (boxed (negsuc 1) (pos 4) 4 9) 99) ∷ [])
    ≡ listed 32 0 (λ i. i) ++ (99 ∷ 99 ∷ 34 ∷ 35 ∷ 36 ∷ 37 ∷ 38 ∷ 39 ∷ 99 ∷ 99 ∷ 42 ∷ 43 ∷ 44 ∷ 45 ∷ 46 ∷ 47 ∷ [])
a_fill_past_the_corner = refl

abbrev small : Size
small = record { w = 8; h = 3 }

-- i steps to the left go (2 * i * 2 + 7) / 14 steps upwards
a_line_from_the_right : (state_after_drawing small (opening_surface small) (plain (Line (pos 7) (pos 2) (pos 0) (pos 0) 1))).picture
    ≡ (1 ∷ 1 ∷ 0 ∷ 0 ∷ 0 ∷ 0 ∷ 0 ∷ 0
    ∷ 0 ∷ 0 ∷ 1 ∷ 1 ∷ 1 ∷ 1 ∷ 0 ∷ 0
    ∷ 0 ∷ 0 ∷ 0 ∷ 0 ∷ 0 ∷ 0 ∷ 1 ∷ 1 ∷ [])
a_line_from_the_right = refl

abbrev dots : ImageOf
dots = record { w = 2; h = 2; pixels = 0x0000FF ∷ 0x00FF00 ∷ 0xFF0000 ∷ 0xFFFFFF ∷ [] }

-- an image by exclusive or, over black; the source begins at its second column
an_image_from_its_second_column : (state_after_drawings small (opening_surface small) (plain (LoadImage 7 dots) ∷ plain (Blit (boxed (pos 6) (pos 1) 1 2) 0x66 7 (pos 1) (pos 0)) ∷ [])).picture
    ≡ (0 ∷ 0 ∷ 0 ∷ 0 ∷ 0 ∷ 0 ∷ 0 ∷ 0
    ∷ 0 ∷ 0 ∷ 0 ∷ 0 ∷ 0 ∷ 0 ∷ 0x00FF00 ∷ 0
    ∷ 0 ∷ 0 ∷ 0 ∷ 0 ∷ 0 ∷ 0 ∷ 0xFFFFFF ∷ 0 ∷ [])
unfolding ternary_raster
an_image_from_its_second_column = refl

-- a brush stands by the picture's columns and rows, wherever the rectangle is
-- wrong: a brush begins at the rectangle's corner
a_brush_is_not_moved_by_the_rectangle : (state_after_drawings small (opening_surface small) (plain (LoadBrush 2 (listed 64 0 (λ i. i))) ∷ plain (Pat (boxed (pos 3) (pos 1) 3 1) 0xF0 2) ∷ [])).picture
    ≡ (0 ∷ 0 ∷ 0 ∷ 0 ∷ 0 ∷ 0 ∷ 0 ∷ 0
    ∷ 0 ∷ 0 ∷ 0 ∷ 11 ∷ 12 ∷ 13 ∷ 0 ∷ 0
    ∷ 0 ∷ 0 ∷ 0 ∷ 0 ∷ 0 ∷ 0 ∷ 0 ∷ 0 ∷ [])
unfolding ternary_raster
a_brush_is_not_moved_by_the_rectangle = refl

-- where the pattern is white the image is drawn, elsewhere the old pixel stays: code CA
an_image_under_a_mask : (state_after_drawings small (opening_surface small) (plain (LoadImage 7 dots) ∷ plain (LoadBrush 2 (0xFFFFFF ∷ replicate 63 0)) ∷ plain (Blit3 (boxed (pos 0) (pos 0) 2 2) 0xCA 7 (pos 0) (pos 0) 2) ∷ [])).picture
    ≡ (0x0000FF ∷ replicate 23 0)
unfolding ternary_raster
an_image_under_a_mask = refl

abbrev flat : GlyphOf
flat = record { x = pos 0; y = pos 0; cx = 8; cy = 1; bits = 0xFF ∷ [] }

abbrev low : GlyphOf
low = record { x = negsuc 0; y = pos 1; cx = 4; cy = 2; bits = 0x90 ∷ 0xF0 ∷ [] }

-- the delta of 5 moves the pen before the second glyph, whose cell begins a pixel further left and a row lower
-- wrong: a glyph is drawn before its delta is added
two_glyphs_of_a_run : (state_after_drawings small (opening_surface small) (plain (LoadGlyph 0 65 flat) ∷ plain (LoadGlyph 0 66 low) ∷ plain (Text (pos 0) (pos 0) 7 0 ((65, 0) ∷ (66, 5) ∷ [])) ∷ [])).picture
    ≡ (7 ∷ 7 ∷ 7 ∷ 7 ∷ 7 ∷ 7 ∷ 7 ∷ 7
    ∷ 0 ∷ 0 ∷ 0 ∷ 0 ∷ 7 ∷ 0 ∷ 0 ∷ 7
    ∷ 0 ∷ 0 ∷ 0 ∷ 0 ∷ 7 ∷ 7 ∷ 7 ∷ 7 ∷ [])
two_glyphs_of_a_run = refl

-- loads are drawings too: the third drawing is the second load
-- wrong: only drawings that paint are numbered
a_load_takes_the_number_of_its_drawing : (state_after_drawings small (opening_surface small) (plain (LoadGlyph 0 65 flat) ∷ plain (Fill (boxed (pos 0) (pos 0) 1 1) 5) ∷ plain (LoadGlyph 3 65 low) ∷ [])).glyphs
    ≡ (replicate 65 None ++ Some (record { number = 1; content = flat }) ∷ replicate 767 None ++ Some (record { number = 3; content = low }) ∷ replicate 190 None)
a_load_takes_the_number_of_its_drawing = refl

-- ---- one refusal for each rule

abbrev big : Size
big = record { w = 64; h = 48 }

abbrev misfit : Drawing → Option Misfit
misfit d = first_misfit big (opening_surface big) d

an_empty_side_breaks_rule_1 : misfit (plain (Fill (boxed (pos 0) (pos 0) 0 5) 0)) ≡ Some (Rule 1)
an_empty_side_breaks_rule_1 = refl

a_far_corner_is_no_matter : misfit (plain (Fill (boxed (pos 4095) (negsuc 4095) 2048 2048) 0)) ≡ None
a_far_corner_is_no_matter = refl

a_clip_past_the_surface_breaks_rule_2 : misfit (clipped (Fill (boxed (pos 0) (pos 0) 5 5) 0) (boxed (pos 60) (pos 0) 5 5)) ≡ Some (Rule 2)
a_clip_past_the_surface_breaks_rule_2 = refl

an_empty_clip_breaks_rule_2 : misfit (clipped (Fill (boxed (pos 0) (pos 0) 5 5) 0) (boxed (pos 0) (pos 0) 0 5)) ≡ Some (Rule 2)
an_empty_clip_breaks_rule_2 = refl

a_save_with_a_clip_breaks_rule_2 : misfit (clipped (Save 15 (boxed (pos 0) (pos 0) 5 5)) (boxed (pos 0) (pos 0) 5 5)) ≡ Some (Rule 2)
a_save_with_a_clip_breaks_rule_2 = refl

a_code_without_its_source_breaks_rule_3 : misfit (plain (Dst (boxed (pos 0) (pos 0) 4 4) 0xCC)) ≡ Some (Rule 3)
a_code_without_its_source_breaks_rule_3 = refl

a_code_without_its_pattern_breaks_rule_3 : misfit (plain (Copy (boxed (pos 0) (pos 0) 4 4) 0xCA (pos 0) (pos 0))) ≡ Some (Rule 3)
a_code_without_its_pattern_breaks_rule_3 = refl

a_source_past_the_surface_breaks_rule_4 : misfit (plain (Copy (boxed (pos 0) (pos 0) 64 48) 0xCC (pos 0) (pos 1))) ≡ Some (Rule 4)
a_source_past_the_surface_breaks_rule_4 = refl

a_brush_of_64_breaks_rule_5 : misfit (plain (Pat (boxed (pos 0) (pos 0) 4 4) 0xF0 64)) ≡ Some (Rule 5)
a_brush_of_64_breaks_rule_5 = refl

-- no call makes such a number, and it doesn't reach the glyph 44 of font 1
a_code_of_300_breaks_rule_5 : misfit (plain (Text (pos 0) (pos 0) 0 0 ((300, 0) ∷ []))) ≡ Some (Rule 5)
a_code_of_300_breaks_rule_5 = refl

an_image_slot_of_256_breaks_rule_5 : misfit (plain (LoadImage 256 dots)) ≡ Some (Rule 5)
an_image_slot_of_256_breaks_rule_5 = refl

an_image_without_its_pixels_breaks_rule_6 : misfit (plain (LoadImage 0 (record { w = 2; h = 2; pixels = 1 ∷ [] }))) ≡ Some (Rule 6)
an_image_without_its_pixels_breaks_rule_6 = refl

an_offset_of_65_breaks_rule_6 : misfit (plain (LoadGlyph 0 65 (record flat { x = pos 65 }))) ≡ Some (Rule 6)
an_offset_of_65_breaks_rule_6 = refl

a_level_line_breaks_rule_7 : misfit (plain (Line (pos 0) (pos 0) (pos 9) (pos 0) 0)) ≡ Some (Rule 7)
a_level_line_breaks_rule_7 = refl

a_run_without_glyphs_breaks_rule_8 : misfit (plain (Text (pos 0) (pos 0) 0 0 [])) ≡ Some (Rule 8)
a_run_without_glyphs_breaks_rule_8 = refl

a_first_delta_breaks_rule_8 : misfit (plain (Text (pos 0) (pos 0) 0 0 ((65, 1) ∷ []))) ≡ Some (Rule 8)
a_first_delta_breaks_rule_8 = refl

a_save_past_the_surface_breaks_rule_9 : misfit (plain (Save 0 (boxed (pos 60) (pos 0) 5 5))) ≡ Some (Rule 9)
a_save_past_the_surface_breaks_rule_9 = refl

-- the least rule is named: the side, not the slot
the_least_rule_is_named : misfit (plain (Save 16 (boxed (pos 0) (pos 0) 0 5))) ≡ Some (Rule 1)
the_least_rule_is_named = refl

-- a slot that is named must be filled, also where the code doesn't read it: code 0 is black
-- wrong: a slot that the code doesn't need may be empty
a_slot_that_is_not_needed_is_empty : misfit (plain (Pat (boxed (pos 0) (pos 0) 4 4) 0 9)) ≡ Some (Empty 9)
a_slot_that_is_not_needed_is_empty = refl

an_image_is_named_before_a_brush : misfit (plain (Blit3 (boxed (pos 0) (pos 0) 4 4) 0 8 (pos 0) (pos 0) 9)) ≡ Some (Empty 8)
an_image_is_named_before_a_brush = refl

a_source_past_the_image_is_too_small : first_misfit big (state_after_drawing big (opening_surface big) (plain (LoadImage 7 dots))) (plain (Blit (boxed (pos 0) (pos 0) 2 2) 0xCC 7 (pos 1) (pos 0))) ≡ Some (TooSmall 7)
a_source_past_the_image_is_too_small = refl
