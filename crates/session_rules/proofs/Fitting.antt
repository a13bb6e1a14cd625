-- The drawings of the board fit, where their numbers are those of the surface and their slots are filled.
use Rattle.std.proofs.Common.{◌≡◌, ℕ, ◌+◌, ◌≤◌, [], ◌∷◌, refl, ap, ◌∙◌, Some, None, arith}
use Rattle.std.specs.Prelude.{Option, Bool, true, false, ◌&&◌, not, nat_lt, IsTrue, is_some, ℤ, pos, negsuc, ◌+ℤ◌, ◌≤ℤ◌, int_le, option_map}
use Rattle.std.proofs.lemmas.Bool.{and_from, and_parts}
use Rattle.std.proofs.lemmas.Bool.Decides.{nat_tests}
use Rattle.std.proofs.lemmas.Int.{ints}
use Rattle.px_core.specs.declared.surface.Size.{Size}
use Rattle.px_core.specs.declared.rectangle.Rect.{Rect}
use Rattle.px_core.specs.Rectangle.{boxed, is_inside, is_session_size}
use Rattle.px_core.proofs.Stretches.{int_le_from}
use Rattle.draw_ops.specs.declared.shape.Shape.TheVariants.{Fill, Dst, Pat, Copy, Blit, Text, Line, Save, Restore, LoadImage, LoadBrush, LoadGlyph}
use Rattle.draw_ops.specs.Content.{ImageOf, GlyphOf}
use Rattle.draw_ops.specs.Slots.{SurfaceState, Loaded, lookup, glyph_slot}
use Rattle.draw_ops.specs.Fits.{FitsState, first_some, broken_if, is_side, is_corner, rect_rule, place_rule, line_rule, copied_rule, saved_rule, code_limit_rule, empty_if_none, too_small_if, source_test, block_test, empty_glyph}
use Rattle.draw_ops.specs.Fits.Misfit.{Rule}
use Rattle.session_rules.specs.Board.{unclipped, checkered, shaded, sign_of, board_image, board_brush, board_font, board_block}
use Rattle.session_rules.specs.Agreement.{HoldsSides, HoldsLoadedSides}

-- the limits of a session's sides
pub record Sides (w h : ℕ) : Type 0 where
  pub wide : 4 ≤ w
  pub not_wider : w ≤ 2048
  pub high : 1 ≤ h
  pub not_higher : h ≤ 2048

pub sides_of : (w h : ℕ) → is_session_size w h ≡ true → Sides w h
sides_of w h good = record { wide = grind (arith, nat_tests); not_wider = grind (arith, nat_tests); high = grind (arith, nat_tests); not_higher = grind (arith, nat_tests) }

-- ---- the rules

pub passed : (t : Bool) (rule : ℕ) → t ≡ true → broken_if (not t) rule ≡ None
passed t rule h = ap (λ b. broken_if (not b) rule) h

pub side : (n : ℕ) → 1 ≤ n → n ≤ 2048 → is_side n ≡ true
side n low high = grind (arith, nat_tests)

pub corner : (z : ℤ) → negsuc 4095 ≤ℤ z → z ≤ℤ pos 4095 → is_corner z ≡ true
corner z low high = and_from _ _ (int_le_from (negsuc 4095) z low) (int_le_from z (pos 4095) high)

pub corner_of : (n : ℕ) → n ≤ 4095 → is_corner (pos n) ≡ true
corner_of n h = corner (pos n) (omega (arith, ints)) (omega (arith, ints, h))

pub rect_passes : (x y : ℤ) (w h : ℕ) → is_side w ≡ true → is_side h ≡ true → is_corner x ≡ true → is_corner y ≡ true → rect_rule (boxed x y w h) ≡ None
rect_passes x y w h a b c d = passed _ 1 (and_from _ _ (and_from _ _ a b) (and_from _ _ c d))

pub place_passes : (x y : ℤ) → is_corner x ≡ true → is_corner y ≡ true → place_rule x y ≡ None
place_passes x y c d = passed _ 1 (and_from _ _ c d)

pub lies_inside : (size : Size) (x y w h : ℕ) → x + w ≤ size.w → y + h ≤ size.h → is_inside size (boxed (pos x) (pos y) w h) ≡ true
lies_inside size x y w h a b = and_from _ _ (and_from _ _ (int_le_from (pos 0) (pos x) (omega (arith, ints))) (int_le_from (pos x +ℤ pos w) (pos size.w) (omega (arith, ints, a))))
    (and_from _ _ (int_le_from (pos 0) (pos y) (omega (arith, ints))) (int_le_from (pos y +ℤ pos h) (pos size.h) (omega (arith, ints, b))))

-- what lies inside lies within the sides
pub inside_wide : (size : Size) (x y w h : ℕ) → is_inside size (boxed (pos x) (pos y) w h) ≡ true → x + w ≤ size.w
inside_wide size x y w h good = let e = (and_parts (int_le (pos 0) (pos x)) (int_le (pos x +ℤ pos w) (pos size.w)) (and_parts (int_le (pos 0) (pos x) && int_le (pos x +ℤ pos w) (pos size.w)) (int_le (pos 0) (pos y) && int_le (pos y +ℤ pos h) (pos size.h)) good).0).1 in omega (arith, ints)

pub inside_high : (size : Size) (x y w h : ℕ) → is_inside size (boxed (pos x) (pos y) w h) ≡ true → y + h ≤ size.h
inside_high size x y w h good = let e = (and_parts (int_le (pos 0) (pos y)) (int_le (pos y +ℤ pos h) (pos size.h)) (and_parts (int_le (pos 0) (pos x) && int_le (pos x +ℤ pos w) (pos size.w)) (int_le (pos 0) (pos y) && int_le (pos y +ℤ pos h) (pos size.h)) good).1).1 in omega (arith, ints)

-- ---- drawings that read no slot

pub fill_fits : (size : Size) (st : SurfaceState) (r : Rect) (color : ℕ) → rect_rule r ≡ None → FitsState size st (unclipped (Fill r color))
fill_fits size st r color h = ap (λ o. first_some (option_map Rule (first_some (o ∷ None ∷ [])) ∷ None ∷ [])) h

pub invert_fits : (size : Size) (st : SurfaceState) (r : Rect) → rect_rule r ≡ None → FitsState size st (unclipped (Dst r 0x55))
invert_fits size st r h = ap (λ o. first_some (option_map Rule (first_some (o ∷ None ∷ None ∷ [])) ∷ None ∷ [])) h

pub copy_fits : (size : Size) (st : SurfaceState) (r : Rect) (sx sy : ℤ) → rect_rule r ≡ None → copied_rule size r sx sy ≡ None → FitsState size st (unclipped (Copy r 0xCC sx sy))
copy_fits size st r sx sy h k = ap (λ o. first_some (option_map Rule (first_some (o ∷ None ∷ None ∷ copied_rule size r sx sy ∷ [])) ∷ None ∷ [])) h
    ∙ ap (λ o. first_some (option_map Rule (first_some (None ∷ None ∷ None ∷ o ∷ [])) ∷ None ∷ [])) k

pub line_fits : (size : Size) (st : SurfaceState) (x0 y0 x1 y1 : ℤ) (color : ℕ) → line_rule x0 y0 x1 y1 ≡ None → FitsState size st (unclipped (Line x0 y0 x1 y1 color))
line_fits size st x0 y0 x1 y1 color h = ap (λ o. first_some (option_map Rule (first_some (None ∷ o ∷ [])) ∷ None ∷ [])) h

pub save_fits : (size : Size) (st : SurfaceState) (r : Rect) → rect_rule r ≡ None → saved_rule size r ≡ None → FitsState size st (unclipped (Save board_block r))
save_fits size st r h k = ap (λ o. first_some (option_map Rule (first_some (o ∷ None ∷ None ∷ saved_rule size r ∷ [])) ∷ None ∷ [])) h
    ∙ ap (λ o. first_some (option_map Rule (first_some (None ∷ None ∷ None ∷ o ∷ [])) ∷ None ∷ [])) k

pub brush_load_fits : (size : Size) (st : SurfaceState) → FitsState size st (unclipped (LoadBrush board_brush checkered))
brush_load_fits size st = refl

pub image_load_fits : (size : Size) (st : SurfaceState) → FitsState size st (unclipped (LoadImage board_image (record { w = 16; h = 16; pixels = shaded })))
image_load_fits size st = refl

abbrev pub sign_glyph : ℕ → GlyphOf
sign_glyph code = record { x = pos 0; y = pos 0; cx = 8; cy = 8; bits = sign_of code }

pub code_passes : (code : ℕ) → code ≤ 255 → code_limit_rule code ≡ None
code_passes code h = ap (λ t. broken_if t 5) (not_above code h)
  where
    not_above : (n : ℕ) → n ≤ 255 → nat_lt 255 n ≡ false
    not_above n k = grind (arith, nat_tests)

pub glyph_load_fits : (size : Size) (st : SurfaceState) (code : ℕ) → code ≤ 255 → FitsState size st (unclipped (LoadGlyph board_font code (sign_glyph code)))
glyph_load_fits size st code h = ap (λ o. first_some (option_map Rule (first_some (None ∷ None ∷ o ∷ None ∷ [])) ∷ None ∷ [])) (code_passes code h)

-- ---- drawings that read a slot

some_of : {A : Type 0} (slot : ℕ) (o : Option A) → IsTrue (is_some o) → empty_if_none slot o ≡ None
some_of slot None h = absurd (cc h)
some_of slot (Some x) h = refl

pub pattern_fits : (size : Size) (st : SurfaceState) (r : Rect) → rect_rule r ≡ None → IsTrue (is_some (lookup board_brush st.brushes)) → FitsState size st (unclipped (Pat r 0x5A board_brush))
pattern_fits size st r h k = ap (λ o. first_some (option_map Rule (first_some (o ∷ None ∷ None ∷ None ∷ [])) ∷ first_some (empty_if_none board_brush (lookup board_brush st.brushes) ∷ []) ∷ [])) h
    ∙ ap (λ o. first_some (None ∷ first_some (o ∷ []) ∷ [])) (some_of board_brush (lookup board_brush st.brushes) k)

-- the tests of the board's image as a source of 16 by 16
source_passes : (o : Option (Loaded ImageOf)) (x y : ℤ) → HoldsLoadedSides o 16 16
    → first_some (empty_if_none board_image o ∷ source_test o board_image (boxed x y 16 16) (pos 0) (pos 0) ∷ []) ≡ None
source_passes None x y h = absurd h
source_passes (Some image) x y h =
    ap (λ w. first_some (too_small_if (not (is_inside (record { w = w; h = image.content.h }) (boxed (pos 0) (pos 0) 16 16))) board_image ∷ [])) h.0
    ∙ ap (λ n. first_some (too_small_if (not (is_inside (record { w = 16; h = n }) (boxed (pos 0) (pos 0) 16 16))) board_image ∷ [])) h.1

pub stamp_fits : (size : Size) (st : SurfaceState) (x y : ℤ) → rect_rule (boxed x y 16 16) ≡ None → HoldsLoadedSides (lookup board_image st.images) 16 16
    → FitsState size st (unclipped (Blit (boxed x y 16 16) 0x66 board_image (pos 0) (pos 0)))
stamp_fits size st x y h k =
    ap (λ o. first_some (option_map Rule (first_some (o ∷ None ∷ None ∷ None ∷ [])) ∷ first_some (empty_if_none board_image (lookup board_image st.images) ∷ source_test (lookup board_image st.images) board_image (boxed x y 16 16) (pos 0) (pos 0) ∷ []) ∷ [])) h
    ∙ ap (λ o. first_some (None ∷ o ∷ [])) (source_passes (lookup board_image st.images) x y k)

block_passes : (size : Size) (o : Option ImageOf) (x y : ℤ) → HoldsSides o 64 16 → is_inside size (boxed x y 64 16) ≡ true
    → first_some (empty_if_none board_block o ∷ block_test size o board_block x y ∷ []) ≡ None
block_passes size None x y h k = absurd h
block_passes size (Some block) x y h k =
    ap (λ w. first_some (too_small_if (not (is_inside size (boxed x y w block.h))) board_block ∷ [])) h.0
    ∙ ap (λ n. first_some (too_small_if (not (is_inside size (boxed x y 64 n))) board_block ∷ [])) h.1
    ∙ ap (λ t. first_some (too_small_if (not t) board_block ∷ [])) k

pub restore_fits : (size : Size) (st : SurfaceState) (x y : ℤ) → place_rule x y ≡ None → is_inside size (boxed x y 64 16) ≡ true → HoldsSides (lookup board_block st.blocks) 64 16
    → FitsState size st (unclipped (Restore board_block x y))
restore_fits size st x y h k m =
    ap (λ o. first_some (option_map Rule (first_some (o ∷ None ∷ None ∷ [])) ∷ first_some (empty_if_none board_block (lookup board_block st.blocks) ∷ block_test size (lookup board_block st.blocks) board_block x y ∷ []) ∷ [])) h
    ∙ ap (λ o. first_some (None ∷ o ∷ [])) (block_passes size (lookup board_block st.blocks) x y m k)

pub sign_fits : (size : Size) (st : SurfaceState) (x y : ℤ) (color code : ℕ) → place_rule x y ≡ None → code ≤ 255 → IsTrue (is_some (lookup (glyph_slot board_font code) st.glyphs))
    → FitsState size st (unclipped (Text x y color board_font ((code, 0) ∷ [])))
sign_fits size st x y color code h low k =
    ap (λ o. first_some (option_map Rule (first_some (o ∷ None ∷ None ∷ first_some (code_limit_rule code ∷ None ∷ []) ∷ None ∷ [])) ∷ first_some (empty_glyph st.glyphs board_font ((code, 0) ∷ []) ∷ []) ∷ [])) h
    ∙ ap (λ o. first_some (option_map Rule (first_some (None ∷ None ∷ None ∷ first_some (o ∷ None ∷ []) ∷ None ∷ [])) ∷ first_some (empty_glyph st.glyphs board_font ((code, 0) ∷ []) ∷ []) ∷ [])) (code_passes code low)
    ∙ ap (λ o. first_some (None ∷ first_some (first_some (o ∷ None ∷ []) ∷ []) ∷ [])) (some_of code (lookup (glyph_slot board_font code) st.glyphs) k)
