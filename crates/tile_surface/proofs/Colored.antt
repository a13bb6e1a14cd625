-- Words that are colours: in pictures that were painted in part, in images and in brushes.
use Rattle.std.proofs.Common.{◌≡◌, ℕ, zero, suc, ◌-◌, ◌%◌, ◌<◌, ◌^◌, List, [], ◌∷◌, bit_and, Bool, true, false, refl, sym, subst, ◌∙◌, arith, Option, Some, None}
use Rattle.std.specs.Prelude.{ℤ, pos, ◌+ℤ◌, ◌-ℤ◌, IfSome, IsTrue, if◌then◌else◌}
use Rattle.std.proofs.lemmas.Bool.{and_parts}
use Rattle.std.proofs.lemmas.Int.{ints}
use Rattle.std.proofs.lemmas.Nat.{and_mask}
use Rattle.px_core.specs.declared.rectangle.Rect.{Rect}
use Rattle.px_core.specs.declared.surface.Size.{Size}
use Rattle.px_core.specs.Colors.{is_color, are_colors}
use Rattle.px_core.specs.Picture.{pixel_at, pixel_in, rows_of}
use Rattle.px_core.specs.Rectangle.{boxed}
use Rattle.px_core.proofs.Colors.{color_below, is_color-item}
use Rattle.draw_ops.specs.Content.{ImageOf}
use Rattle.draw_ops.specs.Drawing.{content_of, pattern_of, source_of}
use Rattle.draw_ops.specs.Slots.{Loaded, Slots, lookup}
use Rattle.draw_ops.specs.StateColors.{have_colors}
use Rattle.surface_parts.specs.Parts.{IsRepainted, Pixels}
use Rattle.surface_parts.proofs.Sound.{cut_has_colors}
use Rattle.tile_surface.specs.Rows.{HasColoredPixels}

-- a colour has no other bits than colours have
pub color_whole : (color : ℕ) → color < 2 ^ 24 → color ≡ bit_and color (2 ^ 24 - 1)
color_whole color h = let rest : color % 2 ^ 24 ≡ color = omega (arith, h) in sym (and_mask color 24 ∙ rest)

-- ---- pictures

pub pixels_colored : (size : Size) (ps : List ℕ) → are_colors ps ≡ true → HasColoredPixels size ps
pixels_colored size ps h x y left above = color_below (pixel_at size ps 0 x y) (is_color-item ps _ 0 h refl)

either_colored : (b : Bool) (c d : ℕ) → c < 2 ^ 24 → d < 2 ^ 24 → (if b then c else d) < 2 ^ 24
either_colored true c d h k = h
either_colored false c d h k = k

pub repainted_colored : (size : Size) (area : Pixels) (f : ℕ → ℕ → ℕ) (old new : List ℕ) → HasColoredPixels size old → ((x y : ℕ) → f x y < 2 ^ 24) → IsRepainted size area f old new → HasColoredPixels size new
repainted_colored size area f old new was makes done x y left above =
    subst (λ (c : ℕ). c < 2 ^ 24) (sym (done.pixel x y left above)) (either_colored (area x y) (f x y) (pixel_at size old 0 x y) (makes x y) (was x y left above))

-- ---- operands

pub pattern_colored : (brush : Option (List ℕ)) (x y : ℕ) → IfSome brush (λ b. IsTrue (are_colors b)) → pattern_of brush (pos x) (pos y) < 2 ^ 24
pattern_colored None x y h = omega arith
pattern_colored (Some b) x y h = color_below _ (is_color-item b _ 0 h refl)

-- a pixel of an image, as all of what a cut of one pixel has
image_pixel : (w h : ℕ) (ps : List ℕ) (x y : ℤ) → are_colors ps ≡ true → is_color (pixel_in (rows_of w h ps) 0 x y) ≡ true
image_pixel w h ps x y colors =
    let ex : (x +ℤ pos 0) ≡ x = omega (arith, ints) in
    let ey : (y +ℤ pos 0) ≡ y = omega (arith, ints) in
    let cut = cut_has_colors (record { w = w; h = h }) ps (boxed x y 1 1) colors in
    let one : is_color (pixel_in (rows_of w h ps) 0 (x +ℤ pos 0) (y +ℤ pos 0)) ≡ true = (and_parts (is_color (pixel_in (rows_of w h ps) 0 (x +ℤ pos 0) (y +ℤ pos 0))) true cut).0 in
    subst (λ (u : ℤ). is_color (pixel_in (rows_of w h ps) 0 u y) ≡ true) ex (subst (λ (v : ℤ). is_color (pixel_in (rows_of w h ps) 0 (x +ℤ pos 0) v) ≡ true) ey one)

pub source_colored : (image : Option ImageOf) (r : Rect) (sx sy : ℤ) (x y : ℕ) → IfSome image (λ i. IsTrue (are_colors i.pixels)) → source_of image r sx sy (pos x) (pos y) < 2 ^ 24
source_colored None r sx sy x y h = omega arith
source_colored (Some i) r sx sy x y h = color_below _ (image_pixel i.w i.h i.pixels ((pos x -ℤ r.x) +ℤ sx) ((pos y -ℤ r.y) +ℤ sy) h)

-- ---- slots

pub content_colored : {A : Type 0} (colors : A → List ℕ) (slots : Slots (Loaded A)) (slot : ℕ) → have_colors (λ l. colors l.content) slots ≡ true
    → IfSome (content_of (lookup slot slots)) (λ a. IsTrue (are_colors (colors a)))
content_colored colors [] slot h = tt
content_colored colors (None ∷ slots) zero h = tt
content_colored colors (Some l ∷ slots) zero h = (and_parts (are_colors (colors l.content)) (have_colors (λ l. colors l.content) slots) h).0
content_colored colors (None ∷ slots) (suc slot) h = content_colored colors slots slot h
content_colored colors (Some l ∷ slots) (suc slot) h = content_colored colors slots slot (and_parts (are_colors (colors l.content)) (have_colors (λ l. colors l.content) slots) h).1
