-- Each shape's new pixels are of its form, and the operands of a state that is shown are the shown operands.
use Rattle.std.proofs.Common.{◌≡◌, ℕ, zero, suc, ◌+◌, ◌*◌, ◌%◌, List, [], ◌∷◌, refl, sym, ap, ◌∙◌, map}
use Rattle.std.specs.Prelude.{ℤ, pos, ◌+ℤ◌, ◌-ℤ◌, Option, Some, None, option_map}
use Rattle.px_core.specs.declared.surface.Size.{Size}
use Rattle.px_core.specs.declared.rectangle.Rect.{Rect}
use Rattle.px_core.specs.Picture.{item, rows_of, nat_of, pixel_in, painted, Area}
use Rattle.px_core.specs.Rectangle.{boxed, in_clip}
use Rattle.rop3_core.specs.Palette.{session_colors}
use Rattle.draw_ops.specs.declared.shape.Drawing.{Drawing}
use Rattle.draw_ops.specs.declared.shape.Shape.{Shape}
use Rattle.draw_ops.specs.declared.shape.Shape.TheVariants.{Fill, Dst, Pat, Copy, Blit, Blit3, Text, Line, Save, Restore, LoadImage, LoadBrush, LoadGlyph}
use Rattle.draw_ops.specs.Content.{ImageOf}
use Rattle.draw_ops.specs.Slots.{SurfaceState, Loaded, Slots, lookup}
use Rattle.draw_ops.specs.Formulas.{Operand, absent, brushed, shifted, painted_area}
use Rattle.draw_ops.specs.Drawing.{painting_of, restoring, content_of, pattern_of, source_of, pattern_in, source_in, drawn_picture}
use Rattle.px_core.specs.declared.depth.Depth.{Depth}
use Rattle.px_core.specs.Depth.{shown, shown_colors}
use Rattle.draw_ops.specs.Depths.{shown_image, cut_colors_at}
use Rattle.draw_ops.specs.Forms.{formula_of, changed_operand, changed_form}
use Rattle.draw_ops.specs.Forms.Form.{Copied, Mixed}
use Rattle.draw_ops.specs.Shapes.{restored_form, form_of, shown_content, shown_state, shown_shape, shown_drawing, drawn_picture_at}
use Rattle.px_core.proofs.Cut.{shown_black}
use Rattle.px_core.proofs.Turned.{rows_of-map}
use Rattle.draw_ops.proofs.Changed.{form_follows, picture_follows, session_changes}

restored_is : (block : Option ImageOf) (x y : ℤ) → (restoring block x y).formula ≡ formula_of session_colors (restored_form block x y)
restored_is None x y = refl
restored_is (Some block) x y = refl

-- the formula of each shape is of its form
pub form_is : (size : Size) (st : SurfaceState) (s : Shape) → (painting_of size st s).formula ≡ formula_of session_colors (form_of size st s)
form_is size st (Fill r color) = refl
form_is size st (Dst r code) = refl
form_is size st (Pat r code brush) = refl
form_is size st (Copy r code sx sy) = refl
form_is size st (Blit r code image sx sy) = refl
form_is size st (Blit3 r code image sx sy brush) = refl
form_is size st (Text x y color font run) = refl
form_is size st (Line x0 y0 x1 y1 color) = refl
form_is size st (Save slot r) = refl
form_is size st (Restore slot x y) = restored_is (lookup slot st.blocks) x y
form_is size st (LoadImage slot image) = refl
form_is size st (LoadBrush slot brush) = refl
form_is size st (LoadGlyph font code glyph) = refl

-- ---- items and pixels of changed lists

pub item-map : {A B : Type 0} (f : A → B) (xs : List A) (k : ℕ) (other : A) → item (map f xs) k (f other) ≡ f (item xs k other)
item-map f [] k other = refl
item-map f (x ∷ xs) zero other = refl
item-map f (x ∷ xs) (suc k) other = item-map f xs k other

pub pixel_in-map : {A B : Type 0} (f : A → B) (rows : List (List A)) (other : A) (x y : ℤ) → pixel_in (map (map f) rows) (f other) x y ≡ f (pixel_in rows other x y)
pixel_in-map f rows other x y = ap (λ r. item r (nat_of x) (f other)) (item-map (map f) rows (nat_of y) []) ∙ item-map f (item rows (nat_of y) []) (nat_of x) other

pub lookup-map : {A B : Type 0} (f : A → B) (slots : Slots A) (slot : ℕ) → lookup slot (map (option_map f) slots) ≡ option_map f (lookup slot slots)
lookup-map f [] slot = refl
lookup-map f (None ∷ slots) zero = refl
lookup-map f (Some x ∷ slots) zero = refl
lookup-map f (o ∷ slots) (suc slot) = lookup-map f slots slot

-- ---- operands of a state that is shown

-- the pixel of rows that are shown, with black past their ends
pub shifted_shown : (d : Depth) (w h : ℕ) (pixels : List ℕ) (r : Rect) (sx sy x y : ℤ)
    → shifted (rows_of w h (shown_colors d pixels)) 0 r sx sy x y ≡ shown d (shifted (rows_of w h pixels) 0 r sx sy x y)
shifted_shown d w h pixels r sx sy x y =
    ap (λ rows. pixel_in rows 0 ((x -ℤ r.x) +ℤ sx) ((y -ℤ r.y) +ℤ sy)) (rows_of-map (shown d) w h pixels)
    ∙ ap (λ z. pixel_in (map (map (shown d)) (rows_of w h pixels)) z ((x -ℤ r.x) +ℤ sx) ((y -ℤ r.y) +ℤ sy)) (sym (shown_black d))
    ∙ pixel_in-map (shown d) (rows_of w h pixels) 0 ((x -ℤ r.x) +ℤ sx) ((y -ℤ r.y) +ℤ sy)

pub brushed_shown : (d : Depth) (brush : List ℕ) (x y : ℤ) → brushed session_colors (shown_colors d brush) x y ≡ shown d (brushed session_colors brush x y)
brushed_shown d brush x y = let k = 8 * (nat_of y % 8) + nat_of x % 8 in ap (λ z. item (shown_colors d brush) k z) (sym (shown_black d)) ∙ item-map (shown d) brush k 0

pattern_shown : (d : Depth) (o : Option (Loaded (List ℕ))) (x y : ℤ)
    → pattern_of (content_of (option_map (shown_content (shown_colors d)) o)) x y ≡ shown d (pattern_of (content_of o) x y)
pattern_shown d None x y = sym (shown_black d)
pattern_shown d (Some l) x y = brushed_shown d l.content x y

source_shown : (d : Depth) (o : Option (Loaded ImageOf)) (r : Rect) (sx sy x y : ℤ)
    → source_of (content_of (option_map (shown_content (shown_image d)) o)) r sx sy x y ≡ shown d (source_of (content_of o) r sx sy x y)
source_shown d None r sx sy x y = sym (shown_black d)
source_shown d (Some l) r sx sy x y = shifted_shown d l.content.w l.content.h l.content.pixels r sx sy x y

black : (d : Depth) → absent session_colors ≡ changed_operand (shown d) (absent session_colors)
black d = λ i x y. sym (shown_black d) i

pattern_same : (d : Depth) (st : SurfaceState) (brush : ℕ) → pattern_in (shown_state d st) brush ≡ changed_operand (shown d) (pattern_in st brush)
pattern_same d st brush = λ i x y. (ap (λ o. pattern_of (content_of o) x y) (lookup-map (shown_content (shown_colors d)) st.brushes brush) ∙ pattern_shown d (lookup brush st.brushes) x y) i

source_same : (d : Depth) (st : SurfaceState) (image : ℕ) (r : Rect) (sx sy : ℤ) → source_in (shown_state d st) image r sx sy ≡ changed_operand (shown d) (source_in st image r sx sy)
source_same d st image r sx sy = λ i x y. (ap (λ o. source_of (content_of o) r sx sy x y) (lookup-map (shown_content (shown_image d)) st.images image) ∙ source_shown d (lookup image st.images) r sx sy x y) i

picture_same : (d : Depth) (size : Size) (st : SurfaceState) (r : Rect) (sx sy : ℤ)
    → shifted (rows_of size.w size.h (shown_colors d st.picture)) 0 r sx sy ≡ changed_operand (shown d) (shifted (rows_of size.w size.h st.picture) 0 r sx sy)
picture_same d size st r sx sy = λ i x y. shifted_shown d size.w size.h st.picture r sx sy x y i

mixed_same : (code : ℕ) (p q s t : Operand ℕ) → p ≡ q → s ≡ t → Mixed code p s ≡ Mixed code q t
mixed_same code p q s t e f = λ i. Mixed code (e i) (f i)

-- ---- each shape

restored_same : (d : Depth) (block : Option ImageOf) (x y : ℤ) → restored_form (option_map (shown_image d) block) x y ≡ changed_form (shown d) (shown d) (restored_form block x y)
restored_same d None x y = refl
restored_same d (Some block) x y = λ i. Copied (λ u v. shifted_shown d block.w block.h block.pixels (boxed x y block.w block.h) (pos 0) (pos 0) u v i)

-- the form over what is shown is the shown form
pub form_same : (d : Depth) (size : Size) (st : SurfaceState) (s : Shape) → form_of size (shown_state d st) (shown_shape d s) ≡ changed_form (shown d) (shown d) (form_of size st s)
form_same d size st (Fill r color) = refl
form_same d size st (Dst r code) = mixed_same code _ _ _ _ (black d) (black d)
form_same d size st (Pat r code brush) = mixed_same code _ _ _ _ (pattern_same d st brush) (black d)
form_same d size st (Copy r code sx sy) = mixed_same code _ _ _ _ (black d) (picture_same d size st r sx sy)
form_same d size st (Blit r code image sx sy) = mixed_same code _ _ _ _ (black d) (source_same d st image r sx sy)
form_same d size st (Blit3 r code image sx sy brush) = mixed_same code _ _ _ _ (pattern_same d st brush) (source_same d st image r sx sy)
form_same d size st (Text x y color font run) = refl
form_same d size st (Line x0 y0 x1 y1 color) = refl
form_same d size st (Save slot r) = refl
form_same d size st (Restore slot x y) = ap (λ o. restored_form o x y) (lookup-map (shown_image d) st.blocks slot) ∙ restored_same d (lookup slot st.blocks) x y
form_same d size st (LoadImage slot image) = refl
form_same d size st (LoadBrush slot brush) = refl
form_same d size st (LoadGlyph font code glyph) = refl

-- a drawing changes the same pixels of a state that is shown
abbrev area_at : Size → SurfaceState → Option Rect → Shape → Area
area_at size st clip s = painted_area (in_clip clip) (painting_of size st s)

restored_area : (d : Depth) (block : Option ImageOf) (clip : Option Rect) (x y : ℤ)
    → painted_area (in_clip clip) (restoring (option_map (shown_image d) block) x y) ≡ painted_area (in_clip clip) (restoring block x y)
restored_area d None clip x y = refl
restored_area d (Some block) clip x y = refl

pub area_same : (d : Depth) (size : Size) (st : SurfaceState) (clip : Option Rect) (s : Shape) → area_at size (shown_state d st) clip (shown_shape d s) ≡ area_at size st clip s
area_same d size st clip (Fill r color) = refl
area_same d size st clip (Dst r code) = refl
area_same d size st clip (Pat r code brush) = refl
area_same d size st clip (Copy r code sx sy) = refl
area_same d size st clip (Blit r code image sx sy) = refl
area_same d size st clip (Blit3 r code image sx sy brush) = refl
area_same d size st clip (Text x y color font run) = refl
area_same d size st clip (Line x0 y0 x1 y1 color) = refl
area_same d size st clip (Save slot r) = refl
area_same d size st clip (Restore slot x y) = ap (λ o. painted_area (in_clip clip) (restoring o x y)) (lookup-map (shown_image d) st.blocks slot) ∙ restored_area d (lookup slot st.blocks) clip x y
area_same d size st clip (LoadImage slot image) = refl
area_same d size st clip (LoadBrush slot brush) = refl
area_same d size st clip (LoadGlyph font code glyph) = refl

-- over the state as it is shown, the drawing as it is shown makes the picture as it is shown
pub picture_shown : (d : Depth) (size : Size) (st : SurfaceState) (dr : Drawing) → drawn_picture_at d size (shown_state d st) (shown_drawing d dr) ≡ map (shown d) (drawn_picture size st dr)
picture_shown d size st dr =
    ap (λ a. painted size a (formula_of (cut_colors_at d) (form_of size (shown_state d st) (shown_shape d dr.shape))) (map (shown d) st.picture)) (area_same d size st dr.clip dr.shape)
    ∙ ap (λ f. painted size (area_at size st dr.clip dr.shape) (formula_of (cut_colors_at d) f) (map (shown d) st.picture)) (form_same d size st dr.shape)
    ∙ picture_follows (shown d) size (area_at size st dr.clip dr.shape) _ _ st.picture (form_follows _ _ _ _ (form_of size st dr.shape) (session_changes d))
    ∙ ap (λ g. map (shown d) (painted size (area_at size st dr.clip dr.shape) g st.picture)) (sym (form_is size st dr.shape))
