-- All colours stay below 2^24: in the picture, and in what slots hold.
use Rattle.std.proofs.Common.{◌≡◌, ℕ, zero, suc, ◌+◌, ◌*◌, ◌/◌, ◌%◌, List, [], ◌∷◌, refl, arith, Bool, true, false, Option, Some, None}
use Rattle.std.specs.Prelude.{ℤ, pos, ◌+ℤ◌, ◌-ℤ◌, All}
use Rattle.std.proofs.lemmas.Bool.{and_from, and_parts}
use Rattle.px_core.specs.declared.surface.Size.{Size}
use Rattle.px_core.specs.Colors.{is_color, are_colors}
use Rattle.px_core.specs.Picture.{Area, Formula, item, front, skipped, rows_of, pixel_in, nat_of, where_chosen, painted_from, pixel_count}
use Rattle.px_core.specs.Rectangle.{in_clip, pixel_of}
use Rattle.px_core.proofs.Colors.{color_is, replicated_are_colors, is_color-item, are_colors-listed}
use Rattle.rop3_core.specs.Rop3.{ternary_raster}
use Rattle.rop3_core.proofs.RasterBits.{ternary_raster_below}
use Rattle.draw_ops.specs.declared.shape.Drawing.{Drawing}
use Rattle.draw_ops.specs.declared.shape.Shape.{Shape}
use Rattle.draw_ops.specs.declared.shape.Shape.TheVariants.{Fill, Dst, Pat, Copy, Blit, Blit3, Text, Line, Save, Restore, LoadImage, LoadBrush, LoadGlyph}
use Rattle.draw_ops.specs.Content.{ImageOf}
use Rattle.draw_ops.specs.Slots.{SurfaceState, Slots, empty_slots, filled_slot, lookup, opening_surface}
use Rattle.draw_ops.specs.Formulas.{painted_area}
use Rattle.draw_ops.specs.Drawing.{painting_of, restoring, loaded, block_of, slots_after, state_after_drawing, state_after_drawings}
use Rattle.draw_ops.specs.Ranges.{colors_of, HasColors}
use Rattle.draw_ops.specs.StateColors.{colors_in, have_colors, image_colors, brush_colors, block_colors, StateHasColors}

-- ---- rows of colours

front_colors : (n : ℕ) (ps : List ℕ) → are_colors ps ≡ true → are_colors (front n ps) ≡ true
front_colors zero ps h = refl
front_colors (suc n) [] h = refl
front_colors (suc n) (p ∷ ps) h = let k = and_parts (is_color p) (are_colors ps) h in and_from _ _ k.0 (front_colors n ps k.1)

skipped_colors : (n : ℕ) (ps : List ℕ) → are_colors ps ≡ true → are_colors (skipped n ps) ≡ true
skipped_colors zero ps h = h
skipped_colors (suc n) [] h = refl
skipped_colors (suc n) (p ∷ ps) h = skipped_colors n ps (and_parts (is_color p) (are_colors ps) h).1

row_colors : (w h : ℕ) (ps : List ℕ) (y : ℕ) → are_colors ps ≡ true → are_colors (item (rows_of w h ps) y []) ≡ true
row_colors w zero ps y k = refl
row_colors w (suc h) ps zero k = front_colors w ps k
row_colors w (suc h) ps (suc y) k = row_colors w h (skipped w ps) y (skipped_colors w ps k)

pixel_color : (w h : ℕ) (ps : List ℕ) (x y : ℤ) → are_colors ps ≡ true → is_color (pixel_in (rows_of w h ps) 0 x y) ≡ true
pixel_color w h ps x y k = is_color-item (item (rows_of w h ps) (nat_of y) []) (nat_of x) 0 (row_colors w h ps (nat_of y) k) refl

-- ---- slots

held_colors : {A : Type 0} (colors : A → List ℕ) (slots : Slots A) (slot : ℕ) → have_colors colors slots ≡ true → are_colors (colors_in colors (lookup slot slots)) ≡ true
held_colors colors [] slot h = refl
held_colors colors (None ∷ slots) zero h = refl
held_colors colors (Some x ∷ slots) zero h = (and_parts (are_colors (colors x)) (have_colors colors slots) h).0
held_colors colors (None ∷ slots) (suc slot) h = held_colors colors slots slot h
held_colors colors (Some x ∷ slots) (suc slot) h = held_colors colors slots slot (and_parts (are_colors (colors x)) (have_colors colors slots) h).1

filled_colors : {A : Type 0} (colors : A → List ℕ) (slots : Slots A) (slot : ℕ) (x : A) → have_colors colors slots ≡ true → are_colors (colors x) ≡ true
    → have_colors colors (filled_slot slot x slots) ≡ true
filled_colors colors [] slot x h k = refl
filled_colors colors (s ∷ slots) zero x h k = and_from _ _ k (and_parts (are_colors (colors_in colors s)) (have_colors colors slots) h).1
filled_colors colors (s ∷ slots) (suc slot) x h k =
    let p = and_parts (are_colors (colors_in colors s)) (have_colors colors slots) h in and_from _ _ p.0 (filled_colors colors slots slot x p.1 k)

empty_colors : {A : Type 0} (colors : A → List ℕ) (n : ℕ) → have_colors colors (empty_slots n) ≡ true
empty_colors colors zero = refl
empty_colors colors (suc n) = empty_colors colors n

-- ---- formulas

-- a formula makes a colour of a colour
abbrev MakesColors : Formula ℕ → Type 0
MakesColors f = (x y : ℤ) (old : ℕ) → is_color old ≡ true → is_color (f x y old) ≡ true

chosen_color : (b : Bool) (f : Formula ℕ) (x y : ℤ) (old : ℕ) → MakesColors f → is_color old ≡ true → is_color (where_chosen b f x y old) ≡ true
chosen_color true f x y old makes h = makes x y old h
chosen_color false f x y old makes h = h

painted_colors : (w i : ℕ) (area : Area) (f : Formula ℕ) (ps : List ℕ) → MakesColors f → are_colors ps ≡ true → are_colors (painted_from w i area f ps) ≡ true
painted_colors w i area f [] makes h = refl
painted_colors w i area f (p ∷ ps) makes h = let k = and_parts (is_color p) (are_colors ps) h in
    and_from _ _ (chosen_color (area (pos (i % w)) (pos (i / w))) f (pos (i % w)) (pos (i / w)) p makes k.0) (painted_colors w (i + 1) area f ps makes k.1)

raster_color : (code p s d : ℕ) → is_color (ternary_raster code p s d) ≡ true
raster_color code p s d = color_is (ternary_raster code p s d) (ternary_raster_below code p s d)

one_color : (color : ℕ) → are_colors (color ∷ []) ≡ true → is_color color ≡ true
one_color color h = (and_parts (is_color color) true h).0

restored_colors : (block : Option ImageOf) (x y : ℤ) → are_colors (colors_in block_colors block) ≡ true → MakesColors (restoring block x y).formula
restored_colors None x y k = λ u v old h. h
restored_colors (Some block) x y k = λ u v old h. pixel_color block.w block.h block.pixels ((u -ℤ x) +ℤ pos 0) ((v -ℤ y) +ℤ pos 0) k

-- what a shape paints is a colour
shape_makes : (size : Size) (st : SurfaceState) (shape : Shape) → StateHasColors st → are_colors (colors_of shape) ≡ true → MakesColors (painting_of size st shape).formula
shape_makes size st (Fill r color) is h = λ x y old k. one_color color h
shape_makes size st (Dst r code) is h = λ x y old k. raster_color code _ _ old
shape_makes size st (Pat r code brush) is h = λ x y old k. raster_color code _ _ old
shape_makes size st (Copy r code sx sy) is h = λ x y old k. raster_color code _ _ old
shape_makes size st (Blit r code image sx sy) is h = λ x y old k. raster_color code _ _ old
shape_makes size st (Blit3 r code image sx sy brush) is h = λ x y old k. raster_color code _ _ old
shape_makes size st (Text x y color font run) is h = λ u v old k. one_color color h
shape_makes size st (Line x0 y0 x1 y1 color) is h = λ x y old k. one_color color h
shape_makes size st (Save slot r) is h = λ x y old k. k
shape_makes size st (Restore slot x y) is h = restored_colors (lookup slot st.blocks) x y (held_colors block_colors st.blocks slot is.blocks)
shape_makes size st (LoadImage slot image) is h = λ x y old k. k
shape_makes size st (LoadBrush slot brush) is h = λ x y old k. k
shape_makes size st (LoadGlyph font code glyph) is h = λ x y old k. k

-- what slots hold after a shape has only colours
slots_keep : (size : Size) (st : SurfaceState) (shape : Shape) → StateHasColors st → are_colors (colors_of shape) ≡ true → StateHasColors (slots_after size st shape)
slots_keep size st (Fill r color) is h = is
slots_keep size st (Dst r code) is h = is
slots_keep size st (Pat r code brush) is h = is
slots_keep size st (Copy r code sx sy) is h = is
slots_keep size st (Blit r code image sx sy) is h = is
slots_keep size st (Blit3 r code image sx sy brush) is h = is
slots_keep size st (Text x y color font run) is h = is
slots_keep size st (Line x0 y0 x1 y1 color) is h = is
slots_keep size st (Save slot r) is h = record {
  picture = is.picture;
  images = is.images;
  brushes = is.brushes;
  blocks = filled_colors block_colors st.blocks slot (block_of size st r) is.blocks
      (are_colors-listed (r.w * r.h) 0 (pixel_of (rows_of size.w size.h st.picture) 0 r) (λ k. pixel_color size.w size.h st.picture (r.x +ℤ pos (k % r.w)) (r.y +ℤ pos (k / r.w)) is.picture));
}
slots_keep size st (Restore slot x y) is h = is
slots_keep size st (LoadImage slot image) is h = record { picture = is.picture; images = filled_colors image_colors st.images slot (loaded st image) is.images h; brushes = is.brushes; blocks = is.blocks }
slots_keep size st (LoadBrush slot brush) is h = record { picture = is.picture; images = is.images; brushes = filled_colors brush_colors st.brushes slot (loaded st brush) is.brushes h; blocks = is.blocks }
slots_keep size st (LoadGlyph font code glyph) is h = record { picture = is.picture; images = is.images; brushes = is.brushes; blocks = is.blocks }

pub drawing_keeps : (size : Size) (st : SurfaceState) (d : Drawing) → StateHasColors st → HasColors d → StateHasColors (state_after_drawing size st d)
drawing_keeps size st d is h =
    let p = painting_of size st d.shape in
    let s = slots_keep size st d.shape is h in
    record { picture = painted_colors size.w 0 (painted_area (in_clip d.clip) p) p.formula st.picture (shape_makes size st d.shape is h) is.picture; images = s.images; brushes = s.brushes; blocks = s.blocks }

pub drawings_keep : (size : Size) (st : SurfaceState) (ds : List Drawing) → StateHasColors st → All HasColors ds → StateHasColors (state_after_drawings size st ds)
drawings_keep size st [] is h = is
drawings_keep size st (d ∷ ds) is h = drawings_keep size (state_after_drawing size st d) ds (drawing_keeps size st d is (h 0 d (omega arith))) (λ k e lt. h (suc k) e (omega (arith, lt)))

pub opening_has : (size : Size) → StateHasColors (opening_surface size)
opening_has size = record {
  picture = replicated_are_colors (pixel_count size) 0 refl;
  images = empty_colors image_colors 256;
  brushes = empty_colors brush_colors 64;
  blocks = empty_colors block_colors 16;
}
