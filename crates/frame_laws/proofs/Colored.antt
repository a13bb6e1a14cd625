-- A picture of colours stays one, whatever a drawing with values paints over it.
use Rattle.std.proofs.Common.{◌≡◌, ℕ, zero, suc, ◌+◌, ◌*◌, ◌/◌, ◌%◌, ◌^◌, ◌<◌, List, [], ◌∷◌, length, arith, refl}
use Rattle.std.proofs.lemmas.Bool.Decides.{nat_tests}
use Rattle.std.proofs.lemmas.Bool.{and_parts}
use Rattle.std.specs.Prelude.{Bool, true, false, ℤ, pos, ◌+ℤ◌, ◌-ℤ◌, Option, Some, None, replicate}
use Rattle.px_core.specs.declared.surface.Size.{Size}
use Rattle.px_core.specs.declared.rectangle.Rect.{Rect}
use Rattle.px_core.specs.Picture.{Area, Formula, item, nat_of, listed, rows_of, pixel_in, where_chosen, painted_from}
use Rattle.px_core.specs.Rectangle.{pixel_of, cut_out, in_clip}
use Rattle.rop3_core.proofs.RasterBits.{ternary_raster_below}
use Rattle.draw_ops.specs.declared.shape.Drawing.{Drawing}
use Rattle.draw_ops.specs.declared.shape.Shape.{Shape}
use Rattle.draw_ops.specs.declared.shape.Shape.TheVariants.{Fill, Dst, Pat, Copy, Blit, Blit3, Text, Line, Save, Restore, LoadImage, LoadBrush, LoadGlyph}
use Rattle.px_core.specs.Colors.{is_color, are_colors}
use Rattle.draw_ops.specs.Content.{ImageOf}
use Rattle.draw_ops.specs.Slots.{SurfaceState, lookup}
use Rattle.draw_ops.specs.Formulas.{image_rows, painted_area}
use Rattle.draw_ops.specs.Drawing.{painting_of, restoring, drawn_picture}
use Rattle.frame_laws.specs.Sound.{AreColors}
use Rattle.frame_laws.proofs.TurnedOver.{AllColored, colored_rows, color_item}
use Rattle.frame_laws.specs.SoundState.{IsSoundBlock}
use Rattle.frame_laws.specs.Drawings.{HasValues}

-- ---- lists of colours

pub colors_tested : (xs : List ℕ) → are_colors xs ≡ true → AreColors xs
colors_tested [] h = tt
colors_tested (x ∷ xs) h = let parts = and_parts (is_color x) (are_colors xs) h in let one = parts.0 in
    (grind (arith, nat_tests, one), colors_tested xs parts.1)

pub colors_listed : (n i : ℕ) (f : ℕ → ℕ) → ((k : ℕ) → f k < 2 ^ 24) → AreColors (listed n i f)
colors_listed zero i f h = tt
colors_listed (suc n) i f h = (h i, colors_listed n (i + 1) f h)

pub colors_black : (n : ℕ) → AreColors (replicate n 0)
colors_black zero = tt
colors_black (suc n) = (omega arith, colors_black n)

pub colored_item : (rs : List (List ℕ)) (k : ℕ) → AllColored rs → AreColors (item rs k [])
colored_item [] k h = tt
colored_item (r ∷ rs) zero h = h.0
colored_item (r ∷ rs) (suc k) h = colored_item rs k h.1

-- a pixel of rows of colours, and black beside them
pub color_pixel : (rs : List (List ℕ)) (x y : ℤ) → AllColored rs → pixel_in rs 0 x y < 2 ^ 24
color_pixel rs x y h = color_item (item rs (nat_of y) []) (nat_of x) (colored_item rs (nat_of y) h)

pub colors_cut : (size : Size) (picture : List ℕ) (r : Rect) → AreColors picture → AreColors (cut_out size picture 0 r)
colors_cut size picture r c = colors_listed (r.w * r.h) 0 (pixel_of (rows_of size.w size.h picture) 0 r)
    (λ k. color_pixel (rows_of size.w size.h picture) (r.x +ℤ pos (k % r.w)) (r.y +ℤ pos (k / r.w)) (colored_rows size.w size.h picture c))

pub length-listed : {A : Type 0} (n i : ℕ) (f : ℕ → A) → length (listed n i f) ≡ n
length-listed zero i f = refl
length-listed (suc n) i f = ap_suc (length-listed n (i + 1) f)
  where
    ap_suc : {m k : ℕ} → m ≡ k → suc m ≡ suc k
    ap_suc e = λ j. suc (e j)

-- ---- paintings

-- a formula that makes colours of colours
abbrev pub KeepsColors : Formula ℕ → Type 0
KeepsColors f = (x y : ℤ) (old : ℕ) → old < 2 ^ 24 → f x y old < 2 ^ 24

pub colors_painted : (w i : ℕ) (area : Area) (f : Formula ℕ) (ps : List ℕ) → KeepsColors f → AreColors ps → AreColors (painted_from w i area f ps)
colors_painted w i area f [] keeps h = tt
colors_painted w i area f (p ∷ ps) keeps h = (by (area (pos (i % w)) (pos (i / w))), colors_painted w (i + 1) area f ps keeps h.1)
  where
    by : (b : Bool) → where_chosen b f (pos (i % w)) (pos (i / w)) p < 2 ^ 24
    by true = keeps (pos (i % w)) (pos (i / w)) p h.0
    by false = h.0

restoring_keeps : (o : Option ImageOf) (x y : ℤ) → ((block : ImageOf) → o ≡ Some block → IsSoundBlock block) → KeepsColors (restoring o x y).formula
restoring_keeps None x y h u v old k = k
restoring_keeps (Some block) x y h u v old k = color_pixel (image_rows block) ((u -ℤ x) +ℤ pos 0) ((v -ℤ y) +ℤ pos 0)
    (colored_rows block.w block.h block.pixels (h block refl).colors)

shape_keeps : (size : Size) (st : SurfaceState) (s : Shape) → HasValues s
    → ((slot : ℕ) (block : ImageOf) → lookup slot st.blocks ≡ Some block → IsSoundBlock block)
    → KeepsColors (painting_of size st s).formula
shape_keeps size st (Fill r color) v b x y old k = v
shape_keeps size st (Dst r code) v b x y old k = ternary_raster_below code _ _ _
shape_keeps size st (Pat r code brush) v b x y old k = ternary_raster_below code _ _ _
shape_keeps size st (Copy r code sx sy) v b x y old k = ternary_raster_below code _ _ _
shape_keeps size st (Blit r code image sx sy) v b x y old k = ternary_raster_below code _ _ _
shape_keeps size st (Blit3 r code image sx sy brush) v b x y old k = ternary_raster_below code _ _ _
shape_keeps size st (Text x y color font run) v b u w old k = v
shape_keeps size st (Line x0 y0 x1 y1 color) v b x y old k = v
shape_keeps size st (Save slot r) v b x y old k = k
shape_keeps size st (Restore slot x y) v b u w old k = restoring_keeps (lookup slot st.blocks) x y (λ block e. b slot block e) u w old k
shape_keeps size st (LoadImage slot image) v b x y old k = k
shape_keeps size st (LoadBrush slot brush) v b x y old k = k
shape_keeps size st (LoadGlyph font code glyph) v b x y old k = k

-- a picture of colours, after a drawing with values
pub colors_drawn : (size : Size) (st : SurfaceState) (d : Drawing) → HasValues d.shape
    → ((slot : ℕ) (block : ImageOf) → lookup slot st.blocks ≡ Some block → IsSoundBlock block)
    → AreColors st.picture → AreColors (drawn_picture size st d)
colors_drawn size st d values blocks h =
    let p = painting_of size st d.shape in
    colors_painted size.w 0 (painted_area (in_clip d.clip) p) p.formula st.picture (shape_keeps size st d.shape values blocks) h
