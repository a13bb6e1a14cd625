-- The rectangle of a run of glyphs has edges of two bytes.
use Rattle.std.proofs.Common.{◌≡◌, ℕ, ◌*◌, ◌≤◌, List, [], ◌∷◌, length, refl, sym, subst, arith}
use Rattle.std.specs.Prelude.{true, ⊤, Option, ℤ, pos, negsuc, ◌+ℤ◌, ◌-ℤ◌, ◌≤ℤ◌, int_le}
use Rattle.std.specs.Int.{int_min, int_max}
use Rattle.std.proofs.lemmas.Int.{ints, clamps}
use Rattle.std.proofs.lemmas.Bool.{and_parts}
use Rattle.px_core.specs.declared.surface.Size.{Size}
use Rattle.px_core.specs.declared.rectangle.Rect.{Rect}
use Rattle.px_core.specs.Picture.{nat_of}
use Rattle.px_core.specs.Rectangle.{joint}
use Rattle.draw_ops.specs.Content.{GlyphOf}
use Rattle.draw_ops.specs.Slots.{SurfaceState, Loaded, glyph_slot}
use Rattle.draw_ops.specs.Formulas.{glyph_cell, cell_of, run_cells, joint_of}
use Rattle.draw_ops.specs.Drawing.{content_of, glyphs_in}
use Rattle.draw_ops.specs.Fits.{is_offset, is_corner}
use Rattle.session_rules.specs.declared.entry.Entry.{Entry}
use Rattle.frame_laws.specs.Run.{AreGlyphs, AreDeltas}
use Rattle.frame_laws.specs.SoundState.{IsSoundGlyph, IsSound}

-- a rectangle near the surface
pub record IsNear (r : Rect) : Type 0 where
  pub left : negsuc 4159 ≤ℤ r.x
  pub right : (r.x +ℤ pos r.w) ≤ℤ pos 12319
  pub above : negsuc 4159 ≤ℤ r.y
  pub below : (r.y +ℤ pos r.h) ≤ℤ pos 12319

abbrev AllNear : List Rect → Type 0
AllNear [] = ⊤
AllNear (r ∷ rs) = IsNear r × AllNear rs

nat_of_positive : (z : ℤ) → pos 0 ≤ℤ z → pos (nat_of z) ≡ z
nat_of_positive (pos n) h = refl
nat_of_positive (negsuc n) h = absurd (omega (arith, ints, h))

-- one side of the smallest rectangle that has both
joint_side : (a b : ℤ) (m n : ℕ) → negsuc 4159 ≤ℤ a → (a +ℤ pos m) ≤ℤ pos 12319 → negsuc 4159 ≤ℤ b → (b +ℤ pos n) ≤ℤ pos 12319
    → (negsuc 4159 ≤ℤ int_min a b) × ((int_min a b +ℤ pos (nat_of (int_max (a +ℤ pos m) (b +ℤ pos n) -ℤ int_min a b))) ≤ℤ pos 12319)
joint_side a b m n la ra lb rb =
    let some : pos 0 ≤ℤ (int_max (a +ℤ pos m) (b +ℤ pos n) -ℤ int_min a b) = omega (arith, ints, clamps) in
    let is = nat_of_positive (int_max (a +ℤ pos m) (b +ℤ pos n) -ℤ int_min a b) some in
    (omega (arith, ints, clamps, la, lb), subst (λ z. (int_min a b +ℤ z) ≤ℤ pos 12319) (sym is) (omega (arith, ints, clamps, ra, rb)))

joint_near : (a b : Rect) → IsNear a → IsNear b → IsNear (joint a b)
joint_near a b h k =
    let x = joint_side a.x b.x a.w b.w h.left h.right k.left k.right in
    let y = joint_side a.y b.y a.h b.h h.above h.below k.above k.below in
    record { left = x.0; right = x.1; above = y.0; below = y.1 }

joint_of_near : (cells : List Rect) → AllNear cells → IsNear (joint_of cells)
joint_of_near [] h = record { left = omega (arith, ints); right = omega (arith, ints); above = omega (arith, ints); below = omega (arith, ints) }
joint_of_near (cell ∷ []) h = h.0
joint_of_near (cell ∷ next ∷ cells) h = joint_near cell (joint_of (next ∷ cells)) h.0 (joint_of_near (next ∷ cells) h.1)

offset_bounds : (z : ℤ) → is_offset z ≡ true → (negsuc 63 ≤ℤ z) × (z ≤ℤ pos 64)
offset_bounds z h =
    let e = and_parts (int_le (negsuc 63) z) (int_le z (pos 64)) h in
    let low = e.0 in
    let high = e.1 in
    (omega (arith, ints, low), omega (arith, ints, high))

cell_near : (g : GlyphOf) (x y : ℤ) → IsSoundGlyph g → negsuc 4095 ≤ℤ x → x ≤ℤ pos 12223 → negsuc 4095 ≤ℤ y → y ≤ℤ pos 12223 → IsNear (glyph_cell g x y)
cell_near g x y s lx hx ly hy =
    let ox = offset_bounds g.x s.left in
    let oy = offset_bounds g.y s.above in
    let lox = ox.0 in
    let hox = ox.1 in
    let loy = oy.0 in
    let hoy = oy.1 in
    let wide = s.few_columns in
    let high = s.few_rows in
    record {
      left = omega (arith, ints, lx, lox);
      right = omega (arith, ints, hx, hox, wide);
      above = omega (arith, ints, ly, loy);
      below = omega (arith, ints, hy, hoy, high);
    }

cells_near : (size : Size) (j : List Entry) (st : SurfaceState) (font : ℕ) (run : List (ℕ × ℕ)) (gs : List (Loaded GlyphOf)) (x y : ℤ) → IsSound size j st
    → AreGlyphs st font run gs → AreDeltas run
    → negsuc 4095 ≤ℤ x → (x +ℤ pos (127 * length run)) ≤ℤ pos 12223 → negsuc 4095 ≤ℤ y → y ≤ℤ pos 12223 → AllNear (run_cells (glyphs_in st font) x y run)
cells_near size j st font [] gs x y h are deltas lx hx ly hy = tt
cells_near size j st font (p ∷ ps) [] x y h are deltas lx hx ly hy = absurd are
cells_near size j st font (p ∷ ps) (g ∷ gs) x y h are deltas lx hx ly hy =
    let small = deltas.0 in
    let next : ℤ = x +ℤ pos p.1 in
    let low : negsuc 4095 ≤ℤ (x +ℤ pos p.1) = omega (arith, ints, lx) in
    let most : ((x +ℤ pos p.1) +ℤ pos (127 * length ps)) ≤ℤ pos 12223 = omega (arith, ints, hx, small) in
    let here : (x +ℤ pos p.1) ≤ℤ pos 12223 = omega (arith, ints, most) in
    let rest = cells_near size j st font ps gs (x +ℤ pos p.1) y h are.1 deltas.1 low most ly hy in
    let cell = cell_near g.content (x +ℤ pos p.1) y (h.glyphs (glyph_slot font p.0) g are.0).sound low here ly hy in
    subst (λ (o : Option (Loaded GlyphOf)). AllNear (cell_of (content_of o) (x +ℤ pos p.1) y (run_cells (glyphs_in st font) (x +ℤ pos p.1) y ps))) (sym are.0)
    (cell, rest)

-- the rectangle of a run of at most 64 glyphs from a corner on
pub text_near : (size : Size) (j : List Entry) (st : SurfaceState) (font : ℕ) (run : List (ℕ × ℕ)) (gs : List (Loaded GlyphOf)) (x y : ℤ) → IsSound size j st
    → AreGlyphs st font run gs → AreDeltas run
    → length run ≤ 64 → is_corner x ≡ true → is_corner y ≡ true → IsNear (joint_of (run_cells (glyphs_in st font) x y run))
text_near size j st font run gs x y h are deltas few cx cy =
    let ex = and_parts (int_le (negsuc 4095) x) (int_le x (pos 4095)) cx in
    let ey = and_parts (int_le (negsuc 4095) y) (int_le y (pos 4095)) cy in
    let lx = ex.0 in
    let hx = ex.1 in
    let ly = ey.0 in
    let hy = ey.1 in
    joint_of_near (run_cells (glyphs_in st font) x y run)
    (cells_near size j st font run gs x y h are deltas (omega (arith, ints, lx)) (omega (arith, ints, hx, few)) (omega (arith, ints, ly))
    (omega (arith, ints, hy)))
