-- Texts, one glyph after another.
use Rattle.std.proofs.Common.{◌≡◌, ℕ, ◌+◌, ◌/◌, ◌%◌, List, [], ◌∷◌, Bool, true, false, refl, ap, ◌∙◌, arith}
use Rattle.std.specs.Prelude.{◌&&◌, ◌||◌, ℤ, pos, negsuc, ◌+ℤ◌, ◌-ℤ◌, ◌≤ℤ◌, ◌<ℤ◌, Option, Some, None}
use Rattle.std.specs.Int.{int_min, int_max}
use Rattle.std.proofs.lemmas.Int.{ints, clamps}
use Rattle.std.proofs.lemmas.Bool.{and_from, and_parts}
use Rattle.px_core.specs.declared.surface.Size.{Size}
use Rattle.px_core.specs.declared.rectangle.Rect.{Rect}
use Rattle.px_core.specs.Picture.{Area, nowhere, both, either, nat_of, Formula, painted, painted_from, where_chosen}
use Rattle.px_core.specs.Rectangle.{boxed, within, in_rect, joint}
use Rattle.px_core.proofs.Stretches.{within-low, within-high, within-from}
use Rattle.rop3_core.specs.Palette.{session_colors}
use Rattle.draw_ops.specs.Content.{GlyphOf}
use Rattle.draw_ops.specs.Formulas.{solid, glyph_area, glyph_cell, is_bit_set, run_area, cell_of, run_cells, joint_of, painted_area, picture_after}
use Rattle.draw_ops.specs.Drawing.{writing}

-- ---- the smallest rectangle that has all cells

difference_is : (a b : ℤ) → a ≤ℤ b → pos (nat_of (b -ℤ a)) ≡ b -ℤ a
difference_is a b h = by (b -ℤ a) (omega (arith, ints, h))
  where
    by : (z : ℤ) → pos 0 ≤ℤ z → pos (nat_of z) ≡ z
    by (pos n) h = refl
    by (negsuc n) h = absurd (omega (arith, ints, h))

joint_stretch : (a b : ℤ) (m n : ℕ) (z : ℤ) → int_min a b ≤ℤ z → z <ℤ (int_max (a +ℤ pos m) (b +ℤ pos n)) → within (int_min a b) (nat_of (int_max (a +ℤ pos m) (b +ℤ pos n) -ℤ int_min a b)) z ≡ true
joint_stretch a b m n z low high =
    let e = difference_is (int_min a b) (int_max (a +ℤ pos m) (b +ℤ pos n)) (omega (arith, ints, low, high)) in
    within-from (int_min a b) (nat_of (int_max (a +ℤ pos m) (b +ℤ pos n) -ℤ int_min a b)) z low (omega (arith, ints, e, high))

stretch_left : (a b : ℤ) (m n : ℕ) (z : ℤ) → within a m z ≡ true → within (int_min a b) (nat_of (int_max (a +ℤ pos m) (b +ℤ pos n) -ℤ int_min a b)) z ≡ true
stretch_left a b m n z h = let l = within-low a m z h in let g = within-high a m z h in
    joint_stretch a b m n z (omega (arith, ints, clamps, l)) (omega (arith, ints, clamps, g))

stretch_right : (a b : ℤ) (m n : ℕ) (z : ℤ) → within b n z ≡ true → within (int_min a b) (nat_of (int_max (a +ℤ pos m) (b +ℤ pos n) -ℤ int_min a b)) z ≡ true
stretch_right a b m n z h = let l = within-low b n z h in let g = within-high b n z h in
    joint_stretch a b m n z (omega (arith, ints, clamps, l)) (omega (arith, ints, clamps, g))

in_joint_left : (a b : Rect) (x y : ℤ) → in_rect a x y ≡ true → in_rect (joint a b) x y ≡ true
in_joint_left a b x y h = let p = and_parts (within a.x a.w x) (within a.y a.h y) h in and_from _ _ (stretch_left a.x b.x a.w b.w x p.0) (stretch_left a.y b.y a.h b.h y p.1)

in_joint_right : (a b : Rect) (x y : ℤ) → in_rect b x y ≡ true → in_rect (joint a b) x y ≡ true
in_joint_right a b x y h = let p = and_parts (within b.x b.w x) (within b.y b.h y) h in and_from _ _ (stretch_right a.x b.x a.w b.w x p.0) (stretch_right a.y b.y a.h b.h y p.1)

joint_first : (cell : Rect) (cells : List Rect) (x y : ℤ) → in_rect cell x y ≡ true → in_rect (joint_of (cell ∷ cells)) x y ≡ true
joint_first cell [] x y h = h
joint_first cell (next ∷ cells) x y h = in_joint_left cell (joint_of (next ∷ cells)) x y h

no_pixel : (x y : ℤ) → in_rect (boxed (pos 0) (pos 0) 0 0) x y ≡ true → ⊥
no_pixel x y h = let p = and_parts (within (pos 0) 0 x) (within (pos 0) 0 y) h in let l = within-low (pos 0) 0 x p.0 in let g = within-high (pos 0) 0 x p.0 in omega (arith, ints, l, g)

joint_rest : (cell : Rect) (cells : List Rect) (x y : ℤ) → in_rect (joint_of cells) x y ≡ true → in_rect (joint_of (cell ∷ cells)) x y ≡ true
joint_rest cell [] x y h = absurd (no_pixel x y h)
joint_rest cell (next ∷ cells) x y h = in_joint_right cell (joint_of (next ∷ cells)) x y h

or_cases : {P : Type 0} (b c : Bool) → (b || c) ≡ true → (b ≡ true → P) → (c ≡ true → P) → P
or_cases true c h f g = f refl
or_cases false c h f g = g h

-- every pixel of a run lies in that rectangle
ink_in_joint : (glyphs : ℕ → Option GlyphOf) (x y : ℤ) (run : List (ℕ × ℕ)) (u v : ℤ) → run_area glyphs x y run u v ≡ true → in_rect (joint_of (run_cells glyphs x y run)) u v ≡ true
ink_in_joint glyphs x y [] u v h = absurd (cc h)
ink_in_joint glyphs x y (p ∷ ps) u v h = one (glyphs p.0) (ink_in_joint glyphs (x +ℤ pos p.1) y ps u v) h
  where
    one : (o : Option GlyphOf) → (run_area glyphs (x +ℤ pos p.1) y ps u v ≡ true → in_rect (joint_of (run_cells glyphs (x +ℤ pos p.1) y ps)) u v ≡ true)
        → (glyph_area o (x +ℤ pos p.1) y u v || run_area glyphs (x +ℤ pos p.1) y ps u v) ≡ true
        → in_rect (joint_of (cell_of o (x +ℤ pos p.1) y (run_cells glyphs (x +ℤ pos p.1) y ps))) u v ≡ true
    one None rest h = rest h
    one (Some g) rest h = or_cases (glyph_area (Some g) (x +ℤ pos p.1) y u v) (run_area glyphs (x +ℤ pos p.1) y ps u v) h
        (λ e. joint_first (glyph_cell g (x +ℤ pos p.1) y) (run_cells glyphs (x +ℤ pos p.1) y ps) u v (and_parts (in_rect (glyph_cell g (x +ℤ pos p.1) y) u v) (is_bit_set g.cx g.bits (nat_of (u -ℤ (glyph_cell g (x +ℤ pos p.1) y).x)) (nat_of (v -ℤ (glyph_cell g (x +ℤ pos p.1) y).y))) e).0)
        (λ e. joint_rest (glyph_cell g (x +ℤ pos p.1) y) (run_cells glyphs (x +ℤ pos p.1) y ps) u v (rest e))

-- ---- one area after another, in one colour

same_area : (w i : ℕ) (a b : Area) (f : Formula ℕ) (ps : List ℕ) → ((x y : ℤ) → a x y ≡ b x y) → painted_from w i a f ps ≡ painted_from w i b f ps
same_area w i a b f [] h = refl
same_area w i a b f (p ∷ ps) h = ap (λ t. where_chosen t f (pos (i % w)) (pos (i / w)) p ∷ painted_from w (i + 1) a f ps) (h (pos (i % w)) (pos (i / w)))
    ∙ ap (λ qs. where_chosen (b (pos (i % w)) (pos (i / w))) f (pos (i % w)) (pos (i / w)) p ∷ qs) (same_area w (i + 1) a b f ps h)

twice : (c s t : Bool) (color : ℕ) (x y : ℤ) (o : ℕ) → where_chosen (c && t) (solid session_colors color) x y (where_chosen (c && s) (solid session_colors color) x y o) ≡ where_chosen (c && (s || t)) (solid session_colors color) x y o
twice true true true color x y o = refl
twice true true false color x y o = refl
twice true false t color x y o = refl
twice false s t color x y o = refl

pub painted_either : (w i : ℕ) (c a b : Area) (color : ℕ) (ps : List ℕ)
    → painted_from w i (both c b) (solid session_colors color) (painted_from w i (both c a) (solid session_colors color) ps) ≡ painted_from w i (both c (either a b)) (solid session_colors color) ps
painted_either w i c a b color [] = refl
painted_either w i c a b color (p ∷ ps) = let x = pos (i % w) in let y = pos (i / w) in
    ap (λ q. q ∷ painted_from w (i + 1) (both c b) (solid session_colors color) (painted_from w (i + 1) (both c a) (solid session_colors color) ps)) (twice (c x y) (a x y) (b x y) color x y p)
    ∙ ap (λ qs. where_chosen (c x y && (a x y || b x y)) (solid session_colors color) x y p ∷ qs) (painted_either w (i + 1) c a b color ps)

none_chosen : (c : Bool) (f : Formula ℕ) (x y : ℤ) (o : ℕ) → where_chosen (c && false) f x y o ≡ o
none_chosen true f x y o = refl
none_chosen false f x y o = refl

pub painted_nowhere : (w i : ℕ) (c : Area) (f : Formula ℕ) (ps : List ℕ) → painted_from w i (both c nowhere) f ps ≡ ps
painted_nowhere w i c f [] = refl
painted_nowhere w i c f (p ∷ ps) = ap (λ q. q ∷ painted_from w (i + 1) (both c nowhere) f ps) (none_chosen (c (pos (i % w)) (pos (i / w))) f (pos (i % w)) (pos (i / w)) p)
    ∙ ap (λ qs. p ∷ qs) (painted_nowhere w (i + 1) c f ps)

only_in : (c r a : Bool) → (a ≡ true → r ≡ true) → (c && a) ≡ (c && (r && a))
only_in false r a h = refl
only_in true true a h = refl
only_in true false true h = absurd (cc (h refl))
only_in true false false h = refl

-- a text is its run's glyphs
pub text_is : (size : Size) (clip : Area) (glyphs : ℕ → Option GlyphOf) (x y : ℤ) (color : ℕ) (run : List (ℕ × ℕ)) (ps : List ℕ)
    → painted size (both clip (run_area glyphs x y run)) (solid session_colors color) ps ≡ picture_after size clip (writing glyphs x y color run) ps
text_is size clip glyphs x y color run ps = same_area size.w 0 (both clip (run_area glyphs x y run)) (painted_area clip (writing glyphs x y color run)) (solid session_colors color) ps
    (λ u v. only_in (clip u v) (in_rect (joint_of (run_cells glyphs x y run)) u v) (run_area glyphs x y run u v) (ink_in_joint glyphs x y run u v))

-- one more glyph of the run
pub run_more : (size : Size) (clip : Area) (glyphs : ℕ → Option GlyphOf) (x y : ℤ) (color : ℕ) (p : ℕ × ℕ) (run : List (ℕ × ℕ)) (ps : List ℕ)
    → painted size (both clip (run_area glyphs (x +ℤ pos p.1) y run)) (solid session_colors color) (painted size (both clip (glyph_area (glyphs p.0) (x +ℤ pos p.1) y)) (solid session_colors color) ps)
    ≡ painted size (both clip (run_area glyphs x y (p ∷ run))) (solid session_colors color) ps
run_more size clip glyphs x y color p run ps = painted_either size.w 0 clip (glyph_area (glyphs p.0) (x +ℤ pos p.1) y) (run_area glyphs (x +ℤ pos p.1) y run) color ps
