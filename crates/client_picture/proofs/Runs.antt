-- Texts, one glyph after another.
use Rattle.std.proofs.Common.{◌≡◌, ℕ, ◌+◌, ◌/◌, ◌%◌, ◌≤◌, ◌<◌, List, [], ◌∷◌, length, get_or, drop, Bool, true, false, refl, ap, ◌∙◌, arith}
use Rattle.std.specs.Prelude.{◌&&◌, ◌||◌, nat_lt, ℤ, pos, negsuc, ◌+ℤ◌, ◌-ℤ◌, ◌≤ℤ◌, ◌<ℤ◌, Option, Some, None}
use Rattle.std.specs.Int.{int_min, int_max}
use Rattle.std.proofs.lemmas.Int.{ints, clamps}
use Rattle.std.proofs.lemmas.Bool.{and_from, and_parts}
use Rattle.std.proofs.lemmas.List.{length-drop, drop_more}
use Rattle.px_core.specs.declared.surface.Size.{Size}
use Rattle.px_core.specs.declared.rectangle.Rect.{Rect}
use Rattle.px_core.specs.Picture.{Area, nowhere, both, either, nat_of, Formula, painted, painted_from, where_chosen}
use Rattle.px_core.specs.Rectangle.{boxed, within, in_rect, in_clip, joint}
use Rattle.px_core.proofs.Stretches.{within-low, within-high, within-from}
use Rattle.rop3_core.specs.Palette.{client_colors}
use Rattle.draw_ops.specs.Content.{GlyphOf}
use Rattle.draw_ops.specs.Formulas.{solid, glyph_area, glyph_cell, is_bit_set, run_area, cell_of, run_cells, joint_of, painted_area, picture_after}
use Rattle.order_means.specs.ClientState.{writing, pairs_of, pairs_if, onto_pairs}
use Rattle.client_picture.specs.Bits.{pairs_in}
use Rattle.client_picture.specs.Pictures.{Pictures, painted_within, drawn_within}
use Rattle.client_picture.proofs.Kept.{pictures}

-- ---- the smallest rectangle that has all cells

difference_is : (a b : ℤ) → a ≤ℤ b → pos (nat_of (b -ℤ a)) ≡ b -ℤ a
difference_is a b h = by (b -ℤ a) (omega (arith, ints, h))
  where
    by : (z : ℤ) → pos 0 ≤ℤ z → pos (nat_of z) ≡ z
    by (pos n) h = refl
    by (negsuc n) h = absurd (omega (arith, ints, h))

joint_stretch : (a b : ℤ) (m n : ℕ) (z : ℤ) → int_min a b ≤ℤ z → z <ℤ (int_max (a +ℤ pos m) (b +ℤ pos n)) → within (int_min a b) (nat_of (int_max (a +ℤ pos m) (b +ℤ pos n) -ℤ int_min a b)) z ≡ true
joint_stretch a b m n z low high =
    let e = difference_is (int_min a b) (int_max (a +ℤ pos m) (b +ℤ pos n)) (omega (arith, ints, low, high)) in
    within-from (int_min a b) (nat_of (int_max (a +ℤ pos m) (b +ℤ pos n) -ℤ int_min a b)) z low (omega (arith, ints, e, high))

stretch_left : (a b : ℤ) (m n : ℕ) (z : ℤ) → within a m z ≡ true → within (int_min a b) (nat_of (int_max (a +ℤ pos m) (b +ℤ pos n) -ℤ int_min a b)) z ≡ true
stretch_left a b m n z h = let l = within-low a m z h in let g = within-high a m z h in
    joint_stretch a b m n z (omega (arith, ints, clamps, l)) (omega (arith, ints, clamps, g))

stretch_right : (a b : ℤ) (m n : ℕ) (z : ℤ) → within b n z ≡ true → within (int_min a b) (nat_of (int_max (a +ℤ pos m) (b +ℤ pos n) -ℤ int_min a b)) z ≡ true
stretch_right a b m n z h = let l = within-low b n z h in let g = within-high b n z h in
    joint_stretch a b m n z (omega (arith, ints, clamps, l)) (omega (arith, ints, clamps, g))

in_joint_left : (a b : Rect) (x y : ℤ) → in_rect a x y ≡ true → in_rect (joint a b) x y ≡ true
in_joint_left a b x y h = let p = and_parts (within a.x a.w x) (within a.y a.h y) h in and_from _ _ (stretch_left a.x b.x a.w b.w x p.0) (stretch_left a.y b.y a.h b.h y p.1)

in_joint_right : (a b : Rect) (x y : ℤ) → in_rect b x y ≡ true → in_rect (joint a b) x y ≡ true
in_joint_right a b x y h = let p = and_parts (within b.x b.w x) (within b.y b.h y) h in and_from _ _ (stretch_right a.x b.x a.w b.w x p.0) (stretch_right a.y b.y a.h b.h y p.1)

joint_first : (cell : Rect) (cells : List Rect) (x y : ℤ) → in_rect cell x y ≡ true → in_rect (joint_of (cell ∷ cells)) x y ≡ true
joint_first cell [] x y h = h
joint_first cell (next ∷ cells) x y h = in_joint_left cell (joint_of (next ∷ cells)) x y h

no_pixel : (x y : ℤ) → in_rect (boxed (pos 0) (pos 0) 0 0) x y ≡ true → ⊥
no_pixel x y h = let p = and_parts (within (pos 0) 0 x) (within (pos 0) 0 y) h in let l = within-low (pos 0) 0 x p.0 in let g = within-high (pos 0) 0 x p.0 in omega (arith, ints, l, g)

joint_rest : (cell : Rect) (cells : List Rect) (x y : ℤ) → in_rect (joint_of cells) x y ≡ true → in_rect (joint_of (cell ∷ cells)) x y ≡ true
joint_rest cell [] x y h = absurd (no_pixel x y h)
joint_rest cell (next ∷ cells) x y h = in_joint_right cell (joint_of (next ∷ cells)) x y h

or_cases : {P : Type 0} (b c : Bool) → (b || c) ≡ true → (b ≡ true → P) → (c ≡ true → P) → P
or_cases true c h f g = f refl
or_cases false c h f g = g h

-- every pixel of a run lies in that rectangle
ink_in_joint : (glyphs : ℕ → Option GlyphOf) (x y : ℤ) (run : List (ℕ × ℕ)) (u v : ℤ) → run_area glyphs x y run u v ≡ true → in_rect (joint_of (run_cells glyphs x y run)) u v ≡ true
ink_in_joint glyphs x y [] u v h = absurd (cc h)
ink_in_joint glyphs x y (p ∷ ps) u v h = one (glyphs p.0) (ink_in_joint glyphs (x +ℤ pos p.1) y ps u v) h
  where
    one : (o : Option GlyphOf) → (run_area glyphs (x +ℤ pos p.1) y ps u v ≡ true → in_rect (joint_of (run_cells glyphs (x +ℤ pos p.1) y ps)) u v ≡ true)
        → (glyph_area o (x +ℤ pos p.1) y u v || run_area glyphs (x +ℤ pos p.1) y ps u v) ≡ true
        → in_rect (joint_of (cell_of o (x +ℤ pos p.1) y (run_cells glyphs (x +ℤ pos p.1) y ps))) u v ≡ true
    one None rest h = rest h
    one (Some g) rest h = or_cases (glyph_area (Some g) (x +ℤ pos p.1) y u v) (run_area glyphs (x +ℤ pos p.1) y ps u v) h
        (λ e. joint_first (glyph_cell g (x +ℤ pos p.1) y) (run_cells glyphs (x +ℤ pos p.1) y ps) u v (and_parts (in_rect (glyph_cell g (x +ℤ pos p.1) y) u v) (is_bit_set g.cx g.bits (nat_of (u -ℤ (glyph_cell g (x +ℤ pos p.1) y).x)) (nat_of (v -ℤ (glyph_cell g (x +ℤ pos p.1) y).y))) e).0)
        (λ e. joint_rest (glyph_cell g (x +ℤ pos p.1) y) (run_cells glyphs (x +ℤ pos p.1) y ps) u v (rest e))

-- ---- one area after another, in one colour

same_area : (w i : ℕ) (a b : Area) (f : Formula (Option ℕ)) (ps : List (Option ℕ)) → ((x y : ℤ) → a x y ≡ b x y) → painted_from w i a f ps ≡ painted_from w i b f ps
same_area w i a b f [] h = refl
same_area w i a b f (p ∷ ps) h = ap (λ t. where_chosen t f (pos (i % w)) (pos (i / w)) p ∷ painted_from w (i + 1) a f ps) (h (pos (i % w)) (pos (i / w)))
    ∙ ap (λ qs. where_chosen (b (pos (i % w)) (pos (i / w))) f (pos (i % w)) (pos (i / w)) p ∷ qs) (same_area w (i + 1) a b f ps h)

twice : (c s t : Bool) (color : ℕ) (x y : ℤ) (o : Option ℕ) → where_chosen (c && t) (solid client_colors color) x y (where_chosen (c && s) (solid client_colors color) x y o) ≡ where_chosen (c && (s || t)) (solid client_colors color) x y o
twice true true true color x y o = refl
twice true true false color x y o = refl
twice true false t color x y o = refl
twice false s t color x y o = refl

pub painted_either : (w i : ℕ) (c a b : Area) (color : ℕ) (ps : List (Option ℕ))
    → painted_from w i (both c b) (solid client_colors color) (painted_from w i (both c a) (solid client_colors color) ps) ≡ painted_from w i (both c (either a b)) (solid client_colors color) ps
painted_either w i c a b color [] = refl
painted_either w i c a b color (p ∷ ps) = let x = pos (i % w) in let y = pos (i / w) in
    ap (λ q. q ∷ painted_from w (i + 1) (both c b) (solid client_colors color) (painted_from w (i + 1) (both c a) (solid client_colors color) ps)) (twice (c x y) (a x y) (b x y) color x y p)
    ∙ ap (λ qs. where_chosen (c x y && (a x y || b x y)) (solid client_colors color) x y p ∷ qs) (painted_either w (i + 1) c a b color ps)

none_chosen : (c : Bool) (f : Formula (Option ℕ)) (x y : ℤ) (o : Option ℕ) → where_chosen (c && false) f x y o ≡ o
none_chosen true f x y o = refl
none_chosen false f x y o = refl

pub painted_nowhere : (w i : ℕ) (c : Area) (f : Formula (Option ℕ)) (ps : List (Option ℕ)) → painted_from w i (both c nowhere) f ps ≡ ps
painted_nowhere w i c f [] = refl
painted_nowhere w i c f (p ∷ ps) = ap (λ q. q ∷ painted_from w (i + 1) (both c nowhere) f ps) (none_chosen (c (pos (i % w)) (pos (i / w))) f (pos (i % w)) (pos (i / w)) p)
    ∙ ap (λ qs. p ∷ qs) (painted_nowhere w (i + 1) c f ps)

only_in : (c r a : Bool) → (a ≡ true → r ≡ true) → (c && a) ≡ (c && (r && a))
only_in false r a h = refl
only_in true true a h = refl
only_in true false true h = absurd (cc (h refl))
only_in true false false h = refl

-- a text is its run's glyphs
pub text_is : (size : Size) (clip : Area) (glyphs : ℕ → Option GlyphOf) (x y : ℤ) (color : ℕ) (run : List (ℕ × ℕ)) (ps : List (Option ℕ))
    → painted size (both clip (run_area glyphs x y run)) (solid client_colors color) ps ≡ picture_after size clip (writing glyphs x y color run) ps
text_is size clip glyphs x y color run ps = same_area size.w 0 (both clip (run_area glyphs x y run)) (painted_area clip (writing glyphs x y color run)) (solid client_colors color) ps
    (λ u v. only_in (clip u v) (in_rect (joint_of (run_cells glyphs x y run)) u v) (run_area glyphs x y run u v) (ink_in_joint glyphs x y run u v))

-- one more glyph of the run
pub run_more : (size : Size) (clip : Area) (glyphs : ℕ → Option GlyphOf) (x y : ℤ) (color : ℕ) (p : ℕ × ℕ) (run : List (ℕ × ℕ)) (ps : List (Option ℕ))
    → painted size (both clip (run_area glyphs (x +ℤ pos p.1) y run)) (solid client_colors color) (painted size (both clip (glyph_area (glyphs p.0) (x +ℤ pos p.1) y)) (solid client_colors color) ps)
    ≡ painted size (both clip (run_area glyphs x y (p ∷ run))) (solid client_colors color) ps
run_more size clip glyphs x y color p run ps = painted_either size.w 0 clip (glyph_area (glyphs p.0) (x +ℤ pos p.1) y) (run_area glyphs (x +ℤ pos p.1) y run) color ps

-- ---- the same of a client's pictures

pub drawn_nowhere : (clip : Option Rect) (color : ℕ) (s : Pictures) → drawn_within clip nowhere color s ≡ s
drawn_nowhere clip color s = ap (λ (ps : List (Option ℕ)). pictures s.depth s.size ps s.marked) (painted_nowhere s.size.w 0 (in_clip clip) (solid client_colors color) s.picture)

pub drawn_more : (clip : Option Rect) (glyphs : ℕ → Option GlyphOf) (x y : ℤ) (color : ℕ) (p : ℕ × ℕ) (run : List (ℕ × ℕ)) (s : Pictures)
    → drawn_within clip (run_area glyphs (x +ℤ pos p.1) y run) color (drawn_within clip (glyph_area (glyphs p.0) (x +ℤ pos p.1) y) color s) ≡ drawn_within clip (run_area glyphs x y (p ∷ run)) color s
drawn_more clip glyphs x y color p run s = ap (λ (ps : List (Option ℕ)). pictures s.depth s.size ps s.marked) (run_more s.size (in_clip clip) glyphs x y color p run s.picture)

pub written_is : (clip : Option Rect) (glyphs : ℕ → Option GlyphOf) (x y : ℤ) (color : ℕ) (run : List (ℕ × ℕ)) (s : Pictures)
    → drawn_within clip (run_area glyphs x y run) color s ≡ painted_within clip (writing glyphs x y color run) s
written_is clip glyphs x y color run s = ap (λ (ps : List (Option ℕ)). pictures s.depth s.size ps s.marked) (text_is s.size (in_clip clip) glyphs x y color run s.picture)

-- ---- pairs of bytes

abbrev pairs_or_none : Option (List (ℕ × ℕ)) → List (ℕ × ℕ)
pairs_or_none None = []
pairs_or_none (Some ps) = ps

one_pair : (t : Bool) (o : Option (List (ℕ × ℕ))) (i d : ℕ) (rest ps : List (ℕ × ℕ)) → ((qs : List (ℕ × ℕ)) → o ≡ Some qs → rest ≡ qs) → pairs_if t (onto_pairs i d o) ≡ Some ps → (i, d) ∷ rest ≡ ps
one_pair true (Some qs) i d rest ps same h = ap (λ r. (i, d) ∷ r) (same qs refl) ∙ ap pairs_or_none h
one_pair true None i d rest ps same h = absurd (cc h)
one_pair false o i d rest ps same h = absurd (cc h)

pub pairs_are : (run : List ℕ) (ps : List (ℕ × ℕ)) → pairs_of run ≡ Some ps → pairs_in run ≡ ps
pairs_are [] ps h = ap pairs_or_none h
pairs_are (i ∷ []) ps h = absurd (cc h)
pairs_are (i ∷ d ∷ bytes) ps h = one_pair (nat_lt i 254 && nat_lt d 128) (pairs_of bytes) i d (pairs_in bytes) ps (pairs_are bytes) h

few_pairs : (xs : List ℕ) → length xs ≤ 1 → pairs_in xs ≡ []
few_pairs [] h = refl
few_pairs (i ∷ []) h = refl
few_pairs (i ∷ d ∷ xs) h = absurd (omega (arith, h))

pub pairs_end : (run : List ℕ) (n : ℕ) → length run ≤ n + 1 → pairs_in (drop n run) ≡ []
pairs_end run n h = few_pairs (drop n run) (omega (arith, h, length-drop n run))

pub pairs_next : (run : List ℕ) (n : ℕ) → n + 1 < length run → pairs_in (drop n run) ≡ (get_or run n 0, get_or run (n + 1) 0) ∷ pairs_in (drop (n + 1 + 1) run)
pairs_next run n h = ap pairs_in (drop_more run n 0 (omega (arith, h)) ∙ ap (λ xs. get_or run n 0 ∷ xs) (drop_more run (n + 1) 0 h))
