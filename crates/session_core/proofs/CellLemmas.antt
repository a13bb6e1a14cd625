-- Cells of glyphs, and the rectangle that has the pixels of two.
use Rattle.std.proofs.Common.{◌≡◌, ℕ, zero, suc, ◌+◌, ◌-◌, drop, ◌*◌, ◌/◌, ◌≤◌, ◌<◌, Bool, true, false, List, [], ◌∷◌, length, refl, ap, sym, ◌∙◌, None, arith}
use Rattle.std.specs.Prelude.{◌&&◌, not, slice_index_or, nat_le, ◌==◌, ℤ, pos, negsuc, ◌≤ℤ◌, ◌+ℤ◌, ◌-ℤ◌, int_le, nat_abs}
use Rattle.std.specs.Int.{int_min, int_max}
use Rattle.std.proofs.lemmas.Int.{ints, clamps}
use Rattle.std.proofs.lemmas.Bool.{and_parts}
use Rattle.std.proofs.lemmas.Bool.Decides.{nat_tests}
use Rattle.px_core.specs.Picture.{nat_of}
use Rattle.px_core.specs.declared.rectangle.Rect.{Rect}
use Rattle.px_core.specs.Rectangle.{boxed, joint}
use Rattle.draw_ops.specs.Content.{GlyphOf}
use Rattle.draw_ops.specs.Slots.{Loaded}
use Rattle.draw_ops.specs.Formulas.{glyph_cell, joint_of}
use Rattle.draw_ops.specs.Fits.{broken_if, is_offset, glyph_rule}
use Rattle.session_core.specs.Cells.{cells_along, ArePlain, IsPen, IsStretch}

kept_if : (t : Bool) (n : ℕ) → broken_if (not t) n ≡ None → t ≡ true
kept_if true n h = refl
kept_if false n h = absurd (cc h)

int_is : (a b : ℤ) → int_le a b ≡ true → a ≤ℤ b
int_is a b h = omega (arith, ints, h)

nat_is : (a b : ℕ) → nat_le a b ≡ true → a ≤ b
nat_is a b h = grind (arith, nat_tests, h)

-- a glyph that keeps its rule
pub record IsLoadableGlyph (glyph : GlyphOf) : Type 0 where
  pub wide : glyph.cx ≤ 32
  pub high : glyph.cy ≤ 32
  pub left : negsuc 63 ≤ℤ glyph.x
  pub right : glyph.x ≤ℤ pos 64
  pub above : negsuc 63 ≤ℤ glyph.y
  pub below : glyph.y ≤ℤ pos 64
  pub whole : length glyph.bits ≡ (glyph.cx + 7) / 8 * glyph.cy

pub glyph_keeps : (glyph : GlyphOf) → glyph_rule glyph ≡ None → IsLoadableGlyph glyph
glyph_keeps glyph h =
    let sides = nat_le 1 glyph.cx && nat_le glyph.cx 32 in
    let rows = nat_le 1 glyph.cy && nat_le glyph.cy 32 in
    let near = is_offset glyph.x && is_offset glyph.y in
    let whole = length glyph.bits == (glyph.cx + 7) / 8 * glyph.cy in
    let p = and_parts sides (rows && (near && whole)) (kept_if (sides && (rows && (near && whole))) 6 h) in
    let q = and_parts rows (near && whole) p.1 in
    let r = and_parts near whole q.1 in
    let o = and_parts (is_offset glyph.x) (is_offset glyph.y) r.0 in
    let a = and_parts (int_le (negsuc 63) glyph.x) (int_le glyph.x (pos 64)) o.0 in
    let b = and_parts (int_le (negsuc 63) glyph.y) (int_le glyph.y (pos 64)) o.1 in
    record {
      wide = nat_is _ _ (and_parts (nat_le 1 glyph.cx) (nat_le glyph.cx 32) p.0).1;
      high = nat_is _ _ (and_parts (nat_le 1 glyph.cy) (nat_le glyph.cy 32) q.0).1;
      left = int_is _ _ a.0;
      right = int_is _ _ a.1;
      above = int_is _ _ b.0;
      below = int_is _ _ b.1;
      whole = grind (arith, nat_tests, r.1);
    }

pub same_rect : (x u y v : ℤ) (w m h n : ℕ) → x ≡ u → y ≡ v → w ≡ m → h ≡ n → boxed x y w h ≡ boxed u v m n
same_rect x u y v w m h n ex ey ew eh = ap (λ z. boxed z y w h) ex ∙ ap (λ z. boxed u z w h) ey ∙ ap (λ k. boxed u v k h) ew ∙ ap (λ k. boxed u v m k) eh

abs_of : (z : ℤ) → pos 0 ≤ℤ z → nat_abs z ≡ nat_of z
abs_of (pos n) h = refl
abs_of (negsuc n) h = absurd (omega (arith, ints, h))

back : (z : ℤ) → pos 0 ≤ℤ z → pos (nat_of z) ≡ z
back (pos n) h = refl
back (negsuc n) h = absurd (omega (arith, ints, h))

ordered : (a b : ℤ) (m n : ℕ) → pos 0 ≤ℤ (int_max (a +ℤ pos m) (b +ℤ pos n) -ℤ int_min a b)
ordered a b m n =
    let low : int_min a b ≤ℤ a = grind (arith, ints, clamps) in
    let high : (a +ℤ pos m) ≤ℤ int_max (a +ℤ pos m) (b +ℤ pos n) = grind (arith, ints, clamps) in
    omega (arith, ints, low, high)

-- how long the joint of two stretches is
pub length_is : (a b : ℤ) (m n : ℕ) → nat_abs (int_max (a +ℤ pos m) (b +ℤ pos n) -ℤ int_min a b) ≡ nat_of (int_max (a +ℤ pos m) (b +ℤ pos n) -ℤ int_min a b)
length_is a b m n = abs_of _ (ordered a b m n)

least : (a b : ℤ) → negsuc 4999 ≤ℤ a → negsuc 4999 ≤ℤ b → negsuc 4999 ≤ℤ int_min a b
least a b h g = grind (arith, ints, clamps, h, g)

greatest : (a b : ℤ) → a ≤ℤ pos 30000 → b ≤ℤ pos 30000 → int_max a b ≤ℤ pos 30000
greatest a b h g = grind (arith, ints, clamps, h, g)

-- a joint of two stretches is one
pub joint_stretch : (a b : ℤ) (m n : ℕ) → IsStretch a m → IsStretch b n → IsStretch (int_min a b) (nat_of (int_max (a +ℤ pos m) (b +ℤ pos n) -ℤ int_min a b))
joint_stretch a b m n h g =
    let e = back (int_max (a +ℤ pos m) (b +ℤ pos n) -ℤ int_min a b) (ordered a b m n) in
    record {
      low = least a b h.low g.low;
      high = let top : int_max (a +ℤ pos m) (b +ℤ pos n) ≤ℤ pos 30000 = greatest (a +ℤ pos m) (b +ℤ pos n) h.high g.high in omega (arith, ints, e, top);
    }

-- ---- the cells from a place on

pub plain_at : (gs : List (Loaded GlyphOf)) (i : ℕ) (g : Loaded GlyphOf) → ArePlain gs → i < length gs → g ≡ slice_index_or gs i g → glyph_rule g.content ≡ None
plain_at [] i g h below is = absurd (omega (arith, below))
plain_at (x ∷ xs) zero g h below is = rw is h.0
plain_at (x ∷ xs) (suc i) g h below is = plain_at xs i g h.1 (omega (arith, below)) is

cells_at : (gs : List (Loaded GlyphOf)) (ps : List (ℕ × ℕ)) (i : ℕ) (x y : ℤ) (g : Loaded GlyphOf) → i < length gs → i < length ps → g ≡ slice_index_or gs i g
    → cells_along (drop i gs) (drop i ps) x y
    ≡ glyph_cell g.content (x +ℤ pos (slice_index_or ps i (0, 0)).1) y ∷ cells_along (drop (suc i) gs) (drop (suc i) ps) (x +ℤ pos (slice_index_or ps i (0, 0)).1) y
cells_at [] ps i x y g below within is = absurd (omega (arith, below))
cells_at (a ∷ gs) [] i x y g below within is = absurd (omega (arith, within))
cells_at (a ∷ gs) (p ∷ ps) zero x y g below within is = ap (λ (h : Loaded GlyphOf). glyph_cell h.content (x +ℤ pos p.1) y ∷ cells_along gs ps (x +ℤ pos p.1) y) (sym is)
cells_at (a ∷ gs) (p ∷ ps) (suc i) x y g below within is = cells_at gs ps i x y g (omega (arith, below)) (omega (arith, within)) is

none_left : (gs : List (Loaded GlyphOf)) (n : ℕ) (ps : List (ℕ × ℕ)) (x y : ℤ) → length gs ≤ n → cells_along (drop n gs) ps x y ≡ []
none_left [] zero ps x y h = refl
none_left [] (suc n) ps x y h = refl
none_left (g ∷ gs) zero ps x y h = absurd (omega (arith, h))
none_left (g ∷ gs) (suc n) ps x y h = none_left gs n ps x y (omega (arith, h))

-- the last cell
pub one_cell : (gs : List (Loaded GlyphOf)) (ps : List (ℕ × ℕ)) (i : ℕ) (x y pen : ℤ) (g : Loaded GlyphOf) (r : Rect) → length gs ≡ length ps → i + 1 ≡ length ps → g ≡ slice_index_or gs i g
    → pen ≡ x +ℤ pos (slice_index_or ps i (0, 0)).1 → r ≡ glyph_cell g.content pen y → r ≡ joint_of (cells_along (drop i gs) (drop i ps) x y)
one_cell gs ps i x y pen g r each last is moves cell =
    cell ∙ ap (λ z. glyph_cell g.content z y) moves
    ∙ sym (ap joint_of (cells_at gs ps i x y g (omega (arith, each, last)) (omega (arith, last)) is
    ∙ ap (λ cells. glyph_cell g.content (x +ℤ pos (slice_index_or ps i (0, 0)).1) y ∷ cells) (none_left gs (suc i) _ _ y (omega (arith, each, last)))))

joint_more : (c : Rect) (d : Rect) (cells : List Rect) → joint_of (c ∷ d ∷ cells) ≡ joint c (joint_of (d ∷ cells))
joint_more c d cells = refl

-- a cell before others
pub more_cells : (gs : List (Loaded GlyphOf)) (ps : List (ℕ × ℕ)) (i : ℕ) (x y pen : ℤ) (g : Loaded GlyphOf) (first rest r : Rect) → length gs ≡ length ps → suc i < length ps → g ≡ slice_index_or gs i g
    → pen ≡ x +ℤ pos (slice_index_or ps i (0, 0)).1 → first ≡ glyph_cell g.content pen y → rest ≡ joint_of (cells_along (drop (i + 1) gs) (drop (i + 1) ps) pen y) → r ≡ joint first rest
    → r ≡ joint_of (cells_along (drop i gs) (drop i ps) x y)
more_cells gs ps i x y pen g first rest r each left is moves cell others joins =
    let next : i + 1 ≡ suc i = omega arith in
    let here = cells_at gs ps i x y g (omega (arith, each, left)) (omega (arith, left)) is in
    let then_ = cells_at gs ps (suc i) (x +ℤ pos (slice_index_or ps i (0, 0)).1) y (slice_index_or gs (suc i) g) (omega (arith, each, left)) left (found gs (suc i) g (omega (arith, each, left))) in
    let other_cells : rest ≡ joint_of (cells_along (drop (suc i) gs) (drop (suc i) ps) (x +ℤ pos (slice_index_or ps i (0, 0)).1) y) =
    others ∙ ap (λ k. joint_of (cells_along (drop k gs) (drop k ps) pen y)) next ∙ ap (λ z. joint_of (cells_along (drop (suc i) gs) (drop (suc i) ps) z y)) moves in
    joins ∙ ap (λ z. joint z rest) (cell ∙ ap (λ z. glyph_cell g.content z y) moves) ∙ ap (joint (glyph_cell g.content (x +ℤ pos (slice_index_or ps i (0, 0)).1) y)) (other_cells ∙ ap joint_of then_)
    ∙ sym (ap joint_of here ∙ ap (λ cells. joint_of (glyph_cell g.content (x +ℤ pos (slice_index_or ps i (0, 0)).1) y ∷ cells)) then_)
  where
    found : (xs : List (Loaded GlyphOf)) (k : ℕ) (d : Loaded GlyphOf) → k < length xs → slice_index_or xs k d ≡ slice_index_or xs k (slice_index_or xs k d)
    found [] k d h = absurd (omega (arith, h))
    found (z ∷ zs) zero d h = refl
    found (z ∷ zs) (suc k) d h = found zs k d (omega (arith, h))

-- a pen that has moved
pub pen_moved : (x y pen : ℤ) (n i delta : ℕ) → IsPen x y (n - i) → i < n → delta ≤ 255 → pen ≡ x +ℤ pos delta → IsPen pen y (n - (i + 1))
pen_moved x y pen n i delta h below small moves =
    let count : n - i ≡ n - (i + 1) + 1 = omega (arith, below) in
    let more : 255 * (n - i) ≡ 255 * (n - (i + 1)) + 255 = omega (arith, count) in
    record { left = grind (arith, ints, h.left, moves); right = grind (arith, ints, h.right, more, small, moves); row = h.row }

-- the distance of two numbers that are these
pub distance_is : (a b e l : ℤ) (m n d : ℕ) → d ≡ nat_abs (e -ℤ l) → e ≡ int_max (a +ℤ pos m) (b +ℤ pos n) → l ≡ int_min a b → d ≡ nat_of (int_max (a +ℤ pos m) (b +ℤ pos n) -ℤ int_min a b)
distance_is a b e l m n d is end low = is ∙ ap (λ z. nat_abs (z -ℤ l)) end ∙ ap (λ z. nat_abs (int_max (a +ℤ pos m) (b +ℤ pos n) -ℤ z)) low ∙ length_is a b m n

pub reached_stretch : (a b x : ℤ) (m n d : ℕ) → IsStretch a m → IsStretch b n → x ≡ int_min a b → d ≡ nat_of (int_max (a +ℤ pos m) (b +ℤ pos n) -ℤ int_min a b) → IsStretch x d
reached_stretch a b x m n d h g is length = rw (is, length) (joint_stretch a b m n h g)
