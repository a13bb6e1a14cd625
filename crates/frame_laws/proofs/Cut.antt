-- A drawing that is cut to its area draws what it drew before; one whose area has no pixel, or whose code changes nothing, draws nothing.
use Rattle.std.proofs.Common.{◌≡◌, ℕ, zero, suc, ◌+◌, ◌*◌, ◌/◌, ◌%◌, ◌^◌, ◌≤◌, ◌<◌, List, [], ◌∷◌, refl, ap, sym, ◌∙◌, arith, Some, None, length, subst}
use Rattle.std.specs.Prelude.{Bool, true, false, ◌&&◌, Option, ℤ, pos, negsuc, ◌+ℤ◌, ◌-ℤ◌, ◌≤ℤ◌, ◌<ℤ◌, int_le, int_lt}
use Rattle.std.specs.Int.{int_min, int_max}
use Rattle.std.proofs.lemmas.Int.{ints, clamps}
use Rattle.std.proofs.lemmas.Bool.{and_from, and_parts}
use Rattle.px_core.specs.declared.surface.Size.{Size}
use Rattle.px_core.specs.declared.rectangle.Rect.{Rect}
use Rattle.px_core.specs.Picture.{pixel_count, nat_of, item, rows_of, pixel_in, Area, everywhere, Formula, where_chosen, painted_from}
use Rattle.px_core.specs.Rectangle.{boxed, within, in_rect, in_clip, has_pixel, whole, common, clipped}
use Rattle.rop3_core.specs.Rop3.{ternary_raster, raster_bit}
use Rattle.rop3_core.proofs.WholeWords.{masked_is_raster, each_bit}
use Rattle.std.specs.Int.{bit_at}
use Rattle.std.proofs.lemmas.Nat.{and_mask}
use Rattle.std.proofs.lemmas.Nat.Bits.{bit_at-lt}
use Rattle.draw_ops.specs.declared.shape.Drawing.{Drawing}
use Rattle.draw_ops.specs.declared.shape.Shape.{Shape}
use Rattle.draw_ops.specs.declared.shape.Shape.TheVariants.{Fill, Dst, Pat, Copy, Blit, Blit3}
use Rattle.draw_ops.specs.Formulas.{Painting, painted_area, picture_after, over_rect, shifted, imaged, image_rows}
use Rattle.frame_rules.specs.Cautious.{moved}
use Rattle.frame_rules.proofs.TileLaws.{within-low, within-high, int_le_from, int_lt_from, in_rect-common, in_rect-clipped, in_rect-whole, column_below, row_below}

-- ---- equal paintings

bool_same : (a b : Bool) → (a ≡ true → b ≡ true) → (b ≡ true → a ≡ true) → a ≡ b
bool_same true b f g = sym (f refl)
bool_same false true f g = g refl
bool_same false false f g = refl

-- a painting that does the same at each place makes the same picture
painted_from-same : (w i : ℕ) (a b : Area) (f g : Formula ℕ) (ps : List ℕ)
    → ((k d : ℕ) → k < length ps → where_chosen (a (pos ((i + k) % w)) (pos ((i + k) / w))) f (pos ((i + k) % w)) (pos ((i + k) / w)) d
    ≡ where_chosen (b (pos ((i + k) % w)) (pos ((i + k) / w))) g (pos ((i + k) % w)) (pos ((i + k) / w)) d)
    → painted_from w i a f ps ≡ painted_from w i b g ps
painted_from-same w i a b f g [] same = refl
painted_from-same w i a b f g (p ∷ ps) same =
    ap (λ q. q ∷ painted_from w (i + 1) a f ps) (here (i + 0) (omega arith) (same 0 p (omega arith)))
    ∙ ap (λ qs. where_chosen (b (pos (i % w)) (pos (i / w))) g (pos (i % w)) (pos (i / w)) p ∷ qs)
    (painted_from-same w (i + 1) a b f g ps (λ k d h. there k d ((i + 1) + k) (i + suc k) (omega arith) (same (suc k) d (omega (arith, h)))))
  where
    Same : ℕ → ℕ → Type 0
    Same j d = where_chosen (a (pos (j % w)) (pos (j / w))) f (pos (j % w)) (pos (j / w)) d
        ≡ where_chosen (b (pos (j % w)) (pos (j / w))) g (pos (j % w)) (pos (j / w)) d

    here : (j : ℕ) → j ≡ i → Same j p → Same i p
    here j e h = subst (λ n. Same n p) e h

    there : (k d j m : ℕ) → j ≡ m → Same m d → Same j d
    there k d j m e h = subst (λ n. Same n d) (sym e) h

-- ---- the pixels of an area

below_nat_of : (low high z : ℤ) → low ≤ℤ z → z <ℤ (low +ℤ pos (nat_of (high -ℤ low))) → z <ℤ high
below_nat_of low high z l h = by (high -ℤ low) refl
  where
    by : (k : ℤ) → (high -ℤ low) ≡ k → z <ℤ high
    by (pos n) e = let m = ap nat_of e in omega (arith, ints, (rw m at h), l, e)
    by (negsuc n) e = let m = ap nat_of e in absurd (omega (arith, ints, (rw m at h), l))

common-within : (a b : ℤ) (m n : ℕ) (z : ℤ) → within (int_max a b) (nat_of (int_min (a +ℤ pos m) (b +ℤ pos n) -ℤ int_max a b)) z ≡ true
    → (within a m z ≡ true) × (within b n z ≡ true)
common-within a b m n z h =
    let low = within-low (int_max a b) (nat_of (int_min (a +ℤ pos m) (b +ℤ pos n) -ℤ int_max a b)) z h in
    let high = below_nat_of (int_max a b) (int_min (a +ℤ pos m) (b +ℤ pos n)) z low
    (within-high (int_max a b) (nat_of (int_min (a +ℤ pos m) (b +ℤ pos n) -ℤ int_max a b)) z h) in (
      and_from _ _ (int_le_from a z (omega (arith, ints, clamps, low))) (int_lt_from z (a +ℤ pos m) (omega (arith, ints, clamps, high))),
      and_from _ _ (int_le_from b z (omega (arith, ints, clamps, low))) (int_lt_from z (b +ℤ pos n) (omega (arith, ints, clamps, high))),
    )

pub common-in_rect : (a b : Rect) (x y : ℤ) → in_rect (common a b) x y ≡ true → (in_rect a x y ≡ true) × (in_rect b x y ≡ true)
common-in_rect a b x y h =
    let k = and_parts (within (common a b).x (common a b).w x) (within (common a b).y (common a b).h y) h in
    let u = common-within a.x b.x a.w b.w x k.0 in
    let v = common-within a.y b.y a.h b.h y k.1 in
    (and_from _ _ u.0 v.0, and_from _ _ u.1 v.1)

pub clipped-in_rect : (r : Rect) (clip : Option Rect) (x y : ℤ) → in_rect (clipped r clip) x y ≡ true → (in_clip clip x y ≡ true) × (in_rect r x y ≡ true)
clipped-in_rect r None x y h = (refl, h)
clipped-in_rect r (Some c) x y h = let k = common-in_rect r c x y h in (k.1, k.0)

-- the area of a drawing has the pixels that it paints
pub area_pixels : (size : Size) (r : Rect) (clip : Option Rect) (x y : ℕ) → x < size.w → y < size.h
    → (true && (in_rect (common (whole size) (clipped r clip)) (pos x) (pos y) && true)) ≡ (in_clip clip (pos x) (pos y) && (in_rect r (pos x) (pos y) && true))
area_pixels size r clip x y hx hy = bool_same _ _ there back
  where
    there : (true && (in_rect (common (whole size) (clipped r clip)) (pos x) (pos y) && true)) ≡ true
        → (in_clip clip (pos x) (pos y) && (in_rect r (pos x) (pos y) && true)) ≡ true
    there e = let k = clipped-in_rect r clip (pos x) (pos y)
        (common-in_rect (whole size) (clipped r clip) (pos x) (pos y)
        (and_parts (in_rect (common (whole size) (clipped r clip)) (pos x) (pos y)) true e).0).1 in
        and_from _ _ k.0 (and_from _ _ k.1 refl)

    back : (in_clip clip (pos x) (pos y) && (in_rect r (pos x) (pos y) && true)) ≡ true
        → (true && (in_rect (common (whole size) (clipped r clip)) (pos x) (pos y) && true)) ≡ true
    back e =
        let k = and_parts (in_clip clip (pos x) (pos y)) (in_rect r (pos x) (pos y) && true) e in
        let m = and_parts (in_rect r (pos x) (pos y)) true k.1 in
        and_from _ _ (in_rect-common (whole size) (clipped r clip) (pos x) (pos y) (in_rect-whole size x y hx hy)
        (in_rect-clipped r clip (pos x) (pos y) m.0 k.0)) refl

-- ---- the picture

-- over its area, without a clip, a formula makes the same picture as over its rectangle in its clip
pub cut_picture : (size : Size) (old : List ℕ) (r : Rect) (clip : Option Rect) (f g : Formula ℕ) → length old ≡ pixel_count size
    → ((x y : ℤ) (d : ℕ) → g x y d ≡ f x y d)
    → picture_after size (in_clip None) (over_rect (common (whole size) (clipped r clip)) g) old ≡ picture_after size (in_clip clip) (over_rect r f) old
cut_picture size old r clip f g sized same = painted_from-same size.w 0 _ _ g f old (λ k d h. at (0 + k) k (omega arith) d (rw sized at h))
  where
    chosen : (s t : Bool) (x y : ℤ) (d : ℕ) → s ≡ t → where_chosen s g x y d ≡ where_chosen t f x y d
    chosen s true x y d e = ap (λ b. where_chosen b g x y d) e ∙ same x y d
    chosen s false x y d e = ap (λ b. where_chosen b g x y d) e

    Same : ℕ → ℕ → Type 0
    Same d j = where_chosen (painted_area (in_clip None) (over_rect (common (whole size) (clipped r clip)) g) (pos (j % size.w)) (pos (j / size.w))) g
        (pos (j % size.w)) (pos (j / size.w)) d
        ≡ where_chosen (painted_area (in_clip clip) (over_rect r f) (pos (j % size.w)) (pos (j / size.w))) f (pos (j % size.w)) (pos (j / size.w)) d

    at : (j k : ℕ) → j ≡ k → (d : ℕ) → k < pixel_count size → Same d j
    at j k e d h = subst (Same d) (sym e) (chosen _ _ (pos (k % size.w)) (pos (k / size.w)) d
        (area_pixels size r clip (k % size.w) (k / size.w) (column_below size k h) (row_below size k h)))

-- a source that moved along with its rectangle's corner has the same pixel for each pixel
pub shifted_moved : {A : Type 0} (rows : List (List A)) (other : A) (r a : Rect) (sx sy x y : ℤ)
    → shifted rows other a (moved r.x a.x sx) (moved r.y a.y sy) x y ≡ shifted rows other r sx sy x y
shifted_moved rows other r a sx sy x y =
    ap (λ u. pixel_in rows other u ((y -ℤ a.y) +ℤ (sy +ℤ (a.y -ℤ r.y)))) (back r.x a.x sx x)
    ∙ ap (λ v. pixel_in rows other ((x -ℤ r.x) +ℤ sx) v) (back r.y a.y sy y)
  where
    back : (from to s z : ℤ) → ((z -ℤ to) +ℤ (s +ℤ (to -ℤ from))) ≡ ((z -ℤ from) +ℤ s)
    back from to s z = omega (arith, ints)

-- ---- what draws nothing

-- a picture stays where each painted pixel does
pub painting-nothing : (w i : ℕ) (a : Area) (f : Formula ℕ) (ps : List ℕ)
    → ((k : ℕ) → k < length ps → where_chosen (a (pos ((i + k) % w)) (pos ((i + k) / w))) f (pos ((i + k) % w)) (pos ((i + k) / w)) (item ps k 0) ≡ item ps k 0)
    → painted_from w i a f ps ≡ ps
painting-nothing w i a f [] stays = refl
painting-nothing w i a f (p ∷ ps) stays =
    ap (λ q. q ∷ painted_from w (i + 1) a f ps) (here (i + 0) (omega arith) (stays 0 (omega arith)))
    ∙ ap (λ qs. p ∷ qs) (painting-nothing w (i + 1) a f ps (λ k h. there k ((i + 1) + k) (i + suc k) (omega arith) (stays (suc k) (omega (arith, h)))))
  where
    Stays : ℕ → ℕ → Type 0
    Stays d j = where_chosen (a (pos (j % w)) (pos (j / w))) f (pos (j % w)) (pos (j / w)) d ≡ d

    here : (j : ℕ) → j ≡ i → Stays p j → Stays p i
    here j e h = subst (Stays p) e h

    there : (k j m : ℕ) → j ≡ m → Stays (item ps k 0) m → Stays (item ps k 0) j
    there k j m e h = subst (Stays (item ps k 0)) (sym e) h

abbrev eight : (P : ℕ → ℕ → ℕ → Type 0) → P 0 0 0 → P 0 0 1 → P 0 1 0 → P 0 1 1 → P 1 0 0 → P 1 0 1 → P 1 1 0 → P 1 1 1
    → (p s d : ℕ) → p < 2 → s < 2 → d < 2 → P p s d
eight P a b c e f g h k p s d ps ss ds = each_bit (λ p. P p s d)
    (each_bit (λ s. P 0 s d) (each_bit (P 0 0) a b d ds) (each_bit (P 0 1) c e d ds) s ss)
    (each_bit (λ s. P 1 s d) (each_bit (P 1 0) f g d ds) (each_bit (P 1 1) h k d ds) s ss) p ps

-- the code AA keeps a colour
pub kept_color : (p s d : ℕ) → d < 2 ^ 24 → ternary_raster 0xAA p s d ≡ d
kept_color p s d h = sym (masked_is_raster 0xAA p s d d (λ i. eight (λ p s d. d ≡ raster_bit 0xAA p s d) refl refl refl refl refl refl refl refl
    (bit_at p i) (bit_at s i) (bit_at d i) (bit_at-lt p i) (bit_at-lt s i) (bit_at-lt d i))) ∙ and_mask d 24 ∙ omega (arith, h)
