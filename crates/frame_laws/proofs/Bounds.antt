-- An order's bounds pick the pixels that its drawing's clip picks.
use Rattle.std.proofs.Common.{◌≡◌, ℕ, refl, ap, sym, ◌∙◌, arith, Some, None}
use Rattle.std.specs.Prelude.{Bool, true, false, ◌&&◌, Option, ℤ, pos, ◌+ℤ◌, ◌-ℤ◌, int_le, int_lt}
use Rattle.std.proofs.lemmas.Int.{ints}
use Rattle.std.proofs.lemmas.Bool.{and_from, and_parts}
use Rattle.px_core.specs.declared.rectangle.Rect.{Rect}
use Rattle.px_core.specs.Rectangle.{within, in_rect, in_clip}
use Rattle.draw_ops.specs.Formulas.{Painting, painted_area}
use Rattle.order_fields.specs.OrderDelta.{edges_of, edges_of_optional}
use Rattle.order_means.specs.ClientState.{in_edges, in_bounds}
use Rattle.frame_rules.specs.FrameOrders.{is_within, bounds_if, bounds_of}
use Rattle.frame_rules.proofs.TileLaws.{true_is_not_false, int_le_from, int_lt_from, within-low, within-high}

-- a side with both its ends
last_or_before : (from : ℤ) (n : ℕ) (z : ℤ) → int_le z ((from +ℤ pos n) -ℤ pos 1) ≡ int_lt z (from +ℤ pos n)
last_or_before from n z = by (int_lt z (from +ℤ pos n)) refl
  where
    by : (b : Bool) → int_lt z (from +ℤ pos n) ≡ b → int_le z ((from +ℤ pos n) -ℤ pos 1) ≡ b
    by true e = int_le_from z ((from +ℤ pos n) -ℤ pos 1) (omega (arith, ints, e))
    by false e = below (int_le z ((from +ℤ pos n) -ℤ pos 1)) refl
      where
        below : (b : Bool) → int_le z ((from +ℤ pos n) -ℤ pos 1) ≡ b → b ≡ false
        below true f = absurd (true_is_not_false (sym (int_lt_from z (from +ℤ pos n) (omega (arith, ints, f))) ∙ e))
        below false f = refl

in_edges-rect : (r : Rect) (x y : ℤ) → in_edges (edges_of r) x y ≡ in_rect r x y
in_edges-rect r x y = ap (λ b. (int_le r.x x && b) && (int_le r.y y && int_le y ((r.y +ℤ pos r.h) -ℤ pos 1))) (last_or_before r.x r.w x)
    ∙ ap (λ b. (int_le r.x x && int_lt x (r.x +ℤ pos r.w)) && (int_le r.y y && b)) (last_or_before r.y r.h y)

within-within : (a b : ℤ) (m n : ℕ) (z : ℤ) → (int_le b a && int_le (a +ℤ pos m) (b +ℤ pos n)) ≡ true → within a m z ≡ true → within b n z ≡ true
within-within a b m n z h k =
    let e = and_parts (int_le b a) (int_le (a +ℤ pos m) (b +ℤ pos n)) h in let e0 = e.0 in let e1 = e.1 in
    let low = within-low a m z k in let high = within-high a m z k in
    and_from _ _ (int_le_from b z (omega (arith, ints))) (int_lt_from z (b +ℤ pos n) (omega (arith, ints)))

in_rect-within : (r clip : Rect) (x y : ℤ) → is_within r clip ≡ true → in_rect r x y ≡ true → in_rect clip x y ≡ true
in_rect-within r clip x y h k =
    let e = and_parts (int_le clip.x r.x && int_le (r.x +ℤ pos r.w) (clip.x +ℤ pos clip.w)) (int_le clip.y r.y && int_le (r.y +ℤ pos r.h) (clip.y +ℤ pos clip.h)) h in
    let ks = and_parts (within r.x r.w x) (within r.y r.h y) k in
    and_from _ _ (within-within r.x clip.x r.w clip.w x e.0 ks.0) (within-within r.y clip.y r.h clip.h y e.1 ks.1)

-- bounds are left out where they change nothing
pub bounds-clip : (r : Rect) (clip : Option Rect) (rest : Bool) (x y : ℤ)
    → (in_bounds (edges_of_optional (bounds_of r clip)) x y && (in_rect r x y && rest)) ≡ (in_clip clip x y && (in_rect r x y && rest))
bounds-clip r None rest x y = refl
bounds-clip r (Some clip) rest x y = by (is_within r clip) refl
  where
    inner : (b : Bool) → in_rect r x y ≡ b → is_within r clip ≡ true → (in_rect r x y && rest) ≡ (in_rect clip x y && (in_rect r x y && rest))
    inner true e w = ap (λ b. b && (in_rect r x y && rest)) (sym (in_rect-within r clip x y w e))
    inner false e w = ap (λ b. b && rest) e ∙ sym (none (in_rect clip x y)) ∙ ap (λ b. in_rect clip x y && (b && rest)) (sym e)
      where
        none : (b : Bool) → (b && (false && rest)) ≡ false
        none true = refl
        none false = refl

    by : (b : Bool) → is_within r clip ≡ b → (in_bounds (edges_of_optional (bounds_if b clip)) x y && (in_rect r x y && rest)) ≡ (in_rect clip x y && (in_rect r x y && rest))
    by true w = inner (in_rect r x y) refl w
    by false w = ap (λ b. b && (in_rect r x y && rest)) (in_edges-rect clip x y)

-- the pixels that an order paints within its bounds are those that its drawing paints within its clip
pub painted_area-bounds : {A B : Type 0} (p : Painting A) (q : Painting B) (clip : Option Rect) (x y : ℤ) → p.rect ≡ q.rect → p.area x y ≡ q.area x y
    → painted_area (in_bounds (edges_of_optional (bounds_of p.rect clip))) q x y ≡ painted_area (in_clip clip) p x y
painted_area-bounds p q clip x y rects areas =
    ap (λ r. in_bounds (edges_of_optional (bounds_of p.rect clip)) x y && (in_rect r x y && q.area x y)) (sym rects)
    ∙ ap (λ b. in_bounds (edges_of_optional (bounds_of p.rect clip)) x y && (in_rect p.rect x y && b)) (sym areas)
    ∙ bounds-clip p.rect clip (p.area x y) x y
