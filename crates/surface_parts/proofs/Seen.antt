-- Rectangles that lie on a picture, and the parts that are seen of others.
use Rattle.std.proofs.Common.{◌≡◌, ℕ, ◌+◌, ◌≤◌, Bool, true, ap, sym, ◌∙◌, arith}
use Rattle.std.specs.Prelude.{◌&&◌, nat_le, nat_lt, ℤ, pos, ◌+ℤ◌, ◌-ℤ◌, ◌≤ℤ◌, int_le}
use Rattle.std.proofs.lemmas.Int.{ints}
use Rattle.std.proofs.lemmas.Bool.{and_from, and_parts}
use Rattle.std.proofs.lemmas.Bool.Decides.{nat_tests}
use Rattle.px_core.specs.declared.surface.Size.{Size}
use Rattle.px_core.specs.declared.rectangle.Rect.{Rect}
use Rattle.px_core.specs.Rectangle.{within, in_rect, has_pixel, is_inside}
use Rattle.px_core.proofs.Stretches.{within-low, within-high, within-from, int_le_from}
use Rattle.surface_parts.specs.declared.part.Part.{Part}
use Rattle.surface_parts.specs.Parts.{in_part, IsRectPart, IsWithinRect}

int_le_is : (a b : ℤ) → int_le a b ≡ true → a ≤ℤ b
int_le_is a b h = omega (arith, ints, h)

-- what a rectangle inside a picture keeps
pub record LiesOn (size : Size) (r : Rect) : Type 0 where
  pub left : pos 0 ≤ℤ r.x
  pub right : (r.x +ℤ pos r.w) ≤ℤ pos size.w
  pub above : pos 0 ≤ℤ r.y
  pub below : (r.y +ℤ pos r.h) ≤ℤ pos size.h

pub lies_on : (size : Size) (r : Rect) → is_inside size r ≡ true → LiesOn size r
lies_on size r h =
    let p = and_parts (int_le (pos 0) r.x && int_le (r.x +ℤ pos r.w) (pos size.w)) (int_le (pos 0) r.y && int_le (r.y +ℤ pos r.h) (pos size.h)) h in
    let c = and_parts (int_le (pos 0) r.x) (int_le (r.x +ℤ pos r.w) (pos size.w)) p.0 in
    let d = and_parts (int_le (pos 0) r.y) (int_le (r.y +ℤ pos r.h) (pos size.h)) p.1 in
    record { left = int_le_is _ _ c.0; right = int_le_is _ _ c.1; above = int_le_is _ _ d.0; below = int_le_is _ _ d.1 }

pub is_on : (size : Size) (r : Rect) → LiesOn size r → is_inside size r ≡ true
is_on size r h = and_from _ _ (and_from _ _ (int_le_from _ _ h.left) (int_le_from _ _ h.right)) (and_from _ _ (int_le_from _ _ h.above) (int_le_from _ _ h.below))

-- a rectangle lies in another
pub record LiesIn (frame r : Rect) : Type 0 where
  pub left : frame.x ≤ℤ r.x
  pub right : (r.x +ℤ pos r.w) ≤ℤ (frame.x +ℤ pos frame.w)
  pub above : frame.y ≤ℤ r.y
  pub below : (r.y +ℤ pos r.h) ≤ℤ (frame.y +ℤ pos frame.h)

-- a rectangle with a pixel lies in another where its pixels do
pub lies_in : (frame common : Rect) → ((x y : ℤ) → in_rect common x y ≡ true → in_rect frame x y ≡ true) → has_pixel common ≡ true → LiesIn frame common
lies_in frame common same some =
    let sides = and_parts (nat_le 1 common.w) (nat_le 1 common.h) some in
    let wide : 1 ≤ common.w = grind (arith, nat_tests, sides.0) in
    let high : 1 ≤ common.h = grind (arith, nat_tests, sides.1) in
    let first = there common.x common.y (within-from common.x common.w common.x (omega (arith, ints)) (omega (arith, ints, wide))) (within-from common.y common.h common.y (omega (arith, ints)) (omega (arith, ints, high))) in
    let right : ℤ = (common.x +ℤ pos common.w) -ℤ pos 1 in
    let bottom : ℤ = (common.y +ℤ pos common.h) -ℤ pos 1 in
    let last = there right bottom (within-from common.x common.w right (omega (arith, ints, wide)) (omega (arith, ints))) (within-from common.y common.h bottom (omega (arith, ints, high)) (omega (arith, ints))) in
    let g = within-high frame.x frame.w right last.0 in let b = within-high frame.y frame.h bottom last.1 in
    record { left = within-low frame.x frame.w common.x first.0; right = omega (arith, ints, g); above = within-low frame.y frame.h common.y first.1; below = omega (arith, ints, b) }
  where
    there : (x y : ℤ) → within common.x common.w x ≡ true → within common.y common.h y ≡ true → (within frame.x frame.w x ≡ true) × (within frame.y frame.h y ≡ true)
    there x y column row = and_parts (within frame.x frame.w x) (within frame.y frame.h y) (same x y (and_from (within common.x common.w x) (within common.y common.h y) column row))

module _ (frame r common : Rect) (same : (x y : ℤ) → in_rect common x y ≡ (in_rect frame x y && in_rect r x y)) (some : has_pixel common ≡ true) where
  -- what two rectangles have in common lies on the picture where one of them does
  pub common_inside : (size : Size) → is_inside size frame ≡ true → is_inside size common ≡ true
  common_inside size inside =
      let f = lies_on size frame inside in
      let h = lies_in frame common (λ x y e. (and_parts (in_rect frame x y) (in_rect r x y) (sym (same x y) ∙ e)).0) some in
      is_on size common (record { left = omega (arith, ints, h.left, f.left); right = omega (arith, ints, h.right, f.right); above = omega (arith, ints, h.above, f.above); below = omega (arith, ints, h.below, f.below) })

  -- and it lies in the other one
  pub common_within : (part : Part) → IsRectPart common part → IsWithinRect r part
  common_within part is =
      let h = lies_in r common (λ x y e. (and_parts (in_rect frame x y) (in_rect r x y) (sym (same x y) ∙ e)).1) some in
      record { left = omega (arith, ints, h.left, is.x); right = omega (arith, ints, h.right, is.x, is.w); above = omega (arith, ints, h.above, is.y); below = omega (arith, ints, h.below, is.y, is.h) }

within_is : (z : ℤ) (a n m u : ℕ) → z ≡ pos a → n ≡ m → (nat_le a u && nat_lt u (a + m)) ≡ within z n (pos u)
within_is z a n m u e f = sym (ap (λ k. within k n (pos u)) e ∙ ap (λ k. within (pos a) k (pos u)) f)

-- the pixels of a rectangle that is a part
pub part_pixels : (r : Rect) (part : Part) → IsRectPart r part → (x y : ℕ) → in_part part x y ≡ in_rect r (pos x) (pos y)
part_pixels r part is x y = ap (λ b. b && (nat_le part.y y && nat_lt y (part.y + part.h))) (within_is r.x part.x r.w part.w x is.x is.w)
    ∙ ap (λ b. within r.x r.w (pos x) && b) (within_is r.y part.y r.h part.h y is.y is.h)

pub seen_pixels : (r frame common : Rect) (part : Part) (clipped : Bool) (x y : ℕ) → IsRectPart common part
    → in_rect common (pos x) (pos y) ≡ (in_rect frame (pos x) (pos y) && in_rect r (pos x) (pos y)) → in_rect frame (pos x) (pos y) ≡ clipped
    → in_part part x y ≡ (clipped && in_rect r (pos x) (pos y))
seen_pixels r frame common part clipped x y is same seen = part_pixels common part is x y ∙ same ∙ ap (λ b. b && in_rect r (pos x) (pos y)) seen
