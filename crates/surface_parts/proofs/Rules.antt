-- What the rules say of what keeps them.
use Rattle.std.proofs.Common.{◌≡◌, ℕ, ◌+◌, ◌*◌, ◌/◌, ◌≤◌, Bool, true, false, List, [], ◌∷◌, length, refl, ap, ◌∙◌, arith}
use Rattle.std.specs.Prelude.{◌&&◌, not, nat_le, ◌==◌, ℤ, pos, negsuc, ◌≤ℤ◌, ◌+ℤ◌, int_le, Option, Some, None}
use Rattle.std.proofs.lemmas.Int.{ints}
use Rattle.std.proofs.lemmas.Bool.{and_parts}
use Rattle.std.proofs.lemmas.Bool.Decides.{nat_tests}
use Rattle.px_core.specs.declared.rectangle.Rect.{Rect}
use Rattle.px_core.specs.declared.surface.Size.{Size}
use Rattle.px_core.specs.Rectangle.{boxed, is_inside, IsPlaced}
use Rattle.draw_ops.specs.Content.{ImageOf, GlyphOf}
use Rattle.draw_ops.specs.Fits.{broken_if, first_some, is_side, is_corner, rect_rule, place_rule, image_rule, is_offset, glyph_rule}

pub kept_if : (t : Bool) (n : ℕ) → broken_if (not t) n ≡ None → t ≡ true
kept_if true n h = refl
kept_if false n h = absurd (cc h)

-- all of these tests are passed
abbrev pub AllPassed : {A : Type 0} → List (Option A) → Type 0
AllPassed [] = Unit {0}
AllPassed (o ∷ os) = (o ≡ None) × AllPassed os

pub passed : {A : Type 0} (os : List (Option A)) → first_some os ≡ None → AllPassed os
passed [] h = tt
passed (None ∷ os) h = (refl, passed os h)
passed (Some x ∷ os) h = absurd (cc h)

int_is : (a b : ℤ) → int_le a b ≡ true → a ≤ℤ b
int_is a b h = omega (arith, ints, h)

nat_is : (a b : ℕ) → nat_le a b ≡ true → a ≤ b
nat_is a b h = grind (arith, nat_tests, h)

pub record IsNearCorner (z : ℤ) : Type 0 where
  pub low : negsuc 4095 ≤ℤ z
  pub high : z ≤ℤ pos 4095

pub corner_is : (z : ℤ) → is_corner z ≡ true → IsNearCorner z
corner_is z h = let p = and_parts (int_le (negsuc 4095) z) (int_le z (pos 4095)) h in record { low = int_is _ _ p.0; high = int_is _ _ p.1 }

-- a rectangle inside a picture
pub inside_placed : (size : Size) (r : Rect) → size.w ≤ 2048 → size.h ≤ 2048 → is_inside size r ≡ true → IsPlaced r
inside_placed size r w t h =
    let p = and_parts (int_le (pos 0) r.x && int_le (r.x +ℤ pos r.w) (pos size.w)) (int_le (pos 0) r.y && int_le (r.y +ℤ pos r.h) (pos size.h)) h in
    let u = and_parts (int_le (pos 0) r.x) (int_le (r.x +ℤ pos r.w) (pos size.w)) p.0 in
    let v = and_parts (int_le (pos 0) r.y) (int_le (r.y +ℤ pos r.h) (pos size.h)) p.1 in
    let u0 = u.0 in
    let u1 = u.1 in
    let v0 = v.0 in
    let v1 = v.1 in
    record {
      left = omega (arith, ints, u0);
      right = omega (arith, ints, u1, w);
      above = omega (arith, ints, v0);
      below = omega (arith, ints, v1, t);
      wide = omega (arith, ints, u0, u1, w);
      high = omega (arith, ints, v0, v1, t);
    }

-- a rectangle that is drawn
pub record IsDrawnRect (r : Rect) : Type 0 where
  pub x : IsNearCorner r.x
  pub y : IsNearCorner r.y
  pub wide : r.w ≤ 2048
  pub high : r.h ≤ 2048
  pub placed : IsPlaced r

pub rect_keeps : (r : Rect) → rect_rule r ≡ None → IsDrawnRect r
rect_keeps r h =
    let all = kept_if ((is_side r.w && is_side r.h) && (is_corner r.x && is_corner r.y)) 1 h in
    let p = and_parts (is_side r.w && is_side r.h) (is_corner r.x && is_corner r.y) all in
    let s = and_parts (is_side r.w) (is_side r.h) p.0 in
    let c = and_parts (is_corner r.x) (is_corner r.y) p.1 in
    let x = corner_is r.x c.0 in
    let y = corner_is r.y c.1 in
    let w : r.w ≤ 2048 = nat_is r.w 2048 (and_parts (nat_le 1 r.w) (nat_le r.w 2048) s.0).1 in
    let t : r.h ≤ 2048 = nat_is r.h 2048 (and_parts (nat_le 1 r.h) (nat_le r.h 2048) s.1).1 in
    record {
      x = x;
      y = y;
      wide = w;
      high = t;
      placed = record {
        left = omega (arith, ints, x.low);
        right = omega (arith, ints, x.high);
        above = omega (arith, ints, y.low);
        below = omega (arith, ints, y.high);
        wide = omega (arith, w);
        high = omega (arith, t);
      };
    }

-- the place of a text or a restored block
pub place_keeps : (x y : ℤ) → place_rule x y ≡ None → (IsNearCorner x) × (IsNearCorner y)
place_keeps x y h = let c = and_parts (is_corner x) (is_corner y) (kept_if (is_corner x && is_corner y) 1 h) in (corner_is x c.0, corner_is y c.1)

-- an image that may be loaded
pub record IsLoadableImage (image : ImageOf) : Type 0 where
  pub wide : image.w ≤ 64
  pub high : image.h ≤ 64
  pub whole : length image.pixels ≡ image.w * image.h

pub image_keeps : (image : ImageOf) → image_rule image ≡ None → IsLoadableImage image
image_keeps image h =
    let all = kept_if ((nat_le 1 image.w && nat_le image.w 64) && ((nat_le 1 image.h && nat_le image.h 64) && (length image.pixels == image.w * image.h))) 6 h in
    let p = and_parts (nat_le 1 image.w && nat_le image.w 64) ((nat_le 1 image.h && nat_le image.h 64) && (length image.pixels == image.w * image.h)) all in
    let q = and_parts (nat_le 1 image.h && nat_le image.h 64) (length image.pixels == image.w * image.h) p.1 in
    record { wide = nat_is _ _ (and_parts (nat_le 1 image.w) (nat_le image.w 64) p.0).1; high = nat_is _ _ (and_parts (nat_le 1 image.h) (nat_le image.h 64) q.0).1; whole = grind (arith, nat_tests, q.1) }

-- a glyph that may be loaded
pub record IsLoadableGlyph (glyph : GlyphOf) : Type 0 where
  pub wide : glyph.cx ≤ 32
  pub high : glyph.cy ≤ 32
  pub left : negsuc 63 ≤ℤ glyph.x
  pub right : glyph.x ≤ℤ pos 64
  pub above : negsuc 63 ≤ℤ glyph.y
  pub below : glyph.y ≤ℤ pos 64
  pub whole : length glyph.bits ≡ (glyph.cx + 7) / 8 * glyph.cy

pub glyph_keeps : (glyph : GlyphOf) → glyph_rule glyph ≡ None → IsLoadableGlyph glyph
glyph_keeps glyph h =
    let sides = nat_le 1 glyph.cx && nat_le glyph.cx 32 in
    let rows = nat_le 1 glyph.cy && nat_le glyph.cy 32 in
    let near = is_offset glyph.x && is_offset glyph.y in
    let whole = length glyph.bits == (glyph.cx + 7) / 8 * glyph.cy in
    let p = and_parts sides (rows && (near && whole)) (kept_if (sides && (rows && (near && whole))) 6 h) in
    let q = and_parts rows (near && whole) p.1 in
    let r = and_parts near whole q.1 in
    let o = and_parts (is_offset glyph.x) (is_offset glyph.y) r.0 in
    let a = and_parts (int_le (negsuc 63) glyph.x) (int_le glyph.x (pos 64)) o.0 in
    let b = and_parts (int_le (negsuc 63) glyph.y) (int_le glyph.y (pos 64)) o.1 in
    record {
      wide = nat_is _ _ (and_parts (nat_le 1 glyph.cx) (nat_le glyph.cx 32) p.0).1;
      high = nat_is _ _ (and_parts (nat_le 1 glyph.cy) (nat_le glyph.cy 32) q.0).1;
      left = int_is _ _ a.0;
      right = int_is _ _ a.1;
      above = int_is _ _ b.0;
      below = int_is _ _ b.1;
      whole = grind (arith, nat_tests, r.1);
    }

pub same_rect : (x u y v : ℤ) (w m h n : ℕ) → x ≡ u → y ≡ v → w ≡ m → h ≡ n → boxed x y w h ≡ boxed u v m n
same_rect x u y v w m h n ex ey ew eh = ap (λ z. boxed z y w h) ex ∙ ap (λ z. boxed u z w h) ey ∙ ap (λ k. boxed u v k h) ew ∙ ap (λ k. boxed u v m k) eh
