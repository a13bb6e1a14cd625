-- A tile is among those of a rectangle exactly where one of its pixels is.
use Rattle.std.proofs.Common.{◌≡◌, ℕ, ◌+◌, ◌*◌, ◌/◌, ◌%◌, ◌≤◌, ◌<◌, ap, sym, ◌∙◌, arith}
use Rattle.std.specs.Prelude.{true, false, ◌&&◌, ℤ, pos, negsuc, ◌+ℤ◌, ◌-ℤ◌, nat_le}
use Rattle.std.specs.Int.{int_min, int_max}
use Rattle.std.proofs.lemmas.Int.{ints, clamps}
use Rattle.std.proofs.lemmas.Bool.{and_from, and_parts}
use Rattle.std.proofs.lemmas.Bool.Decides.{nat_tests}
use Rattle.px_core.specs.declared.surface.Size.{Size}
use Rattle.px_core.specs.declared.rectangle.Rect.{Rect}
use Rattle.px_core.specs.Picture.{nat_of}
use Rattle.px_core.specs.Rectangle.{within, in_rect, has_pixel, common, common_length, whole}
use Rattle.px_core.specs.Tiles.{tile_rect, tile_number, tiles_of, HasPixelIn}
use Rattle.px_core.proofs.Stretches.{within-low, within-high, within-from, same_test, by_rectangle}

pub pos-nat_of : (z : ℤ) → pos (nat_of z) ≡ int_max (pos 0) z
pos-nat_of (pos n) = omega (arith, ints, clamps)
pos-nat_of (negsuc n) = omega (arith, ints, clamps)

-- the common stretch of two has just the numbers of both
pub within-common : (a : ℤ) (m : ℕ) (b : ℤ) (n : ℕ) (z : ℤ) → within (int_max a b) (common_length a m b n) z ≡ (within a m z && within b n z)
within-common a m b n z = same_test _ _ there back
  where
    long : pos (common_length a m b n) ≡ int_max (pos 0) (int_min (a +ℤ pos m) (b +ℤ pos n) -ℤ int_max a b)
    long = pos-nat_of (int_min (a +ℤ pos m) (b +ℤ pos n) -ℤ int_max a b)

    there : within (int_max a b) (common_length a m b n) z ≡ true → (within a m z && within b n z) ≡ true
    there h = let l = within-low (int_max a b) (common_length a m b n) z h in let g = within-high (int_max a b) (common_length a m b n) z h in
        and_from _ _ (within-from a m z (omega (arith, ints, clamps)) (omega (arith, ints, clamps, long))) (within-from b n z (omega (arith, ints, clamps)) (omega (arith, ints, clamps, long)))

    back : (within a m z && within b n z) ≡ true → within (int_max a b) (common_length a m b n) z ≡ true
    back h = let p = and_parts (within a m z) (within b n z) h in
        let al = within-low a m z p.0 in let ah = within-high a m z p.0 in let bl = within-low b n z p.1 in let bh = within-high b n z p.1 in
        within-from (int_max a b) (common_length a m b n) z (omega (arith, ints, clamps)) (omega (arith, ints, clamps, long))

-- the pixels of the common part of two rectangles are those of both
pub in_rect-common : (a b : Rect) (x y : ℤ) → in_rect (common a b) x y ≡ (in_rect a x y && in_rect b x y)
in_rect-common a b x y =
    ap (λ t. t && within (int_max a.y b.y) (common_length a.y a.h b.y b.h) y) (within-common a.x a.w b.x b.w x)
    ∙ ap (λ t. (within a.x a.w x && within b.x b.w x) && t) (within-common a.y a.h b.y b.h y)
    ∙ by_rectangle (within a.x a.w x) (within b.x b.w x) (within a.y a.h y) (within b.y b.h y)

side_some : (n : ℕ) → nat_le 1 n ≡ true → 1 ≤ n
side_some n h = grind (arith, nat_tests, h)

some_side : (n : ℕ) → 1 ≤ n → nat_le 1 n ≡ true
some_side n h = grind (arith, nat_tests, h)

-- a rectangle has a pixel exactly where its upper left one is one
pub first_pixel : (r : Rect) → has_pixel r ≡ true → in_rect r r.x r.y ≡ true
first_pixel r h = let p = and_parts (nat_le 1 r.w) (nat_le 1 r.h) h in let w = side_some r.w p.0 in let k = side_some r.h p.1 in
    and_from _ _ (within-from r.x r.w r.x (omega (arith, ints)) (omega (arith, ints))) (within-from r.y r.h r.y (omega (arith, ints)) (omega (arith, ints)))

pub some_pixel : (r : Rect) (x y : ℤ) → in_rect r x y ≡ true → has_pixel r ≡ true
some_pixel r x y h = let p = and_parts (within r.x r.w x) (within r.y r.h y) h in
    let xl = within-low r.x r.w x p.0 in let xh = within-high r.x r.w x p.0 in let yl = within-low r.y r.h y p.1 in let yh = within-high r.y r.h y p.1 in
    and_from _ _ (some_side r.w (omega (arith, ints))) (some_side r.h (omega (arith, ints)))

pub no_pixel : (r : Rect) (x y : ℤ) → has_pixel r ≡ false → false ≡ in_rect r x y
no_pixel r x y none = same_test _ _ (λ h. absurd (cc h)) (λ h. sym none ∙ some_pixel r x y h)

-- the pixels of a whole picture
pub in_whole : (size : Size) (x y : ℕ) → x < size.w → y < size.h → in_rect (whole size) (pos x) (pos y) ≡ true
in_whole size x y left above =
    and_from _ _ (within-from (pos 0) size.w (pos x) (omega (arith, ints)) (omega (arith, ints))) (within-from (pos 0) size.h (pos y) (omega (arith, ints)) (omega (arith, ints)))

pub tile_has_pixel : (size : Size) (r : Rect) (tile : ℕ) → tiles_of size r tile ≡ true → HasPixelIn size r tile
tile_has_pixel size r tile h =
    let meets : Rect = common (tile_rect tile) (common r (whole size)) in
    let x : ℕ = nat_of meets.x in
    let y : ℕ = nat_of meets.y in
    at x y (omega (arith, ints, clamps, pos-nat_of meets.x)) (omega (arith, ints, clamps, pos-nat_of meets.y)) (first_pixel meets h)
  where
    at : (x y : ℕ) → pos x ≡ (common (tile_rect tile) (common r (whole size))).x → pos y ≡ (common (tile_rect tile) (common r (whole size))).y
        → in_rect (common (tile_rect tile) (common r (whole size))) (common (tile_rect tile) (common r (whole size))).x (common (tile_rect tile) (common r (whole size))).y ≡ true
        → HasPixelIn size r tile
    at x y ex ey is =
        let here : in_rect (common (tile_rect tile) (common r (whole size))) (pos x) (pos y) ≡ true = rw ex (rw ey is) in
        let p = and_parts (in_rect (tile_rect tile) (pos x) (pos y)) (in_rect (common r (whole size)) (pos x) (pos y)) (sym (in_rect-common (tile_rect tile) (common r (whole size)) (pos x) (pos y)) ∙ here) in
        let q = and_parts (in_rect r (pos x) (pos y)) (in_rect (whole size) (pos x) (pos y)) (sym (in_rect-common r (whole size) (pos x) (pos y)) ∙ p.1) in
        let s = and_parts (within (pos 0) size.w (pos x)) (within (pos 0) size.h (pos y)) q.1 in
        let left = within-high (pos 0) size.w (pos x) s.0 in
        let above = within-high (pos 0) size.h (pos y) s.1 in
        (x, y, omega (arith, ints, left), omega (arith, ints, above), p.0, q.0)

pub pixel_has_tile : (size : Size) (r : Rect) (tile : ℕ) → HasPixelIn size r tile → tiles_of size r tile ≡ true
pixel_has_tile size r tile w =
    let x : ℕ = w.0 in
    let y : ℕ = w.1 in
    some_pixel (common (tile_rect tile) (common r (whole size))) (pos x) (pos y)
    (in_rect-common (tile_rect tile) (common r (whole size)) (pos x) (pos y)
    ∙ and_from _ _ w.4 (in_rect-common r (whole size) (pos x) (pos y) ∙ and_from _ _ w.5 (in_whole size x y w.2 w.3)))

-- a pixel is one of its own tile and of no other
pub tile_of_pixel : (x y tile : ℕ) → in_rect (tile_rect tile) (pos x) (pos y) ≡ true → tile ≡ tile_number x y
tile_of_pixel x y tile h =
    let p = and_parts (within (pos (64 * (tile % 32))) 64 (pos x)) (within (pos (64 * (tile / 32))) 64 (pos y)) h in
    let xl = within-low (pos (64 * (tile % 32))) 64 (pos x) p.0 in let xh = within-high (pos (64 * (tile % 32))) 64 (pos x) p.0 in
    let yl = within-low (pos (64 * (tile / 32))) 64 (pos y) p.1 in let yh = within-high (pos (64 * (tile / 32))) 64 (pos y) p.1 in
    by (tile % 32) (tile / 32) (omega (arith, ints, xl)) (omega (arith, ints, xh)) (omega (arith, ints, yl)) (omega (arith, ints, yh)) (omega arith)
  where
    by : (column row : ℕ) → 64 * column ≤ x → x < 64 * column + 64 → 64 * row ≤ y → y < 64 * row + 64 → tile ≡ 32 * row + column → tile ≡ tile_number x y
    by column row a b c d e = omega (arith, a, b, c, d, e)

pub pixel_of_tile : (x y : ℕ) → x < 2048 → in_rect (tile_rect (tile_number x y)) (pos x) (pos y) ≡ true
pixel_of_tile x y h = and_from _ _ (at (64 * (tile_number x y % 32)) x (omega (arith, h)) (omega (arith, h))) (at (64 * (tile_number x y / 32)) y (omega (arith, h)) (omega (arith, h)))
  where
    at : (from z : ℕ) → from ≤ z → z < from + 64 → within (pos from) 64 (pos z) ≡ true
    at from z l g = within-from (pos from) 64 (pos z) (omega (arith, ints, l)) (omega (arith, ints, g))
