-- The tiles of a picture are rectangles that a tile may have.
use Rattle.std.proofs.Common.{◌≡◌, ℕ, zero, suc, ◌+◌, ◌*◌, ◌/◌, ◌%◌, ◌<◌, ◌≤◌, List, [], ◌∷◌, refl, ap, ◌∙◌, arith, filter}
use Rattle.std.specs.Prelude.{Bool, true, false, ◌&&◌, ◌==◌, nat_le, ⊤, ℤ, pos, negsuc, ◌+ℤ◌, ◌-ℤ◌, ◌<ℤ◌}
use Rattle.std.specs.Int.{int_min, int_max}
use Rattle.std.proofs.lemmas.Int.{ints, clamps}
use Rattle.std.proofs.lemmas.Bool.{and_from, and_parts}
use Rattle.std.proofs.lemmas.Bool.Decides.{nat_tests}
use Rattle.px_core.specs.declared.surface.Size.{Size}
use Rattle.px_core.specs.declared.rectangle.Rect.{Rect}
use Rattle.px_core.specs.Picture.{nat_of, listed}
use Rattle.px_core.specs.Rectangle.{whole, is_session_size}
use Rattle.px_core.specs.Tiles.{Tiles, tile_on, tiles_of, picture_tiles, tiles_in}
use Rattle.frame_rules.proofs.TileLaws.{pos-nat_of, int_le_from}
use Rattle.frame_laws.specs.Tile.{IsTileRect}
use Rattle.frame_laws.proofs.FrameShown.{AreTiles}

abbrev AllPass : Tiles → List ℕ → Type 0
AllPass p [] = ⊤
AllPass p (t ∷ ts) = (p t ≡ true) × AllPass p ts

filtered : (p : Tiles) (xs : List ℕ) → AllPass p (filter p xs)
filtered p [] = tt
filtered p (x ∷ xs) = by (p x) refl (filtered p xs)
  where
    by : (b : Bool) → p x ≡ b → AllPass p (filter p xs) → AllPass p (filter p (x ∷ xs))
    by true e k = rw e (e, k)
    by false e k = rw e k

filtered_again : (p q : Tiles) (xs : List ℕ) → AllPass p xs → AllPass p (filter q xs)
filtered_again p q [] h = tt
filtered_again p q (x ∷ xs) h = by (q x) refl (filtered_again p q xs h.1)
  where
    by : (b : Bool) → q x ≡ b → AllPass p (filter q xs) → AllPass p (filter q (x ∷ xs))
    by true e k = rw e (h.0, k)
    by false e k = rw e k

-- where a side has a pixel, the first one lies on the picture
some_side : (z : ℤ) → nat_le 1 (nat_of z) ≡ true → pos 0 <ℤ z
some_side (pos zero) h = absurd (cc h)
some_side (pos (suc n)) h = omega (arith, ints)
some_side (negsuc n) h = absurd (cc h)

-- one side of a tile on a picture: it begins at x, and the picture has so many columns
record Side (x most : ℕ) : Type 0 where
  from : int_max (pos x) (pos 0) ≡ pos x
  length_is : pos (nat_of (int_min (pos x +ℤ pos 64) (pos 0 +ℤ pos most) -ℤ int_max (pos x) (pos 0))) ≡ int_min (pos x +ℤ pos 64) (pos 0 +ℤ pos most) -ℤ pos x
  some : 0 < nat_of (int_min (pos x +ℤ pos 64) (pos 0 +ℤ pos most) -ℤ int_max (pos x) (pos 0))
  few : nat_of (int_min (pos x +ℤ pos 64) (pos 0 +ℤ pos most) -ℤ int_max (pos x) (pos 0)) ≤ 64
  within : x + nat_of (int_min (pos x +ℤ pos 64) (pos 0 +ℤ pos most) -ℤ int_max (pos x) (pos 0)) ≤ most
  four : most % 4 ≡ 0 → x % 4 ≡ 0 → nat_of (int_min (pos x +ℤ pos 64) (pos 0 +ℤ pos most) -ℤ int_max (pos x) (pos 0)) % 4 ≡ 0

side_of : (x most : ℕ) → x < most → Side x most
side_of x most h =
    let start : int_max (pos x) (pos 0) ≡ pos x = omega (arith, ints, clamps) in
    let is : pos n ≡ int_min (pos x +ℤ pos 64) (pos 0 +ℤ pos most) -ℤ int_max (pos x) (pos 0) =
    pos-nat_of (int_min (pos x +ℤ pos 64) (pos 0 +ℤ pos most) -ℤ int_max (pos x) (pos 0)) (omega (arith, ints, clamps, h)) in
    record {
      from = start;
      length_is = is ∙ ap (λ z. int_min (pos x +ℤ pos 64) (pos 0 +ℤ pos most) -ℤ z) start;
      some = omega (arith, ints, clamps, is, h);
      few = omega (arith, ints, clamps, is);
      within = omega (arith, ints, clamps, is);
      four = λ a b. by (nat_le (x + 64) most) refl a b is;
    }
  where
    n : ℕ
    n = nat_of (int_min (pos x +ℤ pos 64) (pos 0 +ℤ pos most) -ℤ int_max (pos x) (pos 0))

    by : (b : Bool) → nat_le (x + 64) most ≡ b → most % 4 ≡ 0 → x % 4 ≡ 0
        → pos (nat_of (int_min (pos x +ℤ pos 64) (pos 0 +ℤ pos most) -ℤ int_max (pos x) (pos 0)))
        ≡ int_min (pos x +ℤ pos 64) (pos 0 +ℤ pos most) -ℤ int_max (pos x) (pos 0)
        → nat_of (int_min (pos x +ℤ pos 64) (pos 0 +ℤ pos most) -ℤ int_max (pos x) (pos 0)) % 4 ≡ 0
    by true e a b is =
        let wide : x + 64 ≤ most = grind (arith, nat_tests, e) in
        let all : nat_of (int_min (pos x +ℤ pos 64) (pos 0 +ℤ pos most) -ℤ int_max (pos x) (pos 0)) ≡ 64 = omega (arith, ints, clamps, is, wide) in
        omega (arith, all)
    by false e a b is =
        let wide : most < x + 64 = grind (arith, nat_tests, e) in
        let all : x + nat_of (int_min (pos x +ℤ pos 64) (pos 0 +ℤ pos most) -ℤ int_max (pos x) (pos 0)) ≡ most = omega (arith, ints, clamps, is, wide, h) in
        omega (arith, all, a, b)

tile_rect_fits : (size : Size) (t : ℕ) → is_session_size size.w size.h ≡ true → 64 * (t % 32) < size.w → 64 * (t / 32) < size.h
    → IsTileRect size (tile_on size t)
tile_rect_fits size t session hx hy =
    let wide = and_parts (nat_le 4 size.w && nat_le size.w 2048) ((nat_le 1 size.h && nat_le size.h 2048) && (size.w % 4 == 0)) session in
    let w = and_parts (nat_le 4 size.w) (nat_le size.w 2048) wide.0 in
    let h = and_parts (nat_le 1 size.h && nat_le size.h 2048) (size.w % 4 == 0) wide.1 in
    let h0 = (and_parts (nat_le 1 size.h) (nat_le size.h 2048) h.0).1 in
    let w1 = w.1 in
    let h1 = h.1 in
    let narrow : size.w ≤ 2048 = grind (arith, nat_tests, w1) in
    let low : size.h ≤ 2048 = grind (arith, nat_tests, h0) in
    let fours : size.w % 4 ≡ 0 = grind (arith, nat_tests, h1) in
    let x = 64 * (t % 32) in
    let y = 64 * (t / 32) in
    let a = side_of x size.w hx in
    let b = side_of y size.h hy in
    let ax = a.from in
    let by_ = b.from in
    let an = a.within in
    let bn = b.within in
    let r : Rect = tile_on size t in
    let lx : nat_of (int_max (pos x) (pos 0)) ≡ x = ap nat_of ax in
    let ly : nat_of (int_max (pos y) (pos 0)) ≡ y = ap nat_of by_ in
    record {
      left = omega (arith, ints, ax);
      top = omega (arith, ints, by_);
      x_fits = omega (arith, lx, an, narrow);
      y_fits = omega (arith, ly, bn, low);
      wide = a.some;
      high = b.some;
      narrow = a.few;
      low = b.few;
      four = a.four fours (omega arith);
      inside = and_from _ _ (and_from _ _ (int_le_from (pos 0) r.x (omega (arith, ints, ax)))
          (int_le_from (r.x +ℤ pos r.w) (pos size.w) (omega (arith, ints, ax, an))))
          (and_from _ _ (int_le_from (pos 0) r.y (omega (arith, ints, by_))) (int_le_from (r.y +ℤ pos r.h) (pos size.h) (omega (arith, ints, by_, bn))));
    }

-- a tile with a pixel of the picture begins on it
begins_on : (size : Size) (t : ℕ) → tiles_of size (whole size) t ≡ true → (64 * (t % 32) < size.w) × (64 * (t / 32) < size.h)
begins_on size t h =
    let x = pos (64 * (t % 32)) in
    let y = pos (64 * (t / 32)) in
    let cx = int_max (pos 0) (pos 0) in
    let cw = nat_of (int_min (pos 0 +ℤ pos size.w) (pos 0 +ℤ pos size.w) -ℤ cx) in
    let ch = nat_of (int_min (pos 0 +ℤ pos size.h) (pos 0 +ℤ pos size.h) -ℤ cx) in
    let s = and_parts (nat_le 1 (nat_of (int_min (x +ℤ pos 64) (cx +ℤ pos cw) -ℤ int_max x cx)))
    (nat_le 1 (nat_of (int_min (y +ℤ pos 64) (cx +ℤ pos ch) -ℤ int_max y cx))) h in
    let sx = some_side (int_min (x +ℤ pos 64) (cx +ℤ pos cw) -ℤ int_max x cx) s.0 in
    let sy = some_side (int_min (y +ℤ pos 64) (cx +ℤ pos ch) -ℤ int_max y cx) s.1 in
    let wide : pos cw ≡ int_min (pos 0 +ℤ pos size.w) (pos 0 +ℤ pos size.w) -ℤ cx =
    pos-nat_of (int_min (pos 0 +ℤ pos size.w) (pos 0 +ℤ pos size.w) -ℤ cx) (omega (arith, ints, clamps)) in
    let high : pos ch ≡ int_min (pos 0 +ℤ pos size.h) (pos 0 +ℤ pos size.h) -ℤ cx =
    pos-nat_of (int_min (pos 0 +ℤ pos size.h) (pos 0 +ℤ pos size.h) -ℤ cx) (omega (arith, ints, clamps)) in
    (omega (arith, ints, clamps, sx, wide), omega (arith, ints, clamps, sy, high))

fit_all : (size : Size) → is_session_size size.w size.h ≡ true → (ts : List ℕ) → AllPass (tiles_of size (whole size)) ts → AreTiles size ts
fit_all size session [] h = tt
fit_all size session (t ∷ ts) h = let b = begins_on size t h.0 in (tile_rect_fits size t session b.0 b.1, fit_all size session ts h.1)

pub are_tiles : (size : Size) (dirty : Tiles) → is_session_size size.w size.h ≡ true → AreTiles size (tiles_in size dirty)
are_tiles size dirty session = fit_all size session (tiles_in size dirty)
    (filtered_again (tiles_of size (whole size)) dirty (picture_tiles size)
    (filtered (tiles_of size (whole size)) (listed (32 * ((size.h + 63) / 64)) 0 (λ tile. tile))))
