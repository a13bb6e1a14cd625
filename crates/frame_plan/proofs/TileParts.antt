-- The part of a tile that lies on a picture has the same pixels in the tile and in the picture.
use Rattle.std.proofs.Common.{◌≡◌, ℕ, zero, suc, ◌+◌, ◌*◌, ◌/◌, ◌%◌, ◌<◌, ◌≤◌, List, length, take, refl, sym, ap, ◌∙◌, mod-lt, mul_comm, arith}
use Rattle.std.specs.Prelude.{All, ℤ, pos, negsuc, ◌+ℤ◌, ◌-ℤ◌, ◌≤ℤ◌}
use Rattle.std.specs.Int.{int_min, int_max}
use Rattle.std.proofs.lemmas.Int.{ints, clamps}
use Rattle.std.proofs.lemmas.List.{length-take-le, take_all}
use Rattle.std.proofs.lemmas.List.Elements.{All-filter, filter_passes}
use Rattle.std.proofs.lemmas.Nat.{div_below, mod-mul-add, div-mul-add, mul-le}
use Rattle.px_core.specs.declared.surface.Size.{Size}
use Rattle.px_core.specs.declared.rectangle.Rect.{Rect}
use Rattle.px_core.specs.Picture.{item, listed, nat_of, pixel_in, rows_of}
use Rattle.px_core.specs.Rectangle.{boxed, common_length, cut_out, pixel_of, whole}
use Rattle.px_core.specs.Tiles.{picture_tiles, tile_on, tile_rect, tiles_in, tiles_of, Tiles}
use Rattle.px_core.proofs.Pictures.{item-front, front-take, item-listed, length-listed, same_items}
use Rattle.surface_parts.proofs.Cuts.{pixel_from}
use Rattle.tile_surface.specs.Cells.{tile_sides}
use Rattle.tile_surface.proofs.Tiled.{place_below}
use Rattle.frame_plan.specs.TileParts.{part_of_tile, IsOnPicture}

column_below : (w h i : ℕ) → i < w * h → i % w < w
column_below zero h i k = absurd (omega (arith, k))
column_below (suc w) h i k = mod-lt i (omega arith)

row_below : (w h i : ℕ) → i < w * h → i / w < h
row_below zero h i k = absurd (omega (arith, k))
row_below (suc w) h i k = div_below i (suc w) h (omega arith) (rw (mul_comm h (suc w)) k)

at_place : (w h i : ℕ) → i < w * h → w * (i / w) + i % w ≡ i
at_place zero h i k = absurd (omega (arith, k))
at_place (suc w) h i k = omega arith

place_first : (w x y : ℕ) → 0 + (w * y + x) ≡ y * w + x
place_first w x y = rw (mul_comm w y) (omega arith)

column_at : (w x y : ℕ) → x < w → (0 + (w * y + x)) % w ≡ x
column_at w x y left = ap (λ n. n % w) (place_first w x y) ∙ mod-mul-add y w x left

row_at : (w x y : ℕ) → x < w → (0 + (w * y + x)) / w ≡ y
row_at w x y left = ap (λ n. n / w) (place_first w x y) ∙ div-mul-add y w x left

from_zero : (n : ℕ) → 0 + n ≡ n
from_zero n = omega arith

-- ---- a corner of what was cut out

module _ (size sides : Size) (ps tile : List ℕ) (r : Rect) (wide : r.w ≡ sides.w) (high : r.h ≡ sides.h) (is : tile ≡ cut_out size ps 0 r) where
  cut_item : (x y : ℕ) → x < r.w → y < r.h → item tile (r.w * y + x) 0 ≡ pixel_in (rows_of size.w size.h ps) 0 (r.x +ℤ pos x) (r.y +ℤ pos y)
  cut_item x y left above =
      ap (λ (qs : List ℕ). item qs (r.w * y + x) 0) is
      ∙ item-listed (r.w * r.h) 0 (pixel_of (rows_of size.w size.h ps) 0 r) (r.w * y + x) 0 (place_below r.w x y r.h left above)
      ∙ ap (λ c. pixel_in (rows_of size.w size.h ps) 0 (r.x +ℤ pos c) (r.y +ℤ pos ((0 + (r.w * y + x)) / r.w))) (column_at r.w x y left)
      ∙ ap (λ d. pixel_in (rows_of size.w size.h ps) 0 (r.x +ℤ pos x) (r.y +ℤ pos d)) (row_at r.w x y left)

  corner_pixel : (x y : ℕ) → x < sides.w → y < sides.h → pixel_in (rows_of sides.w sides.h tile) 0 (pos 0 +ℤ pos x) (pos 0 +ℤ pos y) ≡ pixel_in (rows_of size.w size.h ps) 0 (r.x +ℤ pos x) (r.y +ℤ pos y)
  corner_pixel x y left above =
      pixel_from sides tile (pos 0) (pos 0) 0 0 x y refl refl (omega (arith, left)) (omega (arith, above))
      ∙ ap (λ n. item tile (sides.w * (0 + y) + n) 0) (from_zero x)
      ∙ ap (λ n. item tile (sides.w * n + x) 0) (from_zero y)
      ∙ ap (λ w. item tile (w * y + x) 0) (sym wide)
      ∙ cut_item x y (omega (arith, left, wide)) (omega (arith, above, high))

  -- the corner of a rectangle that was cut out of a picture, cut out of what was cut out
  pub corner_is : (part : Rect) → part.x ≡ r.x → part.y ≡ r.y → part.w ≤ sides.w → part.h ≤ sides.h
      → cut_out sides tile 0 (boxed (pos 0) (pos 0) part.w part.h) ≡ cut_out size ps 0 part
  corner_is part ex ey narrow low =
      let n = part.w * part.h in
      let f = pixel_of (rows_of sides.w sides.h tile) 0 (boxed (pos 0) (pos 0) part.w part.h) in
      let g = pixel_of (rows_of size.w size.h ps) 0 part in
      same_items 0 (cut_out sides tile 0 (boxed (pos 0) (pos 0) part.w part.h)) (cut_out size ps 0 part) (length-listed n 0 f ∙ sym (length-listed n 0 g)) (λ k lt.
      let below : k < part.w * part.h = omega (arith, lt, length-listed n 0 f) in
      let left = column_below part.w part.h k below in
      let above = row_below part.w part.h k below in
      item-listed n 0 f k 0 below ∙ ap f (from_zero k)
      ∙ corner_pixel (k % part.w) (k / part.w) (omega (arith, left, narrow)) (omega (arith, above, low))
      ∙ ap (λ z. pixel_in (rows_of size.w size.h ps) 0 (z +ℤ pos (k % part.w)) (r.y +ℤ pos (k / part.w))) (sym ex)
      ∙ ap (λ z. pixel_in (rows_of size.w size.h ps) 0 (part.x +ℤ pos (k % part.w)) (z +ℤ pos (k / part.w))) (sym ey)
      ∙ ap g (sym (from_zero k)) ∙ sym (item-listed n 0 g k 0 below))

-- ---- a tile

nat_of_within : (z : ℤ) (n : ℕ) → z ≤ℤ pos n → nat_of z ≤ n
nat_of_within (pos k) n h = omega (arith, ints, h)
nat_of_within (negsuc k) n h = omega arith

common_within : (a b : ℤ) (m n : ℕ) → common_length a m b n ≤ m
common_within a b m n = nat_of_within (int_min (a +ℤ pos m) (b +ℤ pos n) -ℤ int_max a b) m (omega (arith, ints, clamps))

pub tile_on_wide : (size : Size) (tile : ℕ) → (tile_on size tile).w ≤ 64
tile_on_wide size tile = common_within (tile_rect tile).x (pos 0) 64 size.w

pub tile_on_high : (size : Size) (tile : ℕ) → (tile_on size tile).h ≤ 64
tile_on_high size tile = common_within (tile_rect tile).y (pos 0) 64 size.h

from_corner : (n : ℕ) → int_max (pos n) (pos 0) ≡ pos n
from_corner n = omega (arith, ints, clamps)

-- a tile's part on a picture, cut out of the tile
pub part_is : (size : Size) (picture pixels : List ℕ) (tile : ℕ) → pixels ≡ cut_out size picture 0 (tile_rect tile)
    → part_of_tile pixels (tile_on size tile).w (tile_on size tile).h ≡ cut_out size picture 0 (tile_on size tile)
part_is size picture pixels tile is =
    corner_is size tile_sides picture pixels (tile_rect tile) refl refl is (tile_on size tile) (from_corner (64 * (tile % 32))) (from_corner (64 * (tile / 32)))
    (tile_on_wide size tile) (tile_on_high size tile)

-- the pixels of a tile's part
pub part_length : (pixels : List ℕ) (w h : ℕ) → length (part_of_tile pixels w h) ≡ w * h
part_length pixels w h = length-listed (w * h) 0 (pixel_of (rows_of tile_sides.w tile_sides.h pixels) 0 (boxed (pos 0) (pos 0) w h))

-- a part with all of a tile's pixels is as wide as the tile
pub whole_is_wide : (w h : ℕ) → w ≤ 64 → h ≤ 64 → w * h ≡ 4096 → w ≡ 64
whole_is_wide w h narrow low all = omega (arith, narrow, all, mul-le w h w 64 (omega arith) low)

-- and as high
pub whole_is_high : (w h : ℕ) → w ≤ 64 → h ≤ 64 → w * h ≡ 4096 → h ≡ 64
whole_is_high w h narrow low all = whole_is_wide h w low narrow (mul_comm h w ∙ all)

-- the first rows of a picture, cut out of it
pub rows_in_place : (size : Size) (ps : List ℕ) (w h n : ℕ) → w ≡ size.w → h ≤ size.h → n ≡ w * h → n ≤ length ps → take n ps ≡ cut_out size ps 0 (boxed (pos 0) (pos 0) w h)
rows_in_place size ps w h n wide low is within =
    let f = pixel_of (rows_of size.w size.h ps) 0 (boxed (pos 0) (pos 0) w h) in
    same_items 0 (take n ps) (cut_out size ps 0 (boxed (pos 0) (pos 0) w h)) (length-take-le n ps within ∙ is ∙ sym (length-listed (w * h) 0 f)) (λ k lt.
    let first : k < n = omega (arith, lt, length-take-le n ps within) in
    let below : k < w * h = omega (arith, first, is) in
    let left = column_below w h k below in
    let above = row_below w h k below in
    ap (λ (qs : List ℕ). item qs k 0) (sym (front-take n ps)) ∙ item-front n ps k 0 first
    ∙ ap (λ i. item ps i 0) (sym (at_place w h k below))
    ∙ ap (λ v. item ps (v * (k / w) + k % w) 0) wide
    ∙ ap (λ u. item ps (size.w * (k / w) + u) 0) (sym (from_zero (k % w)))
    ∙ ap (λ v. item ps (size.w * v + (0 + k % w)) 0) (sym (from_zero (k / w)))
    ∙ sym (pixel_from size ps (pos 0) (pos 0) 0 0 (k % w) (k / w) refl refl (omega (arith, left, wide)) (omega (arith, above, low)))
    ∙ ap f (sym (from_zero k)) ∙ sym (item-listed (w * h) 0 f k 0 below))

-- the part of a tile that is as great as the tile
pub all_of_tile : (tile : List ℕ) (w h : ℕ) → w ≡ 64 → h ≡ 64 → length tile ≡ 4096 → tile ≡ part_of_tile tile w h
all_of_tile tile w h wide high sized =
    sym (take_all 4096 tile (omega (arith, sized))) ∙ rows_in_place tile_sides tile 64 64 4096 refl (omega arith) refl (omega (arith, sized))
    ∙ ap (λ v. part_of_tile tile v 64) (sym wide) ∙ ap (part_of_tile tile w) (sym high)

-- the tiles of a set that lie on a picture have a pixel there
pub all_on : (size : Size) (set : Tiles) → All (IsOnPicture size) (tiles_in size set)
all_on size set = All-filter set (IsOnPicture size) (picture_tiles size) (filter_passes (tiles_of size (whole size)) (listed (32 * ((size.h + 63) / 64)) 0 (λ t. t)))
