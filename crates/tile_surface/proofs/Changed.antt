-- Stretches of rows that were changed in place.
use Rattle.std.proofs.Common.{◌≡◌, ℕ, ◌+◌, ◌*◌, ◌/◌, ◌%◌, ◌-◌, ◌<◌, ◌≤◌, List, length, get_or, set, sym, ap, subst, ◌∙◌, arith}
use Rattle.std.specs.Prelude.{nat_le, nat_lt, ◌&&◌}
use Rattle.std.proofs.lemmas.Bool.Decides.{nat_tests}
use borrow.Rule.Slice.PartMut.{put_mid, mid_of}
use Rattle.px_core.specs.declared.surface.Size.{Size}
use Rattle.px_core.specs.Picture.{pixel_at}
use Rattle.px_core.specs.Tiles.{tile_number}
use Rattle.surface_parts.specs.Parts.{in_part, part_at, IsRepainted}
use Rattle.surface_parts.proofs.Repaint.{row_stretch, stretch_pixel, under_false, false_and}
use Rattle.tile_surface.specs.declared.cell.Cell.{Cell}
use Rattle.tile_surface.specs.Cells.{cell_at, cell_pixels, picture_of, tile_sides, IsTiled}
use Rattle.tile_surface.proofs.Tiled.{tiled_pixel}
use Rattle.tile_surface.proofs.Writings.{more_painted, piece_there}

-- a stretch of a tile's row, each pixel by an operation on its place in the stretch and on what it was
pub stretch_changed : (op : ℕ → ℕ → ℕ) (x y n a m : ℕ) (old now ys : List ℕ) → now ≡ old → length old ≡ 4096 → x + n ≤ 64 → y < 64 → a ≡ 64 * y + x → m ≡ n → length ys ≡ n
    → ((k : ℕ) → k < n → get_or ys k 0 ≡ op k (get_or (mid_of a m now) k 0))
    → IsRepainted tile_sides (in_part (part_at x y n 1)) (λ u v. op (u - x) (pixel_at tile_sides old 0 u v)) old (put_mid a m now ys)
stretch_changed op x y n a m old now ys e whole fits high ea em long same =
    subst (λ (ps : List ℕ). IsRepainted tile_sides (in_part (part_at x y n 1)) (λ u v. op (u - x) (pixel_at tile_sides old 0 u v)) old (put_mid a m ps ys)) (sym e)
    (row_stretch tile_sides x n (λ u v. op (u - x) (pixel_at tile_sides old 0 u v)) old ys y a m whole high fits ea em long
    (λ k below. let there : k ≡ (x + k) - x = omega arith in
    same k below ∙ ap (op k) (stretch_pixel tile_sides a m x y k now ea (omega (arith, below, em)) ∙ ap (λ ps. pixel_at tile_sides ps 0 (x + k) y) e) ∙ ap (λ i. op i (pixel_at tile_sides old 0 (x + k) y)) there))

-- one more stretch of a row of the picture: the tile of its pixels was read as a cell, in which it then was changed
module _ (size : Size) (old cur : List Cell) (other cell : Cell) (x y done n tile : ℕ) (op part_op : ℕ → ℕ → ℕ)
    (tiled : IsTiled size cur) (within : x + done + n ≤ size.w) (left : x + done < size.w) (above : y < size.h) (narrow : (x + done) % 64 + n ≤ 64) (is : tile ≡ tile_number (x + done) y)
    (first : IsRepainted size (in_part (part_at x y done 1)) (λ u v. op (u - x) (pixel_at size (picture_of size old) 0 u v)) (picture_of size old) (picture_of size cur))
    (painted : IsRepainted tile_sides (in_part (part_at ((x + done) % 64) (y % 64) n 1)) (λ u v. part_op (u - (x + done) % 64) (pixel_at tile_sides (cell_pixels (get_or cur tile other)) 0 u v)) (cell_pixels (get_or cur tile other)) (cell_pixels cell))
    (same : (i d : ℕ) → i < n → part_op i d ≡ op (done + i) d) where
  -- a pixel of the tile is one of the picture, which wasn't changed yet
  pixel_before : (u v : ℕ) → u < size.w → v < size.h → x + done ≤ u → u < x + done + n → y ≤ v → v < y + 1 → pixel_at tile_sides (cell_pixels (get_or cur tile other)) 0 (u % 64) (v % 64) ≡ pixel_at size (picture_of size old) 0 u v
  pixel_before u v wide high low more top bottom =
      let column : (x + done) / 64 ≡ u / 64 = omega (arith, low, more, narrow) in
      let number : tile_number (x + done) y ≡ tile_number u v = omega (arith, column, top, bottom) in
      ap (λ (c : Cell). pixel_at tile_sides (cell_pixels c) 0 (u % 64) (v % 64)) (piece_there size old cur other cell x y done n 1 tile _ tiled within left above (omega (arith, above)) narrow (omega arith) is painted)
      ∙ ap (λ t. pixel_at tile_sides (cell_pixels (cell_at cur t)) 0 (u % 64) (v % 64)) number
      ∙ sym (tiled_pixel size cur u v wide high)
      ∙ first.pixel u v wide high
      ∙ sym (under_false (in_part (part_at x y done 1) u v) (op (u - x) (pixel_at size (picture_of size old) 0 u v)) (pixel_at size (picture_of size old) 0 u v)
      (false_and (nat_le x u && nat_lt u (x + done)) (nat_le y v && nat_lt v (y + 1)) (grind (arith, nat_tests, low))))

  pub more_changed : IsRepainted size (in_part (part_at x y (done + n) 1)) (λ u v. op (u - x) (pixel_at size (picture_of size old) 0 u v)) (picture_of size old) (picture_of size (set cur tile cell))
  more_changed = more_painted size old cur other cell x y done n 1 tile (λ u v. part_op (u - (x + done) % 64) (pixel_at tile_sides (cell_pixels (get_or cur tile other)) 0 u v))
      tiled within left above (omega (arith, above)) narrow (omega arith) is painted (λ u v. op (u - x) (pixel_at size (picture_of size old) 0 u v)) first
      (λ u v wide high low more top bottom.
      let near : u % 64 - (x + done) % 64 ≡ u - (x + done) = omega (arith, low, more, narrow) in
      let place : done + (u - (x + done)) ≡ u - x = omega (arith, low) in
      ap (λ i. part_op i (pixel_at tile_sides (cell_pixels (get_or cur tile other)) 0 (u % 64) (v % 64))) near
      ∙ same (u - (x + done)) (pixel_at tile_sides (cell_pixels (get_or cur tile other)) 0 (u % 64) (v % 64)) (omega (arith, low, more))
      ∙ ap (λ i. op i (pixel_at tile_sides (cell_pixels (get_or cur tile other)) 0 (u % 64) (v % 64))) place
      ∙ ap (op (u - x)) (pixel_before u v wide high low more top bottom))
