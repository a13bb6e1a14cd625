-- Pieces of one tile in which each pixel was changed by its place and by what it was.
use Rattle.std.proofs.Common.{◌≡◌, ℕ, ◌+◌, ◌%◌, ◌/◌, ◌<◌, ◌≤◌, List, get_or, set, sym, ap, ◌∙◌, arith}
use Rattle.std.specs.Prelude.{nat_le, nat_lt, ◌&&◌}
use Rattle.std.proofs.lemmas.Bool.Decides.{nat_tests}
use Rattle.px_core.specs.declared.surface.Size.{Size}
use Rattle.px_core.specs.Picture.{pixel_at}
use Rattle.px_core.specs.Tiles.{tile_number}
use Rattle.surface_parts.specs.Parts.{in_part, part_at, IsRepainted}
use Rattle.surface_parts.proofs.Repaint.{under_false, false_and}
use Rattle.tile_surface.specs.declared.cell.Cell.{Cell}
use Rattle.tile_surface.specs.Cells.{cell_at, cell_pixels, picture_of, tile_sides, IsTiled}
use Rattle.tile_surface.proofs.Tiled.{tiled_pixel}
use Rattle.tile_surface.proofs.Writings.{more_painted, piece_there}

-- one more piece of a part that lies in one row of tiles: the tile of its pixels was read as a cell, in which it then was changed
module _ (size : Size) (old cur : List Cell) (other cell : Cell) (x y done n h tile : ℕ) (op part_op : ℕ → ℕ → ℕ → ℕ)
    (tiled : IsTiled size cur) (within : x + done + n ≤ size.w) (left : x + done < size.w) (above : y < size.h) (below : y + h ≤ size.h) (narrow : (x + done) % 64 + n ≤ 64) (low : y % 64 + h ≤ 64) (is : tile ≡ tile_number (x + done) y)
    (first : IsRepainted size (in_part (part_at x y done h)) (λ u v. op u v (pixel_at size (picture_of size old) 0 u v)) (picture_of size old) (picture_of size cur))
    (painted : IsRepainted tile_sides (in_part (part_at ((x + done) % 64) (y % 64) n h)) (λ u v. part_op u v (pixel_at tile_sides (cell_pixels (get_or cur tile other)) 0 u v)) (cell_pixels (get_or cur tile other)) (cell_pixels cell))
    (same : (u v d : ℕ) → x + done ≤ u → u < x + done + n → y ≤ v → v < y + h → part_op (u % 64) (v % 64) d ≡ op u v d) where
  -- a pixel of the tile is one of the picture, which wasn't changed yet
  before : (u v : ℕ) → u < size.w → v < size.h → x + done ≤ u → u < x + done + n → y ≤ v → v < y + h → pixel_at tile_sides (cell_pixels (get_or cur tile other)) 0 (u % 64) (v % 64) ≡ pixel_at size (picture_of size old) 0 u v
  before u v wide high from more top bottom =
      let column : (x + done) / 64 ≡ u / 64 = omega (arith, from, more, narrow) in
      let row : y / 64 ≡ v / 64 = omega (arith, top, bottom, low) in
      let number : tile_number (x + done) y ≡ tile_number u v = omega (arith, column, row) in
      ap (λ (c : Cell). pixel_at tile_sides (cell_pixels c) 0 (u % 64) (v % 64)) (piece_there size old cur other cell x y done n h tile _ tiled within left above below narrow low is painted)
      ∙ ap (λ t. pixel_at tile_sides (cell_pixels (cell_at cur t)) 0 (u % 64) (v % 64)) number
      ∙ sym (tiled_pixel size cur u v wide high)
      ∙ first.pixel u v wide high
      ∙ sym (under_false (in_part (part_at x y done h) u v) (op u v (pixel_at size (picture_of size old) 0 u v)) (pixel_at size (picture_of size old) 0 u v)
      (false_and (nat_le x u && nat_lt u (x + done)) (nat_le y v && nat_lt v (y + h)) (grind (arith, nat_tests, from))))

  pub piece_changed : IsRepainted size (in_part (part_at x y (done + n) h)) (λ u v. op u v (pixel_at size (picture_of size old) 0 u v)) (picture_of size old) (picture_of size (set cur tile cell))
  piece_changed = more_painted size old cur other cell x y done n h tile (λ u v. part_op u v (pixel_at tile_sides (cell_pixels (get_or cur tile other)) 0 u v))
      tiled within left above below narrow low is painted (λ u v. op u v (pixel_at size (picture_of size old) 0 u v)) first
      (λ u v wide high from more top bottom. same u v (pixel_at tile_sides (cell_pixels (get_or cur tile other)) 0 (u % 64) (v % 64)) from more top bottom
      ∙ ap (op u v) (before u v wide high from more top bottom))
