-- A stretch of one tile's row that was read is a stretch of the picture's row.
use Rattle.std.proofs.Common.{◌≡◌, ℕ, ◌+◌, ◌/◌, ◌%◌, ◌-◌, ◌<◌, ◌≤◌, List, length, get_or, sym, ap, ◌∙◌, arith, inl, inr}
use Rattle.std.proofs.lemmas.List.{get_or_default}
use Rattle.std.proofs.lemmas.Bool.{cases_lt}
use borrow.Rule.Slice.PartMut.{put_mid}
use Rattle.px_core.specs.declared.surface.Size.{Size}
use Rattle.px_core.specs.Picture.{pixel_at}
use Rattle.px_core.specs.Tiles.{tile_number}
use Rattle.surface_parts.proofs.Repaint.{put_before, put_at}
use Rattle.tile_surface.specs.declared.cell.Cell.{Cell}
use Rattle.tile_surface.specs.declared.cell.Cell.TheVariants.{Blank}
use Rattle.tile_surface.specs.Cells.{cell_at, cell_pixels, picture_of, tile_sides, IsTiled}
use Rattle.tile_surface.proofs.Tiled.{tiled_pixel}

module _ (size : Size) (cells : List Cell) (other : Cell) (x y done n m tile : ℕ) (out ys : List ℕ) (tiled : IsTiled size cells) (within : x + done + n ≤ size.w) (above : y < size.h)
    (narrow : (x + done) % 64 + n ≤ 64) (is : tile ≡ tile_number (x + done) y) (em : m ≡ n) (fits : done + m ≤ length out) (long : length ys ≡ m)
    (read : (k : ℕ) → k < m → get_or ys k 0 ≡ pixel_at tile_sides (cell_pixels (get_or cells tile other)) 0 ((x + done) % 64 + k) (y % 64)) where
  stretch_read : (k : ℕ) → k < n → get_or ys k 0 ≡ pixel_at size (picture_of size cells) 0 (x + (done + k)) y
  stretch_read k below =
      let column : (x + done) % 64 + k ≡ (x + (done + k)) % 64 = omega (arith, below, narrow) in
      let place : x + (done + k) < size.w = omega (arith, below, within) in
      let number : tile ≡ tile_number (x + (done + k)) y = omega (arith, is, below, narrow) in
      read k (omega (arith, below, em))
      ∙ ap (λ (c : Cell). pixel_at tile_sides (cell_pixels c) 0 ((x + done) % 64 + k) (y % 64)) (get_or_default cells tile other Blank (omega (arith, number, place, above, tiled.small.wide, tiled.small.high, tiled.sized)))
      ∙ ap (λ u. pixel_at tile_sides (cell_pixels (cell_at cells tile)) 0 u (y % 64)) column
      ∙ ap (λ t. pixel_at tile_sides (cell_pixels (cell_at cells t)) 0 ((x + (done + k)) % 64) (y % 64)) number
      ∙ sym (tiled_pixel size cells (x + (done + k)) y place above)

  pub more_read : ((k : ℕ) → k < done → get_or out k 0 ≡ pixel_at size (picture_of size cells) 0 (x + k) y)
      → (k : ℕ) → k < done + n → get_or (put_mid done m out ys) k 0 ≡ pixel_at size (picture_of size cells) 0 (x + k) y
  more_read first k below = elim (cases_lt k done) [
    | inl before ↦ put_before done m out ys k fits before ∙ first k before
    | inr behind ↦ let there : done + (k - done) ≡ k = omega (arith, behind) in
        ap (λ j. get_or (put_mid done m out ys) j 0) (sym there)
        ∙ put_at done m out ys (k - done) fits long (omega (arith, behind, below, em))
        ∙ stretch_read (k - done) (omega (arith, behind, below))
        ∙ ap (λ j. pixel_at size (picture_of size cells) 0 (x + j) y) there
  ]

-- the same of n by h pixels of one tile
module _ (size : Size) (cells : List Cell) (other : Cell) (x y n h tile : ℕ) (tiled : IsTiled size cells) (within : x + n ≤ size.w) (below : y + h ≤ size.h) (narrow : x % 64 + n ≤ 64) (low : y % 64 + h ≤ 64) (is : tile ≡ tile_number x y) where
  pub piece_read : (i j : ℕ) → i < n → j < h → pixel_at tile_sides (cell_pixels (get_or cells tile other)) 0 (x % 64 + i) (y % 64 + j) ≡ pixel_at size (picture_of size cells) 0 (x + i) (y + j)
  piece_read i j left above =
      let column : x % 64 + i ≡ (x + i) % 64 = omega (arith, left, narrow) in
      let row : y % 64 + j ≡ (y + j) % 64 = omega (arith, above, low) in
      let right : x + i < size.w = omega (arith, left, within) in
      let high : y + j < size.h = omega (arith, above, below) in
      let across : x / 64 ≡ (x + i) / 64 = omega (arith, left, narrow) in
      let down : y / 64 ≡ (y + j) / 64 = omega (arith, above, low) in
      let number : tile ≡ tile_number (x + i) (y + j) = omega (arith, is, across, down) in
      ap (λ (c : Cell). pixel_at tile_sides (cell_pixels c) 0 (x % 64 + i) (y % 64 + j)) (get_or_default cells tile other Blank (omega (arith, number, right, high, tiled.small.wide, tiled.small.high, tiled.sized)))
      ∙ ap (λ u. pixel_at tile_sides (cell_pixels (cell_at cells tile)) 0 u (y % 64 + j)) column
      ∙ ap (λ v. pixel_at tile_sides (cell_pixels (cell_at cells tile)) 0 ((x + i) % 64) v) row
      ∙ ap (λ t. pixel_at tile_sides (cell_pixels (cell_at cells t)) 0 ((x + i) % 64) ((y + j) % 64)) number
      ∙ sym (tiled_pixel size cells (x + i) (y + j) right high)
