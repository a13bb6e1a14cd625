-- Pictures that are kept as tiles, pixel by pixel.
use Rattle.std.proofs.Common.{◌≡◌, ℕ, ◌+◌, ◌*◌, ◌/◌, ◌%◌, ◌<◌, ◌≤◌, List, length, get_or, map, replicate, sym, ap, ◌∙◌, arith, inl, inr}
use Rattle.std.proofs.lemmas.Nat.{mod-mul-add, div-mul-add}
use Rattle.std.proofs.Math.Nat.{mul_comm}
use Rattle.std.proofs.Math.ListN.{get_or-map}
use Rattle.std.proofs.lemmas.Bool.{cases_lt}
use Rattle.std.proofs.lemmas.List.{get_or_past, get_or-replicate, length-map, length-replicate}
use Rattle.px_core.specs.declared.surface.Size.{Size}
use Rattle.px_core.specs.Picture.{pixel_at, pixel_count}
use Rattle.px_core.specs.Tiles.{tile_number}
use Rattle.px_core.proofs.Pictures.{item-get_or, item-listed, length-listed, same_pixels}
use Rattle.surface_parts.specs.Parts.{IsCanvas}
use Rattle.tile_surface.specs.declared.cell.Cell.{Cell}
use Rattle.tile_surface.specs.declared.cell.Cell.TheVariants.{Blank}
use Rattle.tile_surface.specs.Cells.{cell_at, cell_pixels, picture_of, tile_pixel, tile_sides, IsTiled}

place_first : (w x y : ℕ) → 0 + (w * y + x) ≡ y * w + x
place_first w x y = rw (mul_comm w y) (omega arith)

column_at : (w x y : ℕ) → x < w → (0 + (w * y + x)) % w ≡ x
column_at w x y left = ap (λ n. n % w) (place_first w x y) ∙ mod-mul-add y w x left

row_at : (w x y : ℕ) → x < w → (0 + (w * y + x)) / w ≡ y
row_at w x y left = ap (λ n. n / w) (place_first w x y) ∙ div-mul-add y w x left

pub place_below : (w x y h : ℕ) → x < w → y < h → w * y + x < w * h
place_below w x y h left above = let more : w * (y + 1) ≤ w * h = grind (arith, above) in let step : w * (y + 1) ≡ w * y + w = grind arith in omega (arith, more, step, left)

-- the picture that tiles hold has a colour for each pixel, which is the tiles'
pub tiled_length : (size : Size) (cells : List Cell) → length (picture_of size cells) ≡ pixel_count size
unfolding picture_of
tiled_length size cells = length-listed (pixel_count size) 0 (λ k. tile_pixel cells (k % size.w) (k / size.w))

pub tiled_pixel : (size : Size) (cells : List Cell) (x y : ℕ) → x < size.w → y < size.h → pixel_at size (picture_of size cells) 0 x y ≡ tile_pixel cells x y
unfolding picture_of
tiled_pixel size cells x y left above =
    item-listed (pixel_count size) 0 (λ k. tile_pixel cells (k % size.w) (k / size.w)) (size.w * y + x) 0 (place_below size.w x y size.h left above)
    ∙ ap (λ c. tile_pixel cells c ((0 + (size.w * y + x)) / size.w)) (column_at size.w x y left)
    ∙ ap (λ r. tile_pixel cells x r) (row_at size.w x y left)

pub tiled_canvas : (size : Size) (cells : List Cell) → IsTiled size cells → IsCanvas size (picture_of size cells)
tiled_canvas size cells is = record { small = is.small; sized = tiled_length size cells }

pub same_length : (old new : List Cell) → map cell_pixels new ≡ map cell_pixels old → length new ≡ length old
same_length old new same = sym (length-map new cell_pixels) ∙ ap (λ (tiles : List (List ℕ)). length tiles) same ∙ length-map old cell_pixels

-- tiles of the same colours hold the same picture
pub same_cell : (old new : List Cell) (tile : ℕ) → map cell_pixels new ≡ map cell_pixels old → cell_pixels (cell_at new tile) ≡ cell_pixels (cell_at old tile)
same_cell old new tile same = sym (get_or-map cell_pixels new tile Blank) ∙ ap (λ (tiles : List (List ℕ)). get_or tiles tile (cell_pixels Blank)) same ∙ get_or-map cell_pixels old tile Blank

pub same_pixel : (old new : List Cell) (x y : ℕ) → map cell_pixels new ≡ map cell_pixels old → tile_pixel new x y ≡ tile_pixel old x y
same_pixel old new x y same = ap (λ (ps : List ℕ). pixel_at tile_sides ps 0 (x % 64) (y % 64)) (same_cell old new (tile_number x y) same)

pub same_picture : (size : Size) (old new : List Cell) → map cell_pixels new ≡ map cell_pixels old → picture_of size new ≡ picture_of size old
same_picture size old new same = same_pixels size (picture_of size new) (picture_of size old) 0 (tiled_length size new) (tiled_length size old)
    (λ x y left above. tiled_pixel size new x y left above ∙ same_pixel old new x y same ∙ sym (tiled_pixel size old x y left above))

-- a blank tile is black
black_item : (n k : ℕ) → get_or {A = ℕ} (replicate n 0) k 0 ≡ 0
black_item n k = elim (cases_lt k n) [
  | inl below ↦ get_or-replicate {A = ℕ} n k 0 0 below
  | inr past ↦ get_or_past (replicate n 0) k 0 (omega (arith, past, length-replicate {A = ℕ} n 0))
]

pub blank_pixel : (x y : ℕ) → pixel_at tile_sides (cell_pixels Blank) 0 x y ≡ 0
blank_pixel x y = item-get_or (replicate 4096 0) (64 * y + x) 0 ∙ black_item 4096 (64 * y + x)
