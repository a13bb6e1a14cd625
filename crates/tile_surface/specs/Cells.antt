-- Pictures that are kept as tiles of 64 by 64 pixels, each in a cell of its own.
use Rattle.std.specs.Prelude.{◌≡◌, ℕ, ◌/◌, ◌%◌, List, length, get_or, replicate}
use Rattle.px_core.specs.declared.surface.Size.{Size}
use Rattle.px_core.specs.Picture.{listed, pixel_at, pixel_count}
use Rattle.px_core.specs.Tiles.{tile_number}
use Rattle.surface_parts.specs.Parts.{IsSmall}
use Rattle.tile_surface.specs.declared.cell.Cell.{Cell}
use Rattle.tile_surface.specs.declared.cell.Cell.TheVariants.{Blank, Own, Shared}

-- the sides of a tile
abbrev pub tile_sides : Size
tile_sides = record { w = 64; h = 64 }

-- the colours of the tile in a cell, row by row from the top
abbrev pub cell_pixels : Cell → List ℕ
cell_pixels Blank = replicate 4096 0
cell_pixels (Own tile) = tile
cell_pixels (Shared lent) = lent

-- the cell of a tile; past the last one a blank cell
abbrev pub cell_at : List Cell → ℕ → Cell
cell_at cells tile = get_or cells tile Blank

-- pixel (x, y) of the tiles
abbrev pub tile_pixel : List Cell → ℕ → ℕ → ℕ
tile_pixel cells x y = pixel_at tile_sides (cell_pixels (cell_at cells (tile_number x y))) 0 (x % 64) (y % 64)

-- the picture that the tiles hold
unfoldable pub picture_of : Size → List Cell → List ℕ
picture_of size cells = listed (pixel_count size) 0 (λ k. tile_pixel cells (k % size.w) (k / size.w))

-- there is a cell for each tile of the greatest picture, and a picture is no greater
pub record IsTiled (size : Size) (cells : List Cell) : Type 0 where
  pub small : IsSmall size
  pub sized : length cells ≡ 1024
