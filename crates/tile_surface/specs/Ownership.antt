-- Tiles that only the surface has, into which alone it writes.
use Rattle.std.specs.Prelude.{◌≡◌, ℕ, ◌<◌, Bool, ◌||◌, nat_le, pos, List, length, IsTrue}
use Rattle.px_core.specs.declared.surface.Size.{Size}
use Rattle.px_core.specs.Picture.{Area}
use Rattle.px_core.specs.Tiles.{tile_number}
use Rattle.surface_parts.specs.declared.part.Part.{Part}
use Rattle.surface_parts.specs.Parts.{in_part}
use Rattle.tile_surface.specs.declared.cell.Cell.{Cell}
use Rattle.tile_surface.specs.declared.cell.Cell.TheVariants.{Blank, Own, Shared}
use Rattle.tile_surface.specs.Cells.{cell_at, tile_pixel}

-- the tile is in a box of the surface's own
abbrev pub IsOwn : Cell → Type 0
IsOwn Blank = ⊥
IsOwn (Own tile) = Unit {0}
IsOwn (Shared shared) = ⊥

-- the tile of pixel (x, y) is the surface's own
abbrev pub IsOwnAt : List Cell → ℕ → ℕ → Type 0
IsOwnAt cells x y = IsOwn (cell_at cells (tile_number x y))

-- each tile of a part is the surface's own
pub record OwnsPart (cells : List Cell) (part : Part) : Type 0 where
  pub own : (x y : ℕ) → IsTrue (in_part part x y) → IsOwnAt cells x y

-- each tile with a pixel of an area on the picture is the surface's own
pub record OwnsArea (size : Size) (cells : List Cell) (area : Area) : Type 0 where
  pub own : (x y : ℕ) → x < size.w → y < size.h → IsTrue (area (pos x) (pos y)) → IsOwnAt cells x y

-- as many cells, and a tile that was the surface's own is so still
pub record StaysOwn (old new : List Cell) : Type 0 where
  pub sized : length new ≡ length old
  pub own : (tile : ℕ) → IsOwn (cell_at old tile) → IsOwn (cell_at new tile)

-- whether a pixel of the tiles lies past the picture
abbrev pub is_past : Size → ℕ → ℕ → Bool
is_past size x y = nat_le size.w x || nat_le size.h y

-- what a drawing on the picture leaves as it was: which tiles are the surface's own, and the pixels past the picture
pub record KeepsRest (size : Size) (old new : List Cell) : Type 0 where
  pub own : StaysOwn old new
  pub past : (x y : ℕ) → x < 2048 → y < 2048 → IsTrue (is_past size x y) → tile_pixel new x y ≡ tile_pixel old x y

-- the pixels past the picture are black
pub record IsBlackPast (size : Size) (cells : List Cell) : Type 0 where
  pub black : (x y : ℕ) → x < 2048 → y < 2048 → IsTrue (is_past size x y) → tile_pixel cells x y ≡ 0
