-- Parts whose pixels get new colours by their places and by what they were, piece by piece.
use Rattle.std.specs.Prelude.{◌≡◌, ℕ, ◌+◌, ◌-◌, ◌%◌, ◌≤◌, List}
use Rattle.px_core.specs.declared.surface.Size.{Size}
use Rattle.px_core.specs.Picture.{pixel_at}
use Rattle.surface_parts.specs.declared.part.Part.{Part}
use Rattle.surface_parts.specs.Parts.{IsInside}
use Rattle.tile_surface.specs.declared.walk.Piece.{Piece}
use Rattle.tile_surface.specs.Cells.{tile_sides}

-- the new colour of a pixel, by its column, its row and what it was
abbrev pub Color : Type 0
Color = ℕ → ℕ → ℕ → ℕ

-- the new colour of a pixel of a picture
abbrev pub dyed : Color → Size → List ℕ → ℕ → ℕ → ℕ
dyed color size old x y = color x y (pixel_at size old 0 x y)

-- the new colour of a pixel of a tile, in which a piece of the picture lies
abbrev pub dyed_there : Color → Piece → List ℕ → ℕ → ℕ → ℕ
dyed_there color piece old u v = color (piece.x + (u - piece.spot.x)) (piece.y + (v - piece.spot.y)) (pixel_at tile_sides old 0 u v)

-- a piece of a part, and its spot in a tile
pub record IsPieceOf (part : Part) (piece : Piece) : Type 0 where
  pub left : part.x ≤ piece.x
  pub right : piece.x + piece.spot.w ≤ part.x + part.w
  pub top : part.y ≤ piece.y
  pub bottom : piece.y + piece.spot.h ≤ part.y + part.h
  pub column : piece.spot.x ≡ piece.x % 64
  pub row : piece.spot.y ≡ piece.y % 64
  pub inside : IsInside tile_sides piece.spot

-- some rows of a part
pub record IsBandOf (part band : Part) : Type 0 where
  pub left : band.x ≡ part.x
  pub wide : band.w ≡ part.w
  pub top : part.y ≤ band.y
  pub bottom : band.y + band.h ≤ part.y + part.h
