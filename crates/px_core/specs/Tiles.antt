-- Tiles: squares of 64 by 64 pixels that a picture is cut into, numbered row by row, 32 to a row (profile).
use Rattle.std.specs.Prelude.{ℕ, ◌+◌, ◌*◌, ◌/◌, ◌%◌, ◌<◌, IsTrue, Bool, true, false, ◌&&◌, ◌||◌, pos, List, [], ◌∷◌, filter}
use Rattle.px_core.specs.declared.surface.Size.{Size}
use Rattle.px_core.specs.declared.rectangle.Rect.{Rect}
use Rattle.px_core.specs.Picture.{listed}
use Rattle.px_core.specs.Rectangle.{boxed, in_rect, common, has_pixel, whole}

-- a set of tiles, by their numbers
abbrev pub Tiles : Type 0
Tiles = ℕ → Bool

abbrev pub no_tiles : Tiles
no_tiles tile = false

abbrev pub all_tiles : Tiles
all_tiles tile = true

abbrev pub either_tiles : Tiles → Tiles → Tiles
either_tiles a b tile = a tile || b tile

-- the pixels of a tile
abbrev pub tile_rect : ℕ → Rect
tile_rect tile = boxed (pos (64 * (tile % 32))) (pos (64 * (tile / 32))) 64 64

-- the part of a tile that lies on a picture
abbrev pub tile_on : Size → ℕ → Rect
tile_on size tile = common (tile_rect tile) (whole size)

-- the tile of pixel (x, y)
abbrev pub tile_number : ℕ → ℕ → ℕ
tile_number x y = 32 * (y / 64) + x / 64

-- the tiles with a pixel of the rectangle on the picture
abbrev pub tiles_of : Size → Rect → Tiles
tiles_of size r tile = has_pixel (common (tile_rect tile) (common r (whole size)))

-- one of a tile's pixels is a pixel of the rectangle on the picture
abbrev pub HasPixelIn : Size → Rect → ℕ → Type 0
HasPixelIn size r tile =
    (x : ℕ) × (y : ℕ) × (x < size.w) × (y < size.h) × IsTrue (in_rect (tile_rect tile) (pos x) (pos y)) × IsTrue (in_rect r (pos x) (pos y))

-- the tiles of a picture, by ascending number
abbrev pub picture_tiles : Size → List ℕ
picture_tiles size = filter (tiles_of size (whole size)) (listed (32 * ((size.h + 63) / 64)) 0 (λ tile. tile))

-- the tiles of a set that lie on a picture, by ascending number
abbrev pub tiles_in : Size → Tiles → List ℕ
tiles_in size tiles = filter tiles (picture_tiles size)

abbrev pub any_shared : List ℕ → Tiles → Tiles → Bool
any_shared [] a b = false
any_shared (t ∷ ts) a b = (a t && b t) || any_shared ts a b

-- whether two sets have a common tile on the picture
abbrev pub share_tile : Size → Tiles → Tiles → Bool
share_tile size a b = any_shared (picture_tiles size) a b
