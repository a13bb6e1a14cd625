-- A client's picture in the course of a frame: it shows the session's picture, each colour as it is shown at the client's depth, but for the dirty tiles.
use Rattle.std.specs.Prelude.{◌≡◌, ℕ, ◌<◌, ◌/◌, ◌%◌, false, pos, List, [], ◌∷◌, length, Option, None}
use Rattle.px_core.specs.declared.depth.Depth.{Depth}
use Rattle.px_core.specs.declared.surface.Size.{Size}
use Rattle.px_core.specs.Depth.{seen, shown_colors}
use Rattle.px_core.specs.declared.rectangle.Rect.{Rect}
use Rattle.px_core.specs.Picture.{pixel_count, item, rows_of, painted}
use Rattle.px_core.specs.Rectangle.{in_rect, cut_out}
use Rattle.px_core.specs.Tiles.{Tiles, tile_number, tile_on}
use Rattle.rop3_core.specs.Palette.{client_colors}
use Rattle.draw_ops.specs.Formulas.{replaced, imaged}

-- the tile of the pixel at a place of a picture
abbrev pub tile_of_place : Size → ℕ → ℕ
tile_of_place size i = tile_number (i % size.w) (i / size.w)

-- each pixel whose tile isn't dirty is known, and is the session's as it is shown
pub record ShowsOutside (depth : Depth) (size : Size) (dirty : Tiles) (canvas : List (Option ℕ)) (picture : List ℕ) : Type 0 where
  pub canvas_length : length canvas ≡ pixel_count size
  pub picture_length : length picture ≡ pixel_count size
  pub pixels : (i : ℕ) → i < pixel_count size → dirty (tile_of_place size i) ≡ false → item canvas i None ≡ seen depth (item picture i 0)

-- a client's picture after a rectangle that is cut out of the session's
abbrev pub canvas_after_cut : Depth → Size → List ℕ → Rect → List (Option ℕ) → List (Option ℕ)
canvas_after_cut depth size picture r canvas =
    painted size (in_rect r) (replaced (imaged client_colors (rows_of r.w r.h (shown_colors depth (cut_out size picture 0 r))) r (pos 0) (pos 0))) canvas

-- a client's picture after tiles, one after the other
abbrev pub canvas_after_tiles : Depth → Size → List ℕ → List ℕ → List (Option ℕ) → List (Option ℕ)
canvas_after_tiles depth size picture [] canvas = canvas
canvas_after_tiles depth size picture (t ∷ ts) canvas = canvas_after_tiles depth size picture ts (canvas_after_cut depth size picture (tile_on size t) canvas)
