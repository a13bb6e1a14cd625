use Rattle.std.proofs.Common.{ap, ◌∙◌}
use Rattle.std.specs.Prelude.{pos}
use Rattle.px_core.specs.Rectangle.{in_rect}
use Rattle.px_core.specs.Tiles.{tile_rect}
use Rattle.px_core.proofs.TilePixels.{tile_has_pixel, pixel_has_tile, tile_of_pixel, pixel_of_tile}
use Rattle.px_core.proofs.laws.tiles_are_of_pixels.Goals as goal

pub returns : goal.returns
returns c = record {
  tiles = λ size r tile. (tile_has_pixel size r tile, pixel_has_tile size r tile);
  tile = λ x y tile left. (tile_of_pixel x y tile, λ e. ap (λ t. in_rect (tile_rect t) (pos x) (pos y)) e ∙ pixel_of_tile x y left);
}
