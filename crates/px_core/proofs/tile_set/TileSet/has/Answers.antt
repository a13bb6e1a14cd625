use Rattle.std.proofs.Common.{arith}
use Rattle.std.proofs.lemmas.Grind.{common_steps}
use Rattle.px_core.proofs.tile_set.TileSet.has.Goals as goal

pub returns-else-tile-lt-TILES : goal.returns-else-tile-lt-TILES
returns-else-tile-lt-TILES c = grind (arith, common_steps)
