use Rattle.std.proofs.Common.{ap}
use Rattle.px_core.specs.Tiles.{Tiles}
use Rattle.px_core.proofs.TileFlags.{none_in}
use Rattle.px_core.proofs.tile_set.TileSet.none.Goals as goal

pub returns : goal.returns
returns c = none_in 1024

pub invariant_of-result : goal.invariant_of-result
invariant_of-result c = λ tile low. ap (λ (set : Tiles). set tile) (none_in 1024)
