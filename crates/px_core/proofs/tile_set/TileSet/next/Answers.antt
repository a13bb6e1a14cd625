use Rattle.std.proofs.Common.{rules, arith}
use Rattle.px_core.proofs.tile_set.TileSet.next.Goals as goal
use Rattle.std.proofs.lemmas.Grind.{common_steps}

pub loop-tile-init : goal.loop-tile-init
loop-tile-init c = search rules

pub returns : goal.returns
returns c = grind (arith, common_steps)
