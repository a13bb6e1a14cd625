use Rattle.std.proofs.Common.{◌≡◌, ◌≤◌, ◌<◌, ℕ, false}
use Rattle.px_core.specs.TileFlags.{tiles}
use Rattle.px_core.proofs.tile_set.TileSet.next.Given as goal

abbrev pub invariant-loop-tile : goal.invariant-loop-tile
invariant-loop-tile l = (t : ℕ) → l.from ≤ t → t < l.tile → tiles l.self t ≡ false
