use Rattle.std.proofs.Common.{◌≡◌, rules}
use Rattle.std.specs.Prelude.{true, ◌&&◌, not}
use Rattle.px_core.specs.Rectangle.{whole}
use Rattle.px_core.specs.Tiles.{either_tiles, tiles_of}
use Rattle.px_core.specs.TileFlags.{tiles}
use Rattle.frame_plan.proofs.PlannedBy.{dirty_at_first}
use Rattle.frame_plan.proofs.walk.first_dirty.Goals as goal

pub returns-then-is_unknown : goal.returns-then-is_unknown
returns-then-is_unknown c =
    let unknown : (c.args.first && not c.args.confirmed.now.pat) ≡ true = search rules in
    let all : tiles c.add.new.self ≡ either_tiles (tiles c.none-dirty.result) (tiles_of c.args.size (whole c.args.size)) = search rules in
    dirty_at_first c.args.size c.args.first c.args.confirmed.now (tiles c.none-dirty.result) (tiles c.add.new.self) unknown c.none-dirty.ensures all
