use Rattle.std.proofs.Common.{◌∙◌, ap}
use Rattle.tile_surface.specs.Cells.{cell_pixels}
use Rattle.tile_surface.proofs.PutBack.{put_back}
use Rattle.tile_surface.proofs.own.own_tile.Goals as goal

pub returns-clause-same : goal.returns-clause-same
returns-clause-same c = put_back cell_pixels c.args.cells.now c.args.tile c.replace-cell.new.dest c.owned-cell.result.0 _ c.requires.tile
    (c.owned-cell.ensures.same ∙ ap cell_pixels c.replace-cell.ensures.value)
