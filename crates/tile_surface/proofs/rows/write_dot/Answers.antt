use Rattle.tile_surface.proofs.Writings.{dot_written}
use Rattle.tile_surface.proofs.rows.write_dot.Goals as goal

pub returns-clause-painted : goal.returns-clause-painted
returns-clause-painted c = dot_written c.args.size c.args.cells.now _ c.write.new.self c.args.x c.args.y c.tile_number-tile.result c.args.color c.requires.tiled c.requires.column c.requires.row c.tile_number-tile.ensures.number
    c.write.ensures.painted
