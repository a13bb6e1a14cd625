use Rattle.std.proofs.Common.{refl, arith}
use Rattle.tile_surface.specs.Cells.{tile_sides}
use Rattle.frame_plan.proofs.TileParts.{rows_in_place}
use Rattle.frame_plan.proofs.tile.first_rows.Goals as goal

pub returns : goal.returns
returns c = rows_in_place tile_sides c.args.pixels.now 64 c.args.h _ refl c.requires.high (omega arith) (omega (arith, c.requires.sized, c.requires.high))
