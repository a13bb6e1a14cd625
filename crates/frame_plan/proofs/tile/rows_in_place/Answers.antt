use Rattle.std.proofs.Common.{◌∙◌, ap, sym}
use Rattle.frame_plan.specs.TileParts.{part_of_tile}
use Rattle.frame_plan.proofs.tile.rows_in_place.Goals as goal

pub returns-then-w-eq-TILE_SIDE-clause-pixels : goal.returns-then-w-eq-TILE_SIDE-clause-pixels
returns-then-w-eq-TILE_SIDE-clause-pixels c = c.first_rows.ensures ∙ ap (λ w. part_of_tile c.args.pixels.now w c.args.h) (sym c.if-w-eq-TILE_SIDE.true)
