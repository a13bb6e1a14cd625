use Rattle.std.proofs.Common.{◌≡◌, replicate, ap, ◌∙◌, arith}
use Rattle.tile_surface.specs.declared.cell.Cell.TheVariants.{Blank}
use Rattle.tile_surface.proofs.tiles.blank_cells.Goals as goal

pub returns : goal.returns
returns c = let all : c.loop.counter ≡ 1024 = omega arith in c.loop.invariant ∙ ap (λ n. replicate n Blank) all
