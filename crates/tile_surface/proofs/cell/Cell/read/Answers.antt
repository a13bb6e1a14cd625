use Rattle.std.proofs.Common.{ℕ, ◌+◌, List, length, get_or, ap, sym, ◌∙◌}
use Rattle.std.proofs.lemmas.List.{get_or-replicate}
use Rattle.px_core.specs.Picture.{pixel_at}
use Rattle.tile_surface.specs.declared.cell.Cell.{Cell}
use Rattle.tile_surface.specs.Cells.{cell_pixels, tile_sides}
use Rattle.tile_surface.proofs.Tiled.{blank_pixel}
use Rattle.tile_surface.proofs.cell.Cell.read.Goals as goal

pub returns-in-Blank : goal.returns-in-Blank
returns-in-Blank c = λ k below.
    ap (λ (xs : List ℕ). get_or xs k 0) (c.fill.ensures.after (λ v e. e)) ∙ get_or-replicate (length c.args.out.now) k 0 0 below
    ∙ sym (blank_pixel (c.args.x + k) c.args.y)
    ∙ ap (λ (cell : Cell). pixel_at tile_sides (cell_pixels cell) 0 (c.args.x + k) c.args.y) (sym c.in-Blank.is)
