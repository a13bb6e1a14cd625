use Rattle.std.proofs.Common.{◌+◌, ◌-◌, sym, ap, ◌∙◌}
use Rattle.px_core.specs.Picture.{pixel_at}
use Rattle.surface_parts.specs.Parts.{in_part}
use Rattle.tile_surface.specs.declared.cell.Cell.{Cell}
use Rattle.tile_surface.specs.Cells.{cell_pixels, tile_sides}
use Rattle.tile_surface.proofs.Pasted.{painted_alike}
use Rattle.tile_surface.proofs.Tiled.{blank_pixel}
use Rattle.tile_surface.proofs.cell.Cell.cut.Goals as goal

pub returns-in-Blank : goal.returns-in-Blank
returns-in-Blank c = let x = c.args.x in let y = c.args.y in let s = c.args.spot in
    painted_alike c.args.sides (in_part s) (λ u v. 0) (λ u v. pixel_at tile_sides (cell_pixels c.args.self.now) 0 (x + (u - s.x)) (y + (v - s.y))) c.args.out.now c.clear_part.new.pixels c.clear_part.ensures
    (λ u v left above h. sym (blank_pixel (x + (u - s.x)) (y + (v - s.y))) ∙ ap (λ (cell : Cell). pixel_at tile_sides (cell_pixels cell) 0 (x + (u - s.x)) (y + (v - s.y))) (sym c.in-Blank.is))
