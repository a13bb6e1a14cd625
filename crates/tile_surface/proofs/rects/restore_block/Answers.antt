use Rattle.std.proofs.Common.{◌≡◌, ap, sym, ◌∙◌, w32, to_z, of_z}
use Rattle.std.specs.Prelude.{Some, option_copied}
use Rattle.std.proofs.lemmas.Int.{to_z-of_z}
use Rattle.px_core.specs.Rectangle.{in_clip}
use Rattle.draw_ops.specs.Drawing.{restoring}
use Rattle.draw_ops.specs.Formulas.{picture_after}
use Rattle.surface_parts.proofs.Paintings.{nothing_is}
use Rattle.tile_surface.specs.Cells.{picture_of}
use Rattle.tile_surface.proofs.Owning.{keeps_self}
use Rattle.tile_surface.proofs.Tiled.{tiled_length}
use Rattle.tile_surface.proofs.rects.restore_block.Goals as goal

pub returns-in-None-clause-painted : goal.returns-in-None-clause-painted
returns-in-None-clause-painted c = let size = c.args.window.size in let old = picture_of size c.args.cells.now in
    nothing_is size (in_clip c.args.window.clip) old (tiled_length size c.args.cells.now)
    ∙ ap (λ o. picture_after size (in_clip c.args.window.clip) (restoring (option_copied o) c.args.x c.args.y) old) (sym c.in-None.is)

pub returns-in-None-clause-kept : goal.returns-in-None-clause-kept
returns-in-None-clause-kept c = keeps_self c.args.window.size c.args.cells.now

pub returns-in-Some-clause-painted : goal.returns-in-Some-clause-painted
returns-in-Some-clause-painted c = let size = c.args.window.size in let old = picture_of size c.args.cells.now in
    let ex : to_z w32 (of_z w32 c.args.x) ≡ c.args.x = to_z-of_z w32 c.args.x c.ranges.x in
    let ey : to_z w32 (of_z w32 c.args.y) ≡ c.args.y = to_z-of_z w32 c.args.y c.ranges.y in
    let made : picture_of size c.paste_block.new.cells ≡ picture_after size (in_clip c.args.window.clip) (restoring (Some c.in-Some.block.now) (to_z w32 (of_z w32 c.args.x)) (to_z w32 (of_z w32 c.args.y))) old = c.paste_block.ensures.painted in
    made
    ∙ ap (λ z. picture_after size (in_clip c.args.window.clip) (restoring (Some c.in-Some.block.now) z (to_z w32 (of_z w32 c.args.y))) old) ex
    ∙ ap (λ z. picture_after size (in_clip c.args.window.clip) (restoring (Some c.in-Some.block.now) c.args.x z) old) ey
    ∙ ap (λ o. picture_after size (in_clip c.args.window.clip) (restoring (option_copied o) c.args.x c.args.y) old) (sym c.in-Some.is)
