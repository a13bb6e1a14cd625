use Rattle.std.proofs.Common.{◌≡◌, ap, sym, ◌∙◌, w32, to_z, of_z}
use Rattle.std.specs.Prelude.{Some, option_copied}
use Rattle.std.proofs.lemmas.Int.{to_z-of_z}
use Rattle.px_core.specs.Rectangle.{in_clip}
use Rattle.draw_ops.specs.Drawing.{restoring}
use Rattle.draw_ops.specs.Formulas.{picture_after}
use Rattle.surface_parts.proofs.Paintings.{nothing_is}
use Rattle.surface_parts.proofs.rects.restore_block.Goals as goal

pub returns-in-None : goal.returns-in-None
returns-in-None c = nothing_is c.args.window.size (in_clip c.args.window.clip) c.args.pixels.now c.requires.canvas.sized
    ∙ ap (λ o. picture_after c.args.window.size (in_clip c.args.window.clip) (restoring (option_copied o) c.args.x c.args.y) c.args.pixels.now) (sym c.in-None.is)

pub returns-in-Some : goal.returns-in-Some
returns-in-Some c =
    let ex : to_z w32 (of_z w32 c.args.x) ≡ c.args.x = to_z-of_z w32 c.args.x c.ranges.x in
    let ey : to_z w32 (of_z w32 c.args.y) ≡ c.args.y = to_z-of_z w32 c.args.y c.ranges.y in
    let made : c.paste_block.new.pixels ≡ picture_after c.args.window.size (in_clip c.args.window.clip) (restoring (Some c.in-Some.block.now) (to_z w32 (of_z w32 c.args.x)) (to_z w32 (of_z w32 c.args.y))) c.args.pixels.now = c.paste_block.ensures in
    made
    ∙ ap (λ z. picture_after c.args.window.size (in_clip c.args.window.clip) (restoring (Some c.in-Some.block.now) z (to_z w32 (of_z w32 c.args.y))) c.args.pixels.now) ex
    ∙ ap (λ z. picture_after c.args.window.size (in_clip c.args.window.clip) (restoring (Some c.in-Some.block.now) c.args.x z) c.args.pixels.now) ey
    ∙ ap (λ o. picture_after c.args.window.size (in_clip c.args.window.clip) (restoring (option_copied o) c.args.x c.args.y) c.args.pixels.now) (sym c.in-Some.is)
