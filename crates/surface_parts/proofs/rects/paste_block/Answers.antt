use Rattle.std.proofs.Common.{◌≡◌, ap, subst, sym, ◌∙◌, w32, to_z, of_z}
use Rattle.std.proofs.lemmas.Int.{to_z-of_z}
use Rattle.std.specs.Prelude.{ℤ, pos, Some, IsTrue}
use Rattle.px_core.specs.Picture.{rows_of}
use Rattle.px_core.specs.Rectangle.{boxed, in_clip, is_inside, IsPlaced}
use Rattle.rop3_core.specs.Palette.{session_colors}
use Rattle.draw_ops.specs.Content.{ImageOf}
use Rattle.draw_ops.specs.Drawing.{restoring}
use Rattle.draw_ops.specs.Formulas.{picture_after, replaced, imaged, shifted}
use Rattle.surface_parts.specs.Parts.{in_part}
use Rattle.surface_parts.specs.Textures.{texture_color}
use Rattle.surface_parts.proofs.Paintings.{over_rect_is, unseen}
use Rattle.surface_parts.proofs.Rules.{inside_placed}
use Rattle.surface_parts.proofs.rects.paste_block.Goals as goal

pub texture_of-texture-requires-clause-placed : goal.texture_of-texture-requires-clause-placed
texture_of-texture-requires-clause-placed c = let b = c.block.inside in let size = c.args.window.size in
    let ex : to_z w32 (of_z w32 c.args.x) ≡ c.args.x = to_z-of_z w32 c.args.x c.ranges.x in
    let ey : to_z w32 (of_z w32 c.args.y) ≡ c.args.y = to_z-of_z w32 c.args.y c.ranges.y in
    let inside = subst (λ (block : ImageOf). IsTrue (is_inside size (boxed c.args.x c.args.y block.w block.h))) (sym c.block.view_is) c.requires.block.inside in
    subst (λ (z : ℤ). IsPlaced (boxed z (to_z w32 (of_z w32 c.args.y)) b.w b.h)) (sym ex)
    (subst (λ (z : ℤ). IsPlaced (boxed c.args.x z b.w b.h)) (sym ey)
    (inside_placed size (boxed c.args.x c.args.y b.w b.h) c.requires.canvas.small.wide c.requires.canvas.small.high inside))

pub returns-in-None : goal.returns-in-None
returns-in-None c = let b = c.block.inside in let r = boxed c.args.x c.args.y b.w b.h in
    let ex : to_z w32 (of_z w32 c.args.x) ≡ c.args.x = to_z-of_z w32 c.args.x c.ranges.x in
    let ey : to_z w32 (of_z w32 c.args.y) ≡ c.args.y = to_z-of_z w32 c.args.y c.ranges.y in
    subst (λ (block : ImageOf). c.args.pixels.now ≡ picture_after c.args.window.size (in_clip c.args.window.clip) (restoring (Some block) c.args.x c.args.y) c.args.pixels.now) c.block.view_is
    (unseen c.args.window.size (in_clip c.args.window.clip) r (replaced (imaged session_colors (rows_of b.w b.h b.pixels.items) r (pos 0) (pos 0))) c.args.pixels.now c.requires.canvas.sized (λ x y left above. simp (ex, ey) at (c.in-None.ensures.pixels x y left above)))

pub returns-in-Some : goal.returns-in-Some
returns-in-Some c = let b = c.block.inside in let r = boxed c.args.x c.args.y b.w b.h in
    let ex : to_z w32 (of_z w32 c.args.x) ≡ c.args.x = to_z-of_z w32 c.args.x c.ranges.x in
    let ey : to_z w32 (of_z w32 c.args.y) ≡ c.args.y = to_z-of_z w32 c.args.y c.ranges.y in let t = c.texture_of-texture.result in
    subst (λ (block : ImageOf). c.paste_part.new.pixels ≡ picture_after c.args.window.size (in_clip c.args.window.clip) (restoring (Some block) c.args.x c.args.y) c.args.pixels.now) c.block.view_is
    (over_rect_is c.args.window.size (in_clip c.args.window.clip) r (replaced (imaged session_colors (rows_of b.w b.h b.pixels.items) r (pos 0) (pos 0))) c.args.pixels.now c.requires.canvas.sized
    (in_part c.in-Some.part) (texture_color c.in-Some.part t) c.paste_part.new.pixels c.paste_part.ensures (λ x y left above. simp (ex, ey) at (c.in-Some.ensures.pixels x y left above))
    (λ x y left above h. simp (ex, ey) at (c.texture_of-texture.ensures.colors x y h) ∙ ap (λ ps. shifted (rows_of b.w b.h ps) 0 r (pos 0) (pos 0) (pos x) (pos y)) c.as_slice.ensures.value))
