use Rattle.std.proofs.Common.{◌≡◌, ap, subst, sym, ◌∙◌, w32, to_z, of_z}
use Rattle.std.proofs.lemmas.Int.{to_z-of_z}
use Rattle.std.specs.Prelude.{pos, Some}
use Rattle.px_core.specs.Picture.{both, rows_of}
use Rattle.px_core.specs.Rectangle.{boxed, in_clip, in_rect}
use Rattle.rop3_core.specs.Palette.{session_colors}
use Rattle.draw_ops.specs.Content.{ImageOf}
use Rattle.draw_ops.specs.Drawing.{restoring}
use Rattle.draw_ops.specs.Formulas.{picture_after, replaced, imaged, shifted}
use Rattle.surface_parts.specs.Parts.{in_part}
use Rattle.surface_parts.specs.Textures.{texture_color}
use Rattle.surface_parts.proofs.Paintings.{over_rect_is, unseen}
use Rattle.tile_surface.specs.Cells.{picture_of}
use Rattle.tile_surface.specs.Ownership.{OwnsArea}
use Rattle.tile_surface.proofs.Owning.{keeps_self, owns_part}
use Rattle.tile_surface.proofs.Tiled.{tiled_length}
use Rattle.tile_surface.proofs.rects.paste_block.Goals as goal

pub paste_part-requires-clause-own : goal.paste_part-requires-clause-own
paste_part-requires-clause-own c = let b = c.block.inside in let r = boxed c.args.x c.args.y b.w b.h in
    let ex : to_z w32 (of_z w32 c.args.x) ≡ c.args.x = to_z-of_z w32 c.args.x c.ranges.x in
    let ey : to_z w32 (of_z w32 c.args.y) ≡ c.args.y = to_z-of_z w32 c.args.y c.ranges.y in
    owns_part c.args.window.size c.args.cells.now (both (in_clip c.args.window.clip) (in_rect r)) c.in-Some.part c.in-Some.ensures.inside
    (subst (λ (block : ImageOf). OwnsArea c.args.window.size c.args.cells.now (both (in_clip c.args.window.clip) (in_rect (boxed c.args.x c.args.y block.w block.h)))) (sym c.block.view_is) c.requires.own)
    (λ x y left above. simp (ex, ey) at (c.in-Some.ensures.pixels x y left above))

pub returns-in-None-clause-painted : goal.returns-in-None-clause-painted
returns-in-None-clause-painted c = let b = c.block.inside in let r = boxed c.args.x c.args.y b.w b.h in let size = c.args.window.size in let old = picture_of size c.args.cells.now in
    let ex : to_z w32 (of_z w32 c.args.x) ≡ c.args.x = to_z-of_z w32 c.args.x c.ranges.x in
    let ey : to_z w32 (of_z w32 c.args.y) ≡ c.args.y = to_z-of_z w32 c.args.y c.ranges.y in
    subst (λ (block : ImageOf). picture_of c.args.window.size c.args.cells.now ≡ picture_after c.args.window.size (in_clip c.args.window.clip) (restoring (Some block) c.args.x c.args.y) (picture_of c.args.window.size c.args.cells.now)) c.block.view_is
    (unseen size (in_clip c.args.window.clip) r (replaced (imaged session_colors (rows_of b.w b.h b.pixels.items) r (pos 0) (pos 0))) old (tiled_length size c.args.cells.now) (λ x y left above. simp (ex, ey) at (c.in-None.ensures.pixels x y left above)))

pub returns-in-None-clause-kept : goal.returns-in-None-clause-kept
returns-in-None-clause-kept c = keeps_self c.args.window.size c.args.cells.now

pub returns-in-Some-clause-painted : goal.returns-in-Some-clause-painted
returns-in-Some-clause-painted c = let b = c.block.inside in let r = boxed c.args.x c.args.y b.w b.h in let size = c.args.window.size in let old = picture_of size c.args.cells.now in
    let ex : to_z w32 (of_z w32 c.args.x) ≡ c.args.x = to_z-of_z w32 c.args.x c.ranges.x in
    let ey : to_z w32 (of_z w32 c.args.y) ≡ c.args.y = to_z-of_z w32 c.args.y c.ranges.y in let t = c.texture_of-texture.result in
    subst (λ (block : ImageOf). picture_of c.args.window.size c.paste_part.new.cells ≡ picture_after c.args.window.size (in_clip c.args.window.clip) (restoring (Some block) c.args.x c.args.y) (picture_of c.args.window.size c.args.cells.now)) c.block.view_is
    (over_rect_is size (in_clip c.args.window.clip) r (replaced (imaged session_colors (rows_of b.w b.h b.pixels.items) r (pos 0) (pos 0))) old (tiled_length size c.args.cells.now)
    (in_part c.in-Some.part) (texture_color c.in-Some.part t) (picture_of size c.paste_part.new.cells) c.paste_part.ensures.painted (λ x y left above. simp (ex, ey) at (c.in-Some.ensures.pixels x y left above))
    (λ x y left above h. simp (ex, ey) at (c.texture_of-texture.ensures.colors x y h) ∙ ap (λ ps. shifted (rows_of b.w b.h ps) 0 r (pos 0) (pos 0) (pos x) (pos y)) c.as_slice.ensures.value))
