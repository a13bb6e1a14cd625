use Rattle.std.proofs.Common.{refl}
use Rattle.px_core.specs.Picture.{both}
use Rattle.px_core.specs.Rectangle.{in_clip, in_rect}
use Rattle.rop3_core.specs.Palette.{session_colors}
use Rattle.draw_ops.specs.Formulas.{solid}
use Rattle.surface_parts.specs.Parts.{in_part}
use Rattle.surface_parts.proofs.Paintings.{over_rect_is, unseen}
use Rattle.tile_surface.specs.Cells.{picture_of}
use Rattle.tile_surface.proofs.Owning.{keeps_self, owns_part}
use Rattle.tile_surface.proofs.Tiled.{tiled_length}
use Rattle.tile_surface.proofs.rects.fill_rect.Goals as goal

pub fill_part-requires-clause-own : goal.fill_part-requires-clause-own
fill_part-requires-clause-own c = owns_part c.args.window.size c.args.cells.now (both (in_clip c.args.window.clip) (in_rect c.args.rect)) c.in-Some.part c.in-Some.ensures.inside c.requires.own
    (λ x y left above. c.in-Some.ensures.pixels x y left above)

pub returns-in-Some-clause-painted : goal.returns-in-Some-clause-painted
returns-in-Some-clause-painted c = let size = c.args.window.size in let old = c.args.cells.now in
    over_rect_is size (in_clip c.args.window.clip) c.args.rect (solid session_colors c.args.color) (picture_of size old) (tiled_length size old)
    (in_part c.in-Some.part) (λ x y. c.args.color) (picture_of size c.fill_part.new.cells) c.fill_part.ensures.painted (λ x y left above. c.in-Some.ensures.pixels x y left above) (λ x y left above h. refl)

pub returns-in-None-clause-painted : goal.returns-in-None-clause-painted
returns-in-None-clause-painted c = let size = c.args.window.size in let old = c.args.cells.now in
    unseen size (in_clip c.args.window.clip) c.args.rect (solid session_colors c.args.color) (picture_of size old) (tiled_length size old) (λ x y left above. c.in-None.ensures.pixels x y left above)

pub returns-in-None-clause-kept : goal.returns-in-None-clause-kept
returns-in-None-clause-kept c = keeps_self c.args.window.size c.args.cells.now
