use Rattle.std.proofs.Common.{ap, ◌∙◌, pos}
use Rattle.std.specs.Prelude.{◌&&◌}
use Rattle.px_core.specs.declared.rectangle.Rect.{Rect}
use Rattle.px_core.specs.Rectangle.{in_clip, in_rect}
use Rattle.surface_parts.proofs.Lines.{line_is, line_unseen}
use Rattle.tile_surface.specs.Cells.{picture_of}
use Rattle.tile_surface.proofs.Steps.{line_pixels_own}
use Rattle.tile_surface.proofs.Tiled.{tiled_length}
use Rattle.tile_surface.proofs.lines.draw_line.Goals as goal

pub draw_course-requires-clause-own : goal.draw_course-requires-clause-own
draw_course-requires-clause-own c = line_pixels_own c.args.window.size (in_clip c.args.window.clip) c.args.ends c.course_of.result c.args.cells.now c.course_of.ensures.from c.in-Some.part c.in-Some.ensures.inside
    (λ x y left above. c.in-Some.ensures.pixels x y left above ∙ ap (λ (r : Rect). in_clip c.args.window.clip (pos x) (pos y) && in_rect r (pos x) (pos y)) c.whole.ensures.whole) c.requires.own

pub returns-in-None-clause-painted : goal.returns-in-None-clause-painted
returns-in-None-clause-painted c = let size = c.args.window.size in line_unseen size (in_clip c.args.window.clip) c.args.ends c.args.color (picture_of size c.args.cells.now) (tiled_length size c.args.cells.now)
    (λ x y left above. c.in-None.ensures.pixels x y left above ∙ ap (λ (r : Rect). in_clip c.args.window.clip (pos x) (pos y) && in_rect r (pos x) (pos y)) c.whole.ensures.whole)

pub returns-in-Some-clause-painted : goal.returns-in-Some-clause-painted
returns-in-Some-clause-painted c = let size = c.args.window.size in
    line_is size (in_clip c.args.window.clip) c.args.ends c.course_of.result c.args.color c.in-Some.part (picture_of size c.args.cells.now) (picture_of size c.draw_course.new.cells) (tiled_length size c.args.cells.now) c.course_of.ensures.from
    (λ x y left above. c.in-Some.ensures.pixels x y left above ∙ ap (λ (r : Rect). in_clip c.args.window.clip (pos x) (pos y) && in_rect r (pos x) (pos y)) c.whole.ensures.whole) c.draw_course.ensures.painted
