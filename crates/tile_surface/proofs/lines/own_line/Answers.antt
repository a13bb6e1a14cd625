use Rattle.std.proofs.Common.{ap, ◌∙◌, pos}
use Rattle.std.specs.Prelude.{◌&&◌}
use Rattle.std.proofs.lemmas.Result.{on_ok_weaker}
use Rattle.px_core.specs.declared.rectangle.Rect.{Rect}
use Rattle.px_core.specs.Rectangle.{in_clip, in_rect}
use Rattle.draw_ops.specs.Formulas.{line_area}
use Rattle.tile_surface.proofs.Steps.{line_owned, none_owned}
use Rattle.tile_surface.proofs.lines.own_line.Goals as goal

pub returns-in-None-clause-own : goal.returns-in-None-clause-own
returns-in-None-clause-own c = let e = c.args.ends in none_owned c.args.window.size (in_clip c.args.window.clip) (line_area e.x0 e.y0 e.x1 e.y1) c.args.cells.now
    (λ x y left above. c.in-None.ensures.pixels x y left above ∙ ap (λ (r : Rect). in_clip c.args.window.clip (pos x) (pos y) && in_rect r (pos x) (pos y)) c.whole.ensures.whole)

pub returns-in-Some-clause-own : goal.returns-in-Some-clause-own
returns-in-Some-clause-own c = on_ok_weaker c.own_course.result
    (line_owned c.args.window.size (in_clip c.args.window.clip) c.args.ends c.course_of.result c.own_course.new.cells c.course_of.ensures.from c.in-Some.part
    (λ x y left above. c.in-Some.ensures.pixels x y left above ∙ ap (λ (r : Rect). in_clip c.args.window.clip (pos x) (pos y) && in_rect r (pos x) (pos y)) c.whole.ensures.whole))
    c.own_course.ensures.own
