use Rattle.px_core.specs.Rectangle.{in_clip}
use Rattle.surface_parts.proofs.Lines.{line_is, line_unseen}
use Rattle.surface_parts.proofs.line.draw_line.Goals as goal

pub returns-in-None : goal.returns-in-None
returns-in-None c = line_unseen c.args.window.size (in_clip c.args.window.clip) c.args.ends c.args.color c.args.pixels.now c.requires.canvas.sized (λ x y left above. c.in-None.ensures.pixels x y left above)

pub returns-in-Some : goal.returns-in-Some
returns-in-Some c = line_is c.args.window.size (in_clip c.args.window.clip) c.args.ends c.course_of.result c.args.color c.in-Some.part c.args.pixels.now c.draw_course.new.pixels c.requires.canvas.sized c.course_of.ensures.from
    (λ x y left above. c.in-Some.ensures.pixels x y left above) c.draw_course.ensures
