use Rattle.std.proofs.Common.{◌≡◌, ℕ, ◌+◌, ◌≤◌, ap, ◌∙◌, subst, sym, arith}
use Rattle.std.specs.Prelude.{◌&&◌}
use Rattle.surface_parts.specs.Courses.{apart, step, rise, is_course_pixel, is_dot}
use Rattle.surface_parts.specs.Parts.{in_part, IsRepainted}
use Rattle.surface_parts.proofs.Dots.{one_more_step}
use Rattle.surface_parts.proofs.SeenSteps.{painted_before, painted_whole}
use Rattle.tile_surface.specs.Cells.{picture_of}
use Rattle.tile_surface.specs.Needed.{OwnsPixels}
use Rattle.tile_surface.proofs.Owning.{keeps_self, keeps_twice}
use Rattle.tile_surface.proofs.Steps.{pixels_still, step_is_own}
use Rattle.tile_surface.proofs.lines.draw_course.Goals as goal

pub draw_dot-requires-clause-own : goal.draw_dot-requires-clause-own
draw_dot-requires-clause-own c = let k = c.args.course in let p = c.args.part in let i = c.loop-i.i in let cur = c.loop-i.cells in
    let within : i ≤ apart k.from_u k.to_u = omega (arith, c.steps_in-steps.ensures.within) in
    let eu : c.towards-u.result ≡ step k.from_u k.to_u i = c.towards-u.ensures.step in
    let ev : c.towards-v.result ≡ step k.from_v k.to_v (rise k i) = c.towards-v.ensures.step ∙ ap (step k.from_v k.to_v) c.risen.ensures.rise in
    subst (λ (u : ℕ). OwnsPixels cur (λ x y. in_part p x y && is_dot k.is_steep u c.towards-v.result x y)) (sym eu)
    (subst (λ (v : ℕ). OwnsPixels cur (λ x y. in_part p x y && is_dot k.is_steep (step k.from_u k.to_u i) v x y)) (sym ev)
    (step_is_own cur p k i within (pixels_still c.args.cells.now cur (λ x y. in_part p x y && is_course_pixel k (apart k.from_u k.to_u + 1) x y) c.loop-i.invariant.kept.own c.requires.own)))

pub loop-i-init : goal.loop-i-init
loop-i-init c = record {
  painted = painted_before c.args.size c.args.part c.args.course c.args.color c.steps_in-steps.result c.steps_in-steps.ensures.seen (picture_of c.args.size c.args.cells.now);
  kept = keeps_self c.args.size c.args.cells.now;
}

pub returns-clause-painted : goal.returns-clause-painted
returns-clause-painted c = let size = c.args.size in
    painted_whole size c.args.part c.args.course c.args.color c.steps_in-steps.result c.steps_in-steps.ensures.seen c.loop-i.i (picture_of size c.args.cells.now) (picture_of size c.loop-i.cells)
    (omega (arith, c.steps_in-steps.ensures.ordered)) c.loop-i.invariant.painted

pub loop-i-preserved : goal.loop-i-preserved
loop-i-preserved c = let k = c.args.course in let p = c.args.part in let size = c.args.size in let i = c.loop-i.i in let color = c.args.color in
    let old = picture_of size c.args.cells.now in let cur = picture_of size c.loop-i.cells in let new = picture_of size c.draw_dot.new.cells in
    let within : i ≤ apart k.from_u k.to_u = omega (arith, c.steps_in-steps.ensures.within) in
    let eu : c.towards-u.result ≡ step k.from_u k.to_u i = c.towards-u.ensures.step in
    let ev : c.towards-v.result ≡ step k.from_v k.to_v (rise k i) = c.towards-v.ensures.step ∙ ap (step k.from_v k.to_v) c.risen.ensures.rise in
    record {
      painted = one_more_step size p k i color old cur new within c.loop-i.invariant.painted
          (subst (λ (v : ℕ). IsRepainted size (λ x y. in_part p x y && is_dot k.is_steep (step k.from_u k.to_u i) v x y) (λ x y. color) cur new) ev
          (subst (λ (u : ℕ). IsRepainted size (λ x y. in_part p x y && is_dot k.is_steep u c.towards-v.result x y) (λ x y. color) cur new) eu c.draw_dot.ensures.painted));
      kept = keeps_twice size c.args.cells.now c.loop-i.cells c.draw_dot.new.cells c.loop-i.invariant.kept c.draw_dot.ensures.kept;
    }
