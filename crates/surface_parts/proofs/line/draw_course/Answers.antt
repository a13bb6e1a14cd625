use Rattle.std.proofs.Common.{◌≡◌, ℕ, ◌≤◌, ap, ◌∙◌, subst, arith}
use Rattle.std.specs.Prelude.{◌&&◌}
use Rattle.surface_parts.specs.Courses.{apart, step, rise, is_dot}
use Rattle.surface_parts.specs.Parts.{in_part, IsRepainted}
use Rattle.surface_parts.proofs.Dots.{one_more_step}
use Rattle.surface_parts.proofs.SeenSteps.{painted_before, painted_whole}
use Rattle.surface_parts.proofs.line.draw_course.Goals as goal

pub loop-i-init : goal.loop-i-init
loop-i-init c = painted_before c.args.size c.args.part c.args.course c.args.color c.steps_in-steps.result c.steps_in-steps.ensures.seen c.args.pixels.now

pub returns : goal.returns
returns c = painted_whole c.args.size c.args.part c.args.course c.args.color c.steps_in-steps.result c.steps_in-steps.ensures.seen c.loop-i.i c.args.pixels.now c.loop-i.pixels
    (omega (arith, c.steps_in-steps.ensures.ordered)) c.loop-i.invariant

pub loop-i-preserved : goal.loop-i-preserved
loop-i-preserved c = let k = c.args.course in let p = c.args.part in let size = c.args.size in let i = c.loop-i.i in
    let within : i ≤ apart k.from_u k.to_u = omega (arith, c.steps_in-steps.ensures.within) in
    let eu : c.towards-u.result ≡ step k.from_u k.to_u i = c.towards-u.ensures.step in
    let ev : c.towards-v.result ≡ step k.from_v k.to_v (rise k i) = c.towards-v.ensures.step ∙ ap (step k.from_v k.to_v) c.risen.ensures.rise in
    one_more_step size p k i c.args.color c.args.pixels.now c.loop-i.pixels c.draw_dot.new.pixels within c.loop-i.invariant
    (subst (λ (v : ℕ). IsRepainted size (λ x y. in_part p x y && is_dot k.is_steep (step k.from_u k.to_u i) v x y) (λ x y. c.args.color) c.loop-i.pixels c.draw_dot.new.pixels) ev
    (subst (λ (u : ℕ). IsRepainted size (λ x y. in_part p x y && is_dot k.is_steep u c.towards-v.result x y) (λ x y. c.args.color) c.loop-i.pixels c.draw_dot.new.pixels) eu c.draw_dot.ensures))
