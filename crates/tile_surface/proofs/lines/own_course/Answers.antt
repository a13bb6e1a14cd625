use Rattle.std.proofs.Common.{◌≡◌, ℕ, ◌≤◌, refl, ap, ◌∙◌, subst, arith}
use Rattle.std.specs.Prelude.{◌&&◌}
use Rattle.surface_parts.specs.Courses.{apart, step, rise, is_course_pixel, is_dot}
use Rattle.surface_parts.specs.Parts.{in_part}
use Rattle.tile_surface.specs.Needed.{OwnsPixels}
use Rattle.tile_surface.proofs.Owning.{stays_self, stays_twice}
use Rattle.tile_surface.proofs.Steps.{pixels_still, step_owned, owned_before, owned_whole}
use Rattle.tile_surface.proofs.lines.own_course.Goals as goal

pub loop-i-init : goal.loop-i-init
loop-i-init c = record {
  same = refl;
  stays = stays_self c.args.cells.now;
  own = owned_before c.args.cells.now c.args.part c.args.course c.steps_in-steps.result c.steps_in-steps.ensures.seen;
}

pub returns-clause-own : goal.returns-clause-own
returns-clause-own c = owned_whole c.loop-i.cells c.args.part c.args.course c.steps_in-steps.result c.steps_in-steps.ensures.seen c.loop-i.i (omega (arith, c.steps_in-steps.ensures.ordered)) c.loop-i.invariant.own

pub loop-i-preserved : goal.loop-i-preserved
loop-i-preserved c = let k = c.args.course in let p = c.args.part in let i = c.loop-i.i in let new = c.own_dot.new.cells in
    let within : i ≤ apart k.from_u k.to_u = omega (arith, c.steps_in-steps.ensures.within) in
    let eu : c.towards-u.result ≡ step k.from_u k.to_u i = c.towards-u.ensures.step in
    let ev : c.towards-v.result ≡ step k.from_v k.to_v (rise k i) = c.towards-v.ensures.step ∙ ap (step k.from_v k.to_v) c.risen.ensures.rise in
    record {
      same = c.in_ok-own_dot.ensures.same ∙ c.loop-i.invariant.same;
      stays = stays_twice c.args.cells.now c.loop-i.cells new c.loop-i.invariant.stays c.in_ok-own_dot.ensures.stays;
      own = step_owned new p k i within (pixels_still c.loop-i.cells new (λ x y. in_part p x y && is_course_pixel k i x y) c.in_ok-own_dot.ensures.stays c.loop-i.invariant.own)
          (subst (λ (v : ℕ). OwnsPixels new (λ x y. in_part p x y && is_dot k.is_steep (step k.from_u k.to_u i) v x y)) ev
          (subst (λ (u : ℕ). OwnsPixels new (λ x y. in_part p x y && is_dot k.is_steep u c.towards-v.result x y)) eu c.in_ok-own_dot.ensures.own));
    }
