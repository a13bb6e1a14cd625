use Rattle.std.proofs.Common.{◌<◌, List, length, sym, subst, arith}
use Rattle.std.proofs.lemmas.List.{drop_more}
use Rattle.draw_ops.specs.declared.shape.Drawing.{Drawing}
use Rattle.draw_ops.specs.Fits.{FitsState, AllFitState}
use Rattle.surface_parts.proofs.Many.{fit_rules, fit_slots}
use Rattle.surface_flat.proofs.surface.Surface.draw_each.Goals as goal

pub draw_ready-requires-clause-rules : goal.draw_ready-requires-clause-rules
draw_ready-requires-clause-rules c = let ds = c.args.ds.now in let i = c.loop-d.d-index in let d = c.d-item.result in let s = c.loop-d.self in
    let inside : i < length ds = omega arith in
    let all = subst (λ (xs : List Drawing). AllFitState s.size s.state xs) (drop_more ds i d inside) c.loop-d.invariant.fit in
    fit_rules s.size s.state d (subst (λ (x : Drawing). FitsState s.size s.state x) (sym c.d-item.is) all.0)

pub draw_ready-requires-clause-slots : goal.draw_ready-requires-clause-slots
draw_ready-requires-clause-slots c = let ds = c.args.ds.now in let i = c.loop-d.d-index in let d = c.d-item.result in let s = c.loop-d.self in
    let inside : i < length ds = omega arith in
    let all = subst (λ (xs : List Drawing). AllFitState s.size s.state xs) (drop_more ds i d inside) c.loop-d.invariant.fit in
    fit_slots s.size s.state d (subst (λ (x : Drawing). FitsState s.size s.state x) (sym c.d-item.is) all.0)
