use Rattle.std.proofs.Common.{◌≡◌, suc, ◌-◌, ◌*◌, ◌^◌, ◌<◌, ℤ, arith, rules, pos, length, get_or, w64, of_z, to_z, ap, sym, subst, ◌∙◌}
use Rattle.std.proofs.lemmas.Grind.{common_steps}
use Rattle.std.proofs.lemmas.Int.{to_z-of_z}
use Rattle.std.proofs.Math.Nat.{pow-suc}
use Rattle.order_fields.specs.declared.kind.FieldKind.TheVariants.{Coordinate}
use Rattle.order_fields.specs.OrderTable.{FitsKind}
use Rattle.order_fields.proofs.FieldsAt.{fields_drop, fit_at, sized_at, far_at, near_same}
use Rattle.order_fields.proofs.write.put_deltas.Goals as goal

pub put_near-requires-clause-last : goal.put_near-requires-clause-last
put_near-requires-clause-last c =
    let here : c.loop-i.i - 1 < length c.args.kinds.now = omega arith in
    let fits = fit_at (c.loop-i.i - 1) c.args.kinds.now c.args.last.now Coordinate (pos 0) c.requires.last here in
    let z = get_or c.args.last.now (c.loop-i.i - 1) (pos 0) in
    let same : to_z w64 (of_z w64 z) ≡ z = search rules in
    subst (λ (y : ℤ). FitsKind (get_or c.args.kinds.now (c.loop-i.i - 1) Coordinate) y) (sym same) fits

pub put_near-requires-clause-value : goal.put_near-requires-clause-value
put_near-requires-clause-value c =
    let here : c.loop-i.i - 1 < length c.args.kinds.now = omega arith in
    let fits = fit_at (c.loop-i.i - 1) c.args.kinds.now c.args.values.now Coordinate (pos 0) c.requires.values here in
    let z = get_or c.args.values.now (c.loop-i.i - 1) (pos 0) in
    let same : to_z w64 (of_z w64 z) ≡ z = search rules in
    subst (λ (y : ℤ). FitsKind (get_or c.args.kinds.now (c.loop-i.i - 1) Coordinate) y) (sym same) fits

pub put_near-requires-clause-size : goal.put_near-requires-clause-size
put_near-requires-clause-size c =
    let here : c.loop-i.i - 1 < length c.args.kinds.now = omega arith in
    sized_at (c.loop-i.i - 1) c.args.kinds.now Coordinate c.requires.sized here

pub returns-in-None-clause-far : goal.returns-in-None-clause-far
returns-in-None-clause-far c none =
    let here : c.loop-i.i - 1 < length c.args.kinds.now = omega arith in
    let l = get_or c.args.last.now (c.loop-i.i - 1) (pos 0) in
    let z = get_or c.args.values.now (c.loop-i.i - 1) (pos 0) in
    let first : to_z w64 (of_z w64 l) ≡ l = search rules in
    let second : to_z w64 (of_z w64 z) ≡ z = search rules in
    let far = rw (first, second) at c.put_near.ensures.far c.in-None.is in
    far_at (c.loop-i.i - 1) c.args.kinds.now c.args.last.now c.args.values.now Coordinate (pos 0) (pos 0) far here c.requires.lasts c.requires.count

pub loop-i-preserved-then-last-value : goal.loop-i-preserved-then-last-value
loop-i-preserved-then-last-value c =
    let here : c.loop-i.i - 1 < length c.args.kinds.now = omega arith in
    let next : suc (c.loop-i.i - 1) ≡ c.loop-i.i = omega arith in
    let step = fields_drop (c.loop-i.i - 1) c.args.kinds.now c.args.last.now c.args.values.now Coordinate (pos 0) (pos 0) here c.requires.lasts c.requires.count in
    let room : suc (length c.args.kinds.now - (c.loop-i.i - 1)) ≡ suc (suc (length c.args.kinds.now - c.loop-i.i)) = omega arith in
    let doubled : 2 ^ suc (length c.args.kinds.now - (c.loop-i.i - 1)) ≡ 2 ^ suc (length c.args.kinds.now - c.loop-i.i) * 2 = ap (λ n. 2 ^ n) room ∙ pow-suc 2 _ in
    record {
      flags = grind (arith, common_steps, to_z-of_z, step, next);
      bound = rw doubled (omega (arith, c.loop-i.invariant.bound));
      any = grind (arith, common_steps, to_z-of_z, step, next);
      near = grind (arith, common_steps, to_z-of_z, step, next);
      bytes = grind (arith, common_steps, to_z-of_z, step, next);
      few = omega (arith, c.loop-i.invariant.few, c.put_near.ensures.few);
    }

pub loop-i-preserved : goal.loop-i-preserved
loop-i-preserved c =
    let here : c.loop-i.i - 1 < length c.args.kinds.now = omega arith in
    let next : suc (c.loop-i.i - 1) ≡ c.loop-i.i = omega arith in
    let step = fields_drop (c.loop-i.i - 1) c.args.kinds.now c.args.last.now c.args.values.now Coordinate (pos 0) (pos 0) here c.requires.lasts c.requires.count in
    let room : suc (length c.args.kinds.now - (c.loop-i.i - 1)) ≡ suc (suc (length c.args.kinds.now - c.loop-i.i)) = omega arith in
    let doubled : 2 ^ suc (length c.args.kinds.now - (c.loop-i.i - 1)) ≡ 2 ^ suc (length c.args.kinds.now - c.loop-i.i) * 2 = ap (λ n. 2 ^ n) room ∙ pow-suc 2 _ in
    record {
      flags = grind (arith, common_steps, to_z-of_z, step, next);
      bound = rw doubled (omega (arith, c.loop-i.invariant.bound));
      any = grind (arith, common_steps, to_z-of_z, step, next);
      near = grind (arith, common_steps, to_z-of_z, step, next, near_same);
      bytes = grind (arith, common_steps, to_z-of_z, step, next);
      few = omega (arith, c.loop-i.invariant.few);
    }

pub returns-clause-coordinate : goal.returns-clause-coordinate
returns-clause-coordinate c = search rules

pub loop-i-init : goal.loop-i-init
loop-i-init c = grind (arith, common_steps)
