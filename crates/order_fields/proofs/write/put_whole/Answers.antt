use Rattle.std.proofs.Common.{◌≡◌, suc, ◌-◌, ◌*◌, ◌^◌, ◌<◌, ℤ, arith, rules, pos, length, get_or, w64, of_z, to_z, ap, sym, subst, ◌∙◌}
use Rattle.std.proofs.lemmas.Grind.{common_steps}
use Rattle.std.proofs.lemmas.Int.{to_z-of_z}
use Rattle.std.proofs.Math.Nat.{pow-suc}
use Rattle.order_fields.specs.declared.kind.FieldKind.TheVariants.{Coordinate}
use Rattle.order_fields.specs.OrderTable.{FitsKind}
use Rattle.order_fields.proofs.FieldsAt.{fields_drop, fit_at, sized_at}
use Rattle.order_fields.proofs.write.put_whole.Goals as goal

pub put_field-requires-clause-last : goal.put_field-requires-clause-last
put_field-requires-clause-last c =
    let here : c.loop-i.i - 1 < length c.args.kinds.now = omega arith in
    let fits = fit_at (c.loop-i.i - 1) c.args.kinds.now c.args.last.now Coordinate (pos 0) c.requires.last here in
    let z = get_or c.args.last.now (c.loop-i.i - 1) (pos 0) in
    let same : to_z w64 (of_z w64 z) ≡ z = search rules in
    subst (λ (y : ℤ). FitsKind (get_or c.args.kinds.now (c.loop-i.i - 1) Coordinate) y) (sym same) fits

pub put_field-requires-clause-value : goal.put_field-requires-clause-value
put_field-requires-clause-value c =
    let here : c.loop-i.i - 1 < length c.args.kinds.now = omega arith in
    let fits = fit_at (c.loop-i.i - 1) c.args.kinds.now c.args.values.now Coordinate (pos 0) c.requires.values here in
    let z = get_or c.args.values.now (c.loop-i.i - 1) (pos 0) in
    let same : to_z w64 (of_z w64 z) ≡ z = search rules in
    subst (λ (y : ℤ). FitsKind (get_or c.args.kinds.now (c.loop-i.i - 1) Coordinate) y) (sym same) fits

pub put_field-requires-clause-size : goal.put_field-requires-clause-size
put_field-requires-clause-size c =
    let here : c.loop-i.i - 1 < length c.args.kinds.now = omega arith in
    sized_at (c.loop-i.i - 1) c.args.kinds.now Coordinate c.requires.sized here

pub loop-i-preserved : goal.loop-i-preserved
loop-i-preserved c =
    let here : c.loop-i.i - 1 < length c.args.kinds.now = omega arith in
    let next : suc (c.loop-i.i - 1) ≡ c.loop-i.i = omega arith in
    let step = fields_drop (c.loop-i.i - 1) c.args.kinds.now c.args.last.now c.args.values.now Coordinate (pos 0) (pos 0) here c.requires.lasts c.requires.count in
    let room : suc (length c.args.kinds.now - (c.loop-i.i - 1)) ≡ suc (suc (length c.args.kinds.now - c.loop-i.i)) = omega arith in
    let doubled : 2 ^ suc (length c.args.kinds.now - (c.loop-i.i - 1)) ≡ 2 ^ suc (length c.args.kinds.now - c.loop-i.i) * 2 = ap (λ n. 2 ^ n) room ∙ pow-suc 2 _ in
    record {
      flags = grind (arith, common_steps, to_z-of_z, step, next);
      bound = rw doubled (omega (arith, c.changed_flag.ensures.bit, c.loop-i.invariant.bound));
      bytes = grind (arith, common_steps, to_z-of_z, step, next);
      few = omega (arith, c.loop-i.invariant.few, c.put_field.ensures.few);
    }
