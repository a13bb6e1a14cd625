use Rattle.std.proofs.Common.{◌≡◌, ◌∙◌, pos, ap, arith, w32, to_z, of_z}
use Rattle.std.specs.Prelude.{◌+ℤ◌, ◌-ℤ◌, nat_abs}
use Rattle.std.specs.Int.{int_min, int_max}
use Rattle.std.proofs.lemmas.Grind.{common_steps}
use Rattle.std.proofs.lemmas.Int.{to_z-of_z}
use Rattle.session_core.proofs.CellLemmas.{distance_is}
use Rattle.session_core.proofs.cells.joint_length.Goals as goal

pub returns : goal.returns
returns c =
    let ea : to_z w32 (of_z w32 c.args.a) ≡ c.args.a = grind (arith, common_steps, to_z-of_z) in
    let eb : to_z w32 (of_z w32 c.args.b) ≡ c.args.b = grind (arith, common_steps, to_z-of_z) in
    let e1 : to_z w32 (of_z w32 c.end_of.result) ≡ c.end_of.result = grind (arith, common_steps, to_z-of_z) in
    let e2 : to_z w32 (of_z w32 c.end_of-2.result) ≡ c.end_of-2.result = grind (arith, common_steps, to_z-of_z) in
    let eg : to_z w32 (of_z w32 c.greater-end.result) ≡ c.greater-end.result = grind (arith, common_steps, to_z-of_z) in
    let el : to_z w32 (of_z w32 c.lesser.result) ≡ c.lesser.result = grind (arith, common_steps, to_z-of_z) in
    distance_is c.args.a c.args.b c.greater-end.result c.lesser.result c.args.m c.args.n c.abs_diff.result
    (c.abs_diff.ensures ∙ (λ i. nat_abs (eg i -ℤ el i)))
    (c.greater-end.ensures ∙ (λ i. int_max ((e1 ∙ c.end_of.ensures ∙ ap (λ z. z +ℤ pos c.args.m) ea) i) ((e2 ∙ c.end_of-2.ensures ∙ ap (λ z. z +ℤ pos c.args.n) eb) i)))
    (c.lesser.ensures ∙ (λ i. int_min (ea i) (eb i)))
