use Rattle.std.proofs.Common.{◌≡◌, ◌∙◌, pos, arith, w32, to_z, of_z}
use Rattle.std.specs.Prelude.{◌+ℤ◌, ◌-ℤ◌}
use Rattle.std.specs.Int.{int_min, int_max}
use Rattle.px_core.specs.Picture.{nat_of}
use Rattle.std.proofs.lemmas.Grind.{common_steps}
use Rattle.std.proofs.lemmas.Int.{to_z-of_z}
use Rattle.session_core.proofs.CellLemmas.{reached_stretch}
use Rattle.session_core.proofs.cells.joint.Goals as goal

pub returns-clause-reached : goal.returns-clause-reached
returns-clause-reached c =
    let ax : to_z w32 (of_z w32 c.args.a.x) ≡ c.args.a.x = grind (arith, common_steps, to_z-of_z) in
    let bx : to_z w32 (of_z w32 c.args.b.x) ≡ c.args.b.x = grind (arith, common_steps, to_z-of_z) in
    let ay : to_z w32 (of_z w32 c.args.a.y) ≡ c.args.a.y = grind (arith, common_steps, to_z-of_z) in
    let by : to_z w32 (of_z w32 c.args.b.y) ≡ c.args.b.y = grind (arith, common_steps, to_z-of_z) in
    let lx : to_z w32 (of_z w32 c.lesser.result) ≡ c.lesser.result = grind (arith, common_steps, to_z-of_z) in
    let ly : to_z w32 (of_z w32 c.lesser-2.result) ≡ c.lesser-2.result = grind (arith, common_steps, to_z-of_z) in
    record {
      columns = reached_stretch c.args.a.x c.args.b.x (to_z w32 (of_z w32 c.lesser.result)) c.args.a.w c.args.b.w c.joint_length.result c.requires.first.columns c.requires.second.columns
          (lx ∙ c.lesser.ensures ∙ (λ i. int_min (ax i) (bx i)))
          (c.joint_length.ensures ∙ (λ i. nat_of (int_max (ax i +ℤ pos c.args.a.w) (bx i +ℤ pos c.args.b.w) -ℤ int_min (ax i) (bx i))));
      rows = reached_stretch c.args.a.y c.args.b.y (to_z w32 (of_z w32 c.lesser-2.result)) c.args.a.h c.args.b.h c.joint_length-2.result c.requires.first.rows c.requires.second.rows
          (ly ∙ c.lesser-2.ensures ∙ (λ i. int_min (ay i) (by i)))
          (c.joint_length-2.ensures ∙ (λ i. nat_of (int_max (ay i +ℤ pos c.args.a.h) (by i +ℤ pos c.args.b.h) -ℤ int_min (ay i) (by i))));
    }
