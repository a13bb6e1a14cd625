use Rattle.std.proofs.Common.{◌≡◌, rules, ap, subst}
use Rattle.std.specs.Prelude.{true, Some}
use Rattle.px_core.specs.Rectangle.{has_pixel, IsPlaced}
use Rattle.frame_rules.specs.Cautious.{area_of, cut_to}
use Rattle.frame_plan.proofs.Cutting.{cut_as, cut_walkable}
use Rattle.frame_plan.proofs.cut.cut.Goals as goal

pub returns-clause-walkable : goal.returns-clause-walkable
returns-clause-walkable c =
    let p = c.args.pending.now in
    let area : c.common-area.result ≡ area_of c.args.size p = search rules in
    let some : has_pixel (area_of c.args.size p) ≡ true = search rules in
    let shape : cut_to (area_of c.args.size p) p.drawing.shape ≡ Some c.in_ok-shape.shape = search rules in
    cut_walkable c.args.size p (cut_as c.in_ok-shape.shape p c.common-area.result) c.in_ok-shape.shape c.requires.size some c.requires.shape
    (subst IsPlaced area (c.common-area.ensures.placed (c.whole.ensures.placed c.requires.size) (c.clipped.ensures.placed (search rules) (search rules)))) c.requires.cuttable.source shape (ap (cut_as c.in_ok-shape.shape p) area)
