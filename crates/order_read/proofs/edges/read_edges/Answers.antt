use Rattle.std.proofs.Common.{◌≡◌, ◌∙◌, arith, rules, to_z, of_z, w64}
use Rattle.std.proofs.lemmas.Grind.{common_steps}
use Rattle.order_fields.specs.OrderTable.{edges}
use Rattle.order_fields.specs.Kept.{edges_in}
use Rattle.order_read.proofs.BoundEdges.{no_right, no_bottom, all_edges}
use Rattle.order_read.proofs.edges.read_edges.Goals as goal

pub returns-in_err-right-clause-read : goal.returns-in_err-right-clause-read
returns-in_err-right-clause-read c =
    let l : to_z w64 (of_z w64 c.args.old.left) ≡ c.args.old.left = search rules in
    let t : to_z w64 (of_z w64 c.args.old.top) ≡ c.args.old.top = search rules in
    let r : to_z w64 (of_z w64 c.args.old.right) ≡ c.args.old.right = search rules in
    let same : edges (to_z w64 (of_z w64 c.args.old.left)) (to_z w64 (of_z w64 c.args.old.top)) (to_z w64 (of_z w64 c.args.old.right)) c.args.old.bottom ≡ edges_in c.args.old = cc in
    let e = no_right c.args.flags (edges_in c.args.old) _ _ _ _ _ _ _ _ _ same c.in_ok-left.ensures.read.0 c.in_ok-top.ensures.read.0 c.in_err-right.ensures.read.0 in
    grind (arith, common_steps, e)

pub returns-in_err-bottom-clause-read : goal.returns-in_err-bottom-clause-read
returns-in_err-bottom-clause-read c =
    let l : to_z w64 (of_z w64 c.args.old.left) ≡ c.args.old.left = search rules in
    let t : to_z w64 (of_z w64 c.args.old.top) ≡ c.args.old.top = search rules in
    let r : to_z w64 (of_z w64 c.args.old.right) ≡ c.args.old.right = search rules in
    let m : to_z w64 (of_z w64 c.args.old.bottom) ≡ c.args.old.bottom = search rules in
    let same : edges (to_z w64 (of_z w64 c.args.old.left)) (to_z w64 (of_z w64 c.args.old.top)) (to_z w64 (of_z w64 c.args.old.right)) (to_z w64 (of_z w64 c.args.old.bottom)) ≡ edges_in c.args.old = cc in
    let e = no_bottom c.args.flags (edges_in c.args.old) _ _ _ _ _ _ _ _ _ _ _ same c.in_ok-left.ensures.read.0 c.in_ok-top.ensures.read.0 c.in_ok-right.ensures.read.0 c.in_err-bottom.ensures.read.0 in
    grind (arith, common_steps, e)

pub returns-clause-read : goal.returns-clause-read
returns-clause-read c =
    let l : to_z w64 (of_z w64 c.args.old.left) ≡ c.args.old.left = search rules in
    let t : to_z w64 (of_z w64 c.args.old.top) ≡ c.args.old.top = search rules in
    let r : to_z w64 (of_z w64 c.args.old.right) ≡ c.args.old.right = search rules in
    let m : to_z w64 (of_z w64 c.args.old.bottom) ≡ c.args.old.bottom = search rules in
    let same : edges (to_z w64 (of_z w64 c.args.old.left)) (to_z w64 (of_z w64 c.args.old.top)) (to_z w64 (of_z w64 c.args.old.right)) (to_z w64 (of_z w64 c.args.old.bottom)) ≡ edges_in c.args.old = cc in
    let e = all_edges c.args.flags (edges_in c.args.old) _ _ _ _ _ _ _ _ _ _ _ _ _ same c.in_ok-left.ensures.read.0 c.in_ok-top.ensures.read.0 c.in_ok-right.ensures.read.0 c.in_ok-bottom.ensures.read.0 in
    let l2 : to_z w64 (of_z w64 c.in_ok-left.left) ≡ c.in_ok-left.left = search rules in
    let t2 : to_z w64 (of_z w64 c.in_ok-top.top) ≡ c.in_ok-top.top = search rules in
    let r2 : to_z w64 (of_z w64 c.in_ok-right.right) ≡ c.in_ok-right.right = search rules in
    let m2 : to_z w64 (of_z w64 c.in_ok-bottom.bottom) ≡ c.in_ok-bottom.bottom = search rules in
    (rw (l2, t2, r2, m2) e, c.in_ok-bottom.ensures.read.1 ∙ c.in_ok-right.ensures.read.1 ∙ c.in_ok-top.ensures.read.1 ∙ c.in_ok-left.ensures.read.1)
