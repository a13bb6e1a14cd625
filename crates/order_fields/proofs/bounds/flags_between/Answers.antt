use Rattle.std.proofs.Common.{◌≡◌, rules, w64, of_z, to_z, arith}
use Rattle.order_fields.proofs.bounds.flags_between.Goals as goal

pub returns : goal.returns
returns c =
    let l0 : to_z w64 (of_z w64 c.args.old.left) ≡ c.args.old.left = search rules in
    let l1 : to_z w64 (of_z w64 c.args.new.left) ≡ c.args.new.left = search rules in
    let t0 : to_z w64 (of_z w64 c.args.old.top) ≡ c.args.old.top = search rules in
    let t1 : to_z w64 (of_z w64 c.args.new.top) ≡ c.args.new.top = search rules in
    let r0 : to_z w64 (of_z w64 c.args.old.right) ≡ c.args.old.right = search rules in
    let r1 : to_z w64 (of_z w64 c.args.new.right) ≡ c.args.new.right = search rules in
    let b0 : to_z w64 (of_z w64 c.args.old.bottom) ≡ c.args.old.bottom = search rules in
    let b1 : to_z w64 (of_z w64 c.args.new.bottom) ≡ c.args.new.bottom = search rules in
    let left = rw (l0, l1) at c.edge_flag-left.ensures.flag in
    let top = rw (t0, t1) at c.edge_flag-top.ensures.flag in
    let right = rw (r0, r1) at c.edge_flag-right.ensures.flag in
    let bottom = rw (b0, b1) at c.edge_flag-bottom.ensures.flag in
    omega (arith, left, top, right, bottom)
