use Rattle.std.proofs.Common.{◌≡◌, refl, rules, to_z, of_z, w64, w32}
use Rattle.order_read.proofs.edges.rect_of.Goals as goal

pub returns : goal.returns
returns c =
    let l : to_z w64 (of_z w64 c.args.bounds.left) ≡ c.args.bounds.left = search rules in
    let t : to_z w64 (of_z w64 c.args.bounds.top) ≡ c.args.bounds.top = search rules in
    let n : to_z w32 (of_z w32 c.args.bounds.left) ≡ c.args.bounds.left = search rules in
    let m : to_z w32 (of_z w32 c.args.bounds.top) ≡ c.args.bounds.top = search rules in
    let r : to_z w64 (of_z w64 c.args.bounds.right) ≡ c.args.bounds.right = search rules in
    let b : to_z w64 (of_z w64 c.args.bounds.bottom) ≡ c.args.bounds.bottom = search rules in
    rw (l, t, n, m, c.side.ensures, c.side-2.ensures, l, t, r, b) refl
