use Rattle.std.proofs.Common.{◌≡◌, rules, w64, of_z, to_z, ap, sym, ◌∙◌, ◌++◌, append_assoc}
use Rattle.order_fields.specs.OrderDelta.{change, edge_bytes}
use Rattle.order_fields.proofs.bounds.put_far_edges.Goals as goal

pub returns-clause-bytes : goal.returns-clause-bytes
returns-clause-bytes c =
    let a : to_z w64 (of_z w64 c.args.old.right) ≡ c.args.old.right = search rules in
    let b : to_z w64 (of_z w64 c.args.new.right) ≡ c.args.new.right = search rules in
    let d : to_z w64 (of_z w64 c.args.old.bottom) ≡ c.args.old.bottom = search rules in
    let e : to_z w64 (of_z w64 c.args.new.bottom) ≡ c.args.new.bottom = search rules in
    let right = edge_bytes (change c.args.old.right c.args.new.right) c.args.old.right c.args.new.right in
    let bottom = edge_bytes (change c.args.old.bottom c.args.new.bottom) c.args.old.bottom c.args.new.bottom in
    let first = rw (d, e) at c.put_edge.ensures.bytes in
    let second = rw (a, b) at c.put_edge-2.ensures.bytes in
    second ∙ ap (λ r. right ++ r) first ∙ sym (append_assoc right bottom c.args.tail.now)
