use Rattle.std.proofs.Common.{◌≡◌, rules, w64, of_z, to_z, ap, sym, ◌∙◌, ◌++◌, append_assoc}
use Rattle.order_fields.specs.OrderDelta.{change, edge_bytes, far_edges}
use Rattle.order_fields.specs.Kept.{edges_in}
use Rattle.order_fields.proofs.bounds.put_edges.Goals as goal

pub returns-clause-bytes : goal.returns-clause-bytes
returns-clause-bytes c =
    let a : to_z w64 (of_z w64 c.args.old.top) ≡ c.args.old.top = search rules in
    let b : to_z w64 (of_z w64 c.args.new.top) ≡ c.args.new.top = search rules in
    let d : to_z w64 (of_z w64 c.args.old.left) ≡ c.args.old.left = search rules in
    let e : to_z w64 (of_z w64 c.args.new.left) ≡ c.args.new.left = search rules in
    let far = far_edges (edges_in c.args.old) (edges_in c.args.new) in
    let top = edge_bytes (change c.args.old.top c.args.new.top) c.args.old.top c.args.new.top in
    let left = edge_bytes (change c.args.old.left c.args.new.left) c.args.old.left c.args.new.left in
    let second = rw (a, b) at c.put_edge.ensures.bytes in
    let third = rw (d, e) at c.put_edge-2.ensures.bytes in
    let later = second ∙ ap (λ r. top ++ r) c.put_far_edges.ensures.bytes ∙ sym (append_assoc top far c.args.tail.now) in
    third ∙ ap (λ r. left ++ r) later ∙ sym (append_assoc left (top ++ far) c.args.tail.now)
