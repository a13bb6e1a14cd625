use Rattle.order_fields.specs.OrderTable.{field_list}
use Rattle.order_fields.specs.Kept.{registers_of, optional_edges}
use Rattle.order_fields.proofs.Rows.{registers_kept}
use Rattle.order_fields.proofs.regs.Regs.keep_values.Goals as goal

pub invariant_of-self : goal.invariant_of-self
invariant_of-self c =
    let old = registers_of c.self.inside.last c.self.inside.lasts c.self.inside.bounds in
    let kept = registers_kept old (field_list c.args.kind c.args.values.now c.args.bytes.now) (optional_edges c.args.bounds) c.self.invariant.0 c.requires.fits c.requires.bounds in
    (rw (c.keep.ensures.kept, c.keep_bounds.ensures) kept, c.keep.ensures.count)
