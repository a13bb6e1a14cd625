use Rattle.std.proofs.Common.{subst}
use Rattle.order_fields.specs.OrderTable.{AreRegisters, FitBounds}
use Rattle.order_fields.specs.OrderDelta.{edges_of_optional}
use Rattle.order_fields.specs.Kept.{registers_of, optional_edges}
use Rattle.order_fields.proofs.Rows.{registers_kept}
use Rattle.order_fields.proofs.OrderBack.{order_back}
use Rattle.order_fields.proofs.order.write_order.Goals as goal

pub returns-in_err-put_order-clause-read_back : goal.returns-in_err-put_order-clause-read_back
returns-in_err-put_order-clause-read_back c depth rest =
    let are = subst AreRegisters c.regs.view_is c.regs.invariant.0 in
    order_back depth c.args.regs.now c.args.zero_bounds c.args.o.now (edges_of_optional c.args.bounds) rest are c.values-values.ensures.fits c.requires

pub returns-clause-read_back : goal.returns-clause-read_back
returns-clause-read_back c depth rest =
    let are = subst AreRegisters c.regs.view_is c.regs.invariant.0 in
    order_back depth c.args.regs.now c.args.zero_bounds c.args.o.now (edges_of_optional c.args.bounds) rest are c.values-values.ensures.fits c.requires

pub invariant_of-regs : goal.invariant_of-regs
invariant_of-regs c =
    let old = registers_of c.regs.inside.last c.regs.inside.lasts c.regs.inside.bounds in
    let edges : FitBounds (optional_edges c.optional_bounds_of-new.result) = rw c.optional_bounds_of-new.ensures c.requires in
    let kept = registers_kept old c.args.o.now (optional_edges c.optional_bounds_of-new.result) c.regs.invariant.0 c.values-values.ensures.fits edges in
    (rw (c.keep.ensures.kept, c.keep_bounds.ensures, c.kind-regs-inside.ensures, c.kind.ensures, c.values-values.ensures.value, c.bytes.ensures) kept, c.keep.ensures.count)
