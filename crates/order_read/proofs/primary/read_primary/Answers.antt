use Rattle.std.proofs.Common.{◌≡◌, ◌∙◌, ap, sym, true}
use Rattle.std.specs.Prelude.{is_some}
use Rattle.order_fields.specs.OrderTable.{row_of}
use Rattle.order_read.proofs.PrimaryRead.{primary_drawn}
use Rattle.order_read.proofs.primary.read_primary.Goals as goal

pub returns : goal.returns
returns c =
    let some : is_some (row_of c.in_ok-kind.kind) ≡ true = sym c.layout_of.ensures.known ∙ ap (λ x. is_some x) c.in-Some.is in
    let typed = c.in_ok-kind.ensures in
    primary_drawn c.in_ok-kind.kind c.in-Some.layout.flag_bytes c.args.control c.read_typed.result c.args.regs.now c.read_typed.new.regs c.args.cursor.now c.read_type.new.cursor c.read_typed.new.cursor c.args.out.now.items c.read_typed.new.out.items (rw (c.has_bit.ensures, c.last_kind.ensures) at typed.0) typed.1 some
    c.in-Some.ensures.layout.flags c.if-layout-omitted.false c.read_typed.ensures
