use Rattle.std.proofs.Common.{◌≡◌, [], true, ◌∷◌, sym, ◌∙◌}
use Rattle.std.specs.Prelude.{◌-◌}
use Rattle.byteorder.specs.Endian.{little_bytes}
use Rattle.order_fields.specs.OrderTable.{row_of, last_values}
use Rattle.order_fields.specs.OrderDelta.{fields_of, type_bytes, shown, bounds_bytes, present_bytes, keeps_bytes, control_byte, has_bounds}
use Rattle.order_fields.specs.Kept.{optional_edges, registers_of, row_flags, is_row_counted}
use Rattle.order_fields.proofs.Parts.{ready, order_from_parts}
use Rattle.order_fields.proofs.Present.{whole_tail}
use Rattle.order_fields.proofs.write.put_uncounted.Goals as goal

pub put_fields-changes-requires-clause-lasts : goal.put_fields-changes-requires-clause-lasts
put_fields-changes-requires-clause-lasts c =
    let r = ready (registers_of c.args.last_kind c.args.lasts.now c.args.old.now) c.args.o.now c.requires.registers c.requires.fits in
    rw (c.values-last.ensures, c.kinds_of-kinds.ensures, c.kind-kind.ensures) r.lasts

pub put_fields-changes-requires-clause-count : goal.put_fields-changes-requires-clause-count
put_fields-changes-requires-clause-count c =
    let r = ready (registers_of c.args.last_kind c.args.lasts.now c.args.old.now) c.args.o.now c.requires.registers c.requires.fits in
    rw (c.values-values.ensures.value, c.kinds_of-kinds.ensures, c.kind-kind.ensures) r.count

pub returns : goal.returns
returns c =
    let regs = registers_of c.args.last_kind c.args.lasts.now c.args.old.now in
    let bounds = optional_edges c.args.new in
    let kind = c.kind-kind.result in
    let flags = c.put_fields-changes.result.flags in
    let kinds = c.kinds_of-kinds.result.now in
    let last = c.values-last.result.now in
    let values = c.values-values.result.now in
    let bytes = c.args.o.now.values.bytes in
    let delta = c.put_fields-changes.result.delta in
    let typed = c.is_typed-typed.result in
    let keeps_edges = c.keeps_bounds-keeps_edges.result in
    let keeps = c.keeps_counted-keeps.result in
    let control = c.control_byte-control.result in
    let same_keeps : keeps ≡ keeps_bytes (is_row_counted (row_of kind)) (last_values regs kind).bytes bytes = c.keeps_counted-keeps.ensures in
    let r = ready regs c.args.o.now c.requires.registers c.requires.fits in
    let all : c.flag_bytes_for.result ≡ row_flags (row_of kind) = c.flag_bytes_for.ensures ∙ sym (rw (c.kinds_of-kinds.ensures, c.kind-kind.ensures) r.bits) in
    let same_control : control ≡ control_byte (has_bounds bounds) typed delta keeps_edges (row_flags (row_of kind) - shown flags) =
    rw (c.is_bounded-bounded.ensures, all, c.shown.ensures.shown) at c.control_byte-control.ensures in
    let whole = order_from_parts regs c.args.confirmed c.args.o.now bounds c.requires.fits control typed delta keeps_edges keeps kind flags kinds last values bytes
    c.kind-kind.ensures c.kinds_of-kinds.ensures c.values-last.ensures c.values-values.ensures.value (λ i. bytes) same_keeps c.put_fields-changes.ensures.flags c.put_fields-changes.ensures.delta
    c.is_typed-typed.ensures c.keeps_bounds-keeps_edges.ensures same_control in
    let a = control ∷ type_bytes typed kind in
    let b = little_bytes (shown flags) flags in
    let d = bounds_bytes keeps_edges regs.bounds bounds in
    let fields : c.put_fields-changes.new.tail ≡ present_bytes (fields_of kinds last values) delta true [] = rw c.put_fields-changes.ensures.delta c.put_fields-changes.ensures.bytes in
    let tail = whole_tail a b d (fields_of kinds last values) delta keeps bytes c.put_fields-changes.new.tail c.put_bounds.new.tail c.put_flags.new.tail c.put_head.new.tail fields c.put_bounds.ensures.bytes c.put_flags.ensures c.put_head.ensures in
    sym whole ∙ sym tail
