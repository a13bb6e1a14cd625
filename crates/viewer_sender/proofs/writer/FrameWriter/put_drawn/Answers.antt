use Rattle.std.proofs.Common.{◌≤◌, length, ap, sym, subst, arith}
use Rattle.order_fields.specs.OrderTable.{FieldList}
use Rattle.order_fields.specs.OrderDelta.{order_bytes, edges_of_optional}
use Rattle.frame_laws.proofs.OrderShort.{drawing_short, drawing_some}
use Rattle.viewer_sender.proofs.writer.FrameWriter.put_drawn.Goals as goal

pub put_drawn-requires-clause-some : goal.put_drawn-requires-clause-some
put_drawn-requires-clause-some c =
    let d = c.requires.drawing in
    let w = c.args.self.now in
    subst (λ (o : FieldList). 1 ≤ length (order_bytes w.registers w.confirmed.zero_bounds o (edges_of_optional c.args.bounds))) (sym d.fields)
    (drawing_some d.depth w.registers w.confirmed.zero_bounds d.area d.drawing (edges_of_optional c.args.bounds))

pub put_drawn-requires-clause-short : goal.put_drawn-requires-clause-short
put_drawn-requires-clause-short c =
    let d = c.requires.drawing in
    let w = c.args.self.now in
    let few = ap (λ (o : FieldList). length o.values.bytes) d.fields in
    let run = c.requires.run in
    let most = drawing_short d.depth w.registers w.confirmed.zero_bounds d.area d.drawing (edges_of_optional c.args.bounds) in
    subst (λ (o : FieldList). length (order_bytes w.registers w.confirmed.zero_bounds o (edges_of_optional c.args.bounds)) ≤ 16357) (sym d.fields) (omega (arith, most, few, run))
