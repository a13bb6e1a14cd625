use Rattle.std.proofs.Common.{◌∙◌, ap, sym, subst}
use Rattle.px_core.specs.declared.depth.Depth.TheVariants.{Bits24}
use Rattle.order_fields.specs.OrderTable.{IsFieldList}
use Rattle.order_fields.specs.NamedDrawing.{drawing_fields}
use Rattle.order_fields.specs.NamedDrawing.NamedDrawing.{Opaque}
use Rattle.viewer_sender.proofs.orders.fill_order.Goals as goal

pub opaque_rect-requires : goal.opaque_rect-requires
opaque_rect-requires c = subst (λ n. IsFieldList (drawing_fields Bits24 c.args.r (Opaque c.args.r n))) (sym c.wire_color.ensures) c.requires

pub returns : goal.returns
returns c = c.opaque_rect.ensures ∙ ap (λ n. drawing_fields Bits24 c.args.r (Opaque c.args.r n)) c.wire_color.ensures
