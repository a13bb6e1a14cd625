-- Orders that are written one after the other are read one after the other.
use Rattle.std.proofs.Common.{◌≡◌, ℕ, suc, List, [], ◌∷◌, ◌++◌, ap, Bool}
use Rattle.std.specs.Prelude.{Option}
use Rattle.px_core.specs.declared.depth.Depth.{Depth}
use Rattle.order_fields.specs.OrderTable.{Registers, FieldList, Edges, AreRegisters, IsFieldList, FitBounds, registers_after}
use Rattle.order_fields.specs.OrderStream.{orders_in, then_orders, with_orders}
use Rattle.order_fields.specs.OrderStream.Order.{Primary}
use Rattle.order_fields.specs.OrderDelta.{order_bytes}
use Rattle.order_fields.proofs.OrderBack.{order_back}

pub order_then : (depth : Depth) (regs : Registers) (confirmed : Bool) (o : FieldList) (bounds : Option Edges) (n : ℕ) (rest : List ℕ) → AreRegisters regs → IsFieldList o → FitBounds bounds →
    orders_in depth (order_bytes regs confirmed o bounds ++ rest) (suc n) regs ≡ with_orders (Primary o bounds ∷ []) (orders_in depth rest n (registers_after regs o bounds))
order_then depth regs confirmed o bounds n rest are fits edges = ap (λ r. then_orders r regs (λ more after. orders_in depth more n after)) (order_back depth regs confirmed o bounds rest are fits edges)
