use Rattle.std.proofs.Common.{◌≡◌, ◌+◌, ◌-◌}
use Rattle.order_fields.specs.NamedDrawing.{are_zero}
use Rattle.client_caches.proofs.values.are_zero.Given as goal

-- the values that are left come to what all of them came to
abbrev pub invariant-loop-k : goal.invariant-loop-k
invariant-loop-k l = are_zero l.values (l.place + l.k) (l.count - l.k) ≡ are_zero l.values l.place l.count
