use Rattle.std.proofs.Common.{◌≡◌, ◌+◌, sym, ◌∙◌, true, arith}
use Rattle.std.specs.Prelude.{pos}
use Rattle.std.specs.Ordering.{int_eq}
use Rattle.order_fields.specs.NamedDrawing.{value}
use Rattle.client_caches.proofs.Zeros.{zero_first}
use Rattle.client_caches.proofs.values.are_zero.Goals as goal

pub loop-k-preserved : goal.loop-k-preserved
loop-k-preserved c =
    let test : int_eq (value c.args.values.now (c.args.place + c.loop-k.k)) (pos 0) ≡ true = grind (arith) in
    sym (zero_first c.args.values.now c.args.place c.loop-k.k c.args.count c.loop-k-test.true test) ∙ c.loop-k.invariant
