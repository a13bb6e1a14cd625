use Rattle.std.proofs.Common.{ℕ, List, ◌-◌, length, take, drop, refl, arith}
use Rattle.std.proofs.lemmas.List.{take_rest}
use Rattle.rle_enc.specs.Stretch.{row_of}
use Rattle.rle_enc.proofs.Pending.{alone_more, starts_at}
use Rattle.rle_enc.proofs.counts.count_alone.Goals as goal

pub count_alone_past-n-requires-clause-alone : goal.count_alone_past-n-requires-clause-alone
count_alone_past-n-requires-clause-alone c =
    let ps : List ℕ = c.args.pixels.now in
    alone_more (row_of c.args.aboves) (row_of c.rows_from.result) ps (take (length ps - c.loop-n.n) (drop c.loop-n.n ps)) c.loop-n.n c.loop-n-test.true c.requires.row c.rows_from.ensures (take_rest ps c.loop-n.n) (omega (arith, c.if-is_alone.ensures.no_background)) (omega (arith, c.if-is_alone.ensures.own_color)) c.loop-n.invariant.1

pub returns-else-is_alone-clause-stops : goal.returns-else-is_alone-clause-stops
returns-else-is_alone-clause-stops c = λ below.
    let ps : List ℕ = c.args.pixels.now in
    starts_at (row_of c.args.aboves) (row_of c.rows_from.result) ps (take (length ps - c.loop-n.n) (drop c.loop-n.n ps)) c.loop-n.n c.rows_from.ensures (take_rest ps c.loop-n.n) (c.if-is_alone.ensures.run refl)
