use Rattle.std.proofs.Common.{drop, suc, ◌∷◌, []}
use Rattle.std.specs.Prelude.{flat_map}
use Rattle.std.proofs.lemmas.Result.{err_from_is_err_and}
use Rattle.wire_num.proofs.Sent.{sent_part}
use Rattle.record_file.proofs.Pieces.{item_first}
use Rattle.record_file.proofs.put.put_pairs.Goals as goal

pub returns-in_err-put_pair-clause-memory : goal.returns-in_err-put_pair-clause-memory
returns-in_err-put_pair-clause-memory c =
    let p = err_from_is_err_and c.from_residual.result c.from_residual.ensures.1 in
    rw p.1 (sent_part _ _ _ _ _ (flat_map (λ p. p.0 ∷ p.1 ∷ []) (drop (suc c.loop-pair.pair-index) c.args.pairs.now)) _ c.loop-pair.invariant c.in_err-put_pair.ensures.memory
    (item_first (λ p. p.0 ∷ p.1 ∷ []) (0, 0) c.loop-pair.pair-index c.args.pairs.now c.loop-pair-test.true))
