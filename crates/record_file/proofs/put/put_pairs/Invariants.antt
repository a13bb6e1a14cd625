use Rattle.std.proofs.Common.{drop}
use Rattle.std.specs.Prelude.{flat_map}
use Rattle.std.proofs.Common.{◌∷◌, []}
use Rattle.wire_num.proofs.Sent.{HasSent}
use Rattle.record_file.proofs.put.put_pairs.Given as goal

abbrev pub invariant-loop-pair : goal.invariant-loop-pair
invariant-loop-pair l = HasSent l.fn.out.items (flat_map (λ p. p.0 ∷ p.1 ∷ []) l.pairs) l.out.items (flat_map (λ p. p.0 ∷ p.1 ∷ []) (drop l.pair-index l.pairs))
