use Rattle.std.proofs.Common.{◌≡◌}
use Rattle.rle_enc.proofs.InPlace.{cut_to}
use Rattle.rle_enc.proofs.shown.cut_all.Given as goal

abbrev pub invariant-loop-k : goal.invariant-loop-k
invariant-loop-k l = l.all.items ≡ cut_to l.k l.fn.colors.items
