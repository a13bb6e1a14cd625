use Rattle.std.proofs.Common.{◌≡◌, ◌+◌, ◌++◌, take}
use Rattle.std.specs.Prelude.{slice_range}
use Rattle.rle_dec.proofs.copies.copy_rest.Given as goal

abbrev pub invariant-loop-k : goal.invariant-loop-k
invariant-loop-k l = take (l.at + l.k) l.out ≡ take l.at l.fn.out ++ slice_range (take l.at l.fn.out) l.from (l.from + l.k)
