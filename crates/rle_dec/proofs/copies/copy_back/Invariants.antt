use Rattle.std.proofs.Common.{◌≡◌, ◌+◌, ◌*◌, ◌++◌, take}
use Rattle.std.specs.Prelude.{slice_range}
use Rattle.rle_dec.proofs.copies.copy_back.Given as goal

-- so many pixels are copied
abbrev pub invariant-loop : goal.invariant-loop
invariant-loop l =
    (l.done ≡ 16 * l.counter)
    × (take (l.at + l.done) l.out ≡ take l.at l.fn.out ++ slice_range (take l.at l.fn.out) l.from (l.from + l.done))
