use Rattle.std.proofs.Common.{◌≡◌, ◌-◌, ◌≤◌, ◌++◌, length}
use Rattle.rle_enc.specs.Stretch.{bytes_from, spots_of}
use Rattle.rle_enc.proofs.stretch.pack_stretch.Given as goal

abbrev pub invariant-loop-at : goal.invariant-loop-at
invariant-loop-at l =
    (l.at ≤ length l.pixels)
    × (l.out.items ++ bytes_from l.depth l.at (spots_of l.aboves l.pixels) ≡ l.fn.out.items ++ bytes_from l.depth 0 (spots_of l.aboves l.pixels))

abbrev pub decreases-loop-at : goal.decreases-loop-at
decreases-loop-at l = length l.pixels - l.at
