use Rattle.std.proofs.Common.{◌-◌, ◌<◌, length}
use Rattle.std.specs.Prelude.{zip}
use Rattle.rle_enc.specs.Stretch.{IsPackedTo}
use Rattle.rle_enc.proofs.stretch.pack_by_words.Given as goal

abbrev pub invariant-loop-at : goal.invariant-loop-at
invariant-loop-at l = (l.at < length l.pixels) × IsPackedTo l.depth (zip l.pixels l.row) l.from l.fn.out.items l.out.items l.at

abbrev pub decreases-loop-at : goal.decreases-loop-at
decreases-loop-at l = length l.pixels - l.at
