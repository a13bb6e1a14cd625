use Rattle.std.specs.Prelude.{◌+◌, ◌≤◌, length, zip}
use Rattle.rle_enc.specs.Stretch.{IsPackedTo}
use Rattle.rle_enc.specs.Words.{AreWords}
use Rattle.rle_enc.proofs.stretch.pack_words.Given as goal

abbrev pub invariant-loop-counts : goal.invariant-loop-counts
invariant-loop-counts l = AreWords l.pixels l.row l.at l.words × IsPackedTo l.depth (zip l.pixels l.row) l.from l.fn.out.items l.out.items l.at × (l.at + l.words.left + 3 ≤ length l.pixels)

abbrev pub decreases-loop-counts : goal.decreases-loop-counts
decreases-loop-counts l = l.words.left
