use Rattle.std.proofs.Common.{◌≡◌, ◌≤◌, length}
use Rattle.rle_dec.specs.Drawing.{drawn_whole}
use Rattle.rle_dec.specs.Steps.{still_drawn}
use Rattle.rle_dec.proofs.bitmap.draw_stream.Given as goal

abbrev pub invariant-loop-at : goal.invariant-loop-at
invariant-loop-at l =
    (length l.stream ≤ length l.bytes) × (l.at ≤ length l.out) × (still_drawn l.depth l.w l.at l.foreground l.before l.out l.stream ≡ drawn_whole l.depth l.w (length l.out) l.bytes)

abbrev pub decreases-loop-at : goal.decreases-loop-at
decreases-loop-at l = length l.stream
