use Rattle.std.proofs.Common.{◌≡◌, ◌+◌, ◌≤◌, replicate, take}
use Rattle.run_lengths.specs.declared.strokes.Stroke.TheVariants.{Above}
use Rattle.rle_dec.specs.Drawing.{drawn_onto}
use Rattle.rle_dec.proofs.draw.draw_above.Given as goal

abbrev pub invariant-loop-left : goal.invariant-loop-left
invariant-loop-left l =
    (l.w ≤ l.next) × (l.next + l.left ≡ l.at + l.n) × (drawn_onto l.w (replicate l.left Above) (take l.next l.out) ≡ drawn_onto l.w (replicate l.n Above) (take l.at l.fn.out))

abbrev pub decreases-loop-left : goal.decreases-loop-left
decreases-loop-left l = l.left
