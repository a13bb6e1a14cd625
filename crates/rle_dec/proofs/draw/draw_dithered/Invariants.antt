use Rattle.std.proofs.Common.{◌≡◌, ◌+◌, ◌*◌, ◌-◌, take}
use Rattle.run_lengths.specs.RunLength.{dithered_strokes}
use Rattle.rle_dec.specs.Drawing.{drawn_onto}
use Rattle.rle_dec.proofs.draw.draw_dithered.Given as goal

abbrev pub invariant-loop : goal.invariant-loop
invariant-loop l =
    (l.next ≡ l.at + 2 * l.counter)
    × (drawn_onto l.w (dithered_strokes (l.n - l.counter) l.first l.second) (take l.next l.out) ≡ drawn_onto l.w (dithered_strokes l.n l.first l.second) (take l.at l.fn.out))
