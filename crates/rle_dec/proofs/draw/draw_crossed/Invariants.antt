use Rattle.std.proofs.Common.{◌≡◌, ◌+◌, replicate, take}
use Rattle.run_lengths.specs.declared.strokes.Stroke.TheVariants.{Crossed}
use Rattle.rle_dec.specs.Drawing.{drawn_onto}
use Rattle.rle_dec.proofs.draw.draw_crossed.Given as goal

abbrev pub invariant-loop-k : goal.invariant-loop-k
invariant-loop-k l = take (l.at + l.k) l.out ≡ drawn_onto l.w (replicate l.k (Crossed l.foreground)) (take l.at l.fn.out)
