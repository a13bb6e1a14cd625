use Rattle.std.proofs.Common.{◌≡◌, ◌+◌, ◌-◌, take}
use Rattle.run_lengths.specs.RunLength.{bits_of}
use Rattle.rle_dec.specs.Drawing.{drawn_onto, masked}
use Rattle.rle_dec.proofs.draw.draw_bits.Given as goal

abbrev pub invariant-loop-k : goal.invariant-loop-k
invariant-loop-k l = drawn_onto l.w (masked l.back l.fore (bits_of (l.n - l.k) l.bits)) (take (l.at + l.k) l.out) ≡ drawn_onto l.w (masked l.back l.fore (bits_of l.n l.byte)) (take l.at l.fn.out)
