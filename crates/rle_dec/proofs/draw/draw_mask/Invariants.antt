use Rattle.std.proofs.Common.{◌≡◌, ◌+◌, ◌≤◌, drop, take}
use Rattle.run_lengths.specs.RunLength.{mask_bits}
use Rattle.rle_dec.specs.Drawing.{drawn_onto, masked}
use Rattle.rle_dec.proofs.draw.draw_mask.Given as goal

abbrev pub invariant-loop-byte : goal.invariant-loop-byte
invariant-loop-byte l =
    (l.at ≤ l.next) × (l.next + l.left ≡ l.at + l.n)
    × (drawn_onto l.w (masked l.back l.fore (mask_bits l.left (drop l.byte-index l.mask))) (take l.next l.out) ≡ drawn_onto l.w (masked l.back l.fore (mask_bits l.n l.mask)) (take l.at l.fn.out))
