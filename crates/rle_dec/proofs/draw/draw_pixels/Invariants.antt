use Rattle.std.proofs.Common.{◌≡◌, ◌+◌, ◌++◌, length, take}
use Rattle.px_core.specs.declared.depth.Depth.TheVariants.{Bits24}
use Rattle.px_core.specs.Pixels.{pixels_of}
use Rattle.rle_dec.proofs.draw.draw_pixels.Given as goal

abbrev pub invariant-loop-bytes : goal.invariant-loop-bytes
invariant-loop-bytes l =
    (l.next + length (pixels_of Bits24 l.bytes) ≡ l.at + length (pixels_of Bits24 l.image)) × (take l.next l.out ++ pixels_of Bits24 l.bytes ≡ take l.at l.fn.out ++ pixels_of Bits24 l.image)

abbrev pub decreases-loop-bytes : goal.decreases-loop-bytes
decreases-loop-bytes l = length l.bytes
