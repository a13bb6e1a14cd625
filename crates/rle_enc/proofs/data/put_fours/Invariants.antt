use Rattle.std.proofs.Common.{length}
use Rattle.std.specs.Prelude.{flat_map}
use Rattle.px_core.specs.declared.depth.Depth.TheVariants.{Bits24}
use Rattle.px_core.specs.Pixels.{pixel_bytes}
use Rattle.wire_num.proofs.Sent.{HasSent}
use Rattle.rle_enc.proofs.data.put_fours.Given as goal

-- what is written is a front of all the pixels, and the others are left
abbrev pub invariant-loop-rest : goal.invariant-loop-rest
invariant-loop-rest l = HasSent l.fn.out.items (flat_map (pixel_bytes Bits24) l.pixels) l.out.items (flat_map (pixel_bytes Bits24) l.rest)

abbrev pub decreases-loop-rest : goal.decreases-loop-rest
decreases-loop-rest l = length l.rest
