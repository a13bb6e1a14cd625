use Rattle.std.proofs.Common.{◌≡◌, ◌++◌, length}
use Rattle.std.specs.Prelude.{flat_map}
use Rattle.px_core.specs.Pixels.{pixel_bytes}
use Rattle.rle_enc.proofs.orders.write_pixels.Given as goal

-- what is written, before the pixels that are left, is what was there before them all
abbrev pub invariant-loop-rest : goal.invariant-loop-rest
invariant-loop-rest l = l.out.items ++ flat_map (pixel_bytes l.depth) l.rest ≡ l.fn.out.items ++ flat_map (pixel_bytes l.depth) l.pixels

abbrev pub decreases-loop-rest : goal.decreases-loop-rest
decreases-loop-rest l = length l.rest
