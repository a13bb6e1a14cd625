use Rattle.std.proofs.Common.{◌≡◌, ◌++◌, take}
use Rattle.std.specs.Prelude.{flat_map}
use Rattle.px_core.specs.Pixels.{pixel_bytes}
use Rattle.rle_enc.proofs.orders.write_each.Given as goal

abbrev pub invariant-loop-pixel : goal.invariant-loop-pixel
invariant-loop-pixel l = l.out.items ≡ l.fn.out.items ++ flat_map (pixel_bytes l.depth) (take l.pixel-index l.pixels)
