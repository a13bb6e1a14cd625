use Rattle.std.proofs.Common.{drop}
use Rattle.px_core.specs.Pixels.{pixels_bytes}
use Rattle.wire_num.proofs.Sent.{HasSent}
use Rattle.rle_enc.proofs.data.put_each.Given as goal

abbrev pub invariant-loop-pixel : goal.invariant-loop-pixel
invariant-loop-pixel l = HasSent l.fn.out.items (pixels_bytes l.fn.depth l.pixels) l.out.items (pixels_bytes l.fn.depth (drop l.pixel-index l.pixels))
