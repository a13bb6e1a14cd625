use Rattle.std.proofs.Common.{length, length-append, ap, arith}
use Rattle.std.specs.Prelude.{option_copied}
use Rattle.px_core.specs.Picture.{turned_over}
use Rattle.rle_enc.specs.Packed.{data_given}
use Rattle.rle_enc.proofs.Bytes.{shown_bytes}
use Rattle.bitmap_upd.proofs.Body.{raw_length}
use Rattle.bitmap_upd.proofs.tile.TileBody.size.Goals as goal

pub returns : goal.returns
returns c =
    let s = c.self.inside in
    let raw = shown_bytes s.depth (turned_over s.w s.h s.pixels.now) in
    let is = c.bytes_of.ensures.value raw (raw_length s.depth s.w s.h s.pixels.now c.self.invariant.1) in
    let head = c.self.invariant.0 in
    let both = length-append c.self.inside.head (data_given (option_copied s.packed) raw).bytes in
    let view = ap length c.self.view_is in
    omega (arith, is, head, both, view)
