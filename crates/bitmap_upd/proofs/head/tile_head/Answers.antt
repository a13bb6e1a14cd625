use Rattle.std.proofs.Common.{refl, sym}
use Rattle.bitmap_upd.proofs.head.tile_head.Goals as goal

pub returns : goal.returns
returns c bytes e =
    rw (c.to_le_bytes.ensures, c.to_le_bytes-2.ensures, c.to_le_bytes-3.ensures, c.to_le_bytes-4.ensures, c.to_le_bytes-5.ensures, c.to_le_bytes-6.ensures, c.to_le_bytes-7.ensures, c.to_le_bytes-8.ensures, c.to_le_bytes-9.ensures, c.bits_in.ensures, c.flags_of.ensures, sym e) refl
