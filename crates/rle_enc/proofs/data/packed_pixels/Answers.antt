use Rattle.rle_enc.proofs.Shorter.{shorter_is_packed, longer_is_raw}
use Rattle.rle_enc.proofs.data.packed_pixels.Goals as goal

pub returns-in-Packed-clause-value : goal.returns-in-Packed-clause-value
returns-in-Packed-clause-value c = let p = rw c.in-Packed.is at c.in_ok-bytes.ensures.packed in shorter_is_packed c.args.depth c.args.no_header c.args.w c.args.pixels.now c.in-Packed.bytes.items c.if-not-no_header.false p.0 p.1

pub returns-in-Raw-clause-value : goal.returns-in-Raw-clause-value
returns-in-Raw-clause-value c = let p = rw c.in-Raw.is at c.in_ok-bytes.ensures.packed in longer_is_raw c.args.depth c.args.no_header c.args.w c.args.pixels.now c.if-not-no_header.false p
