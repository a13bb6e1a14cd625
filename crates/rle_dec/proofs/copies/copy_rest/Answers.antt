use Rattle.std.proofs.Common.{take, arith}
use Rattle.std.proofs.lemmas.List.{length-take-le}
use Rattle.rle_dec.proofs.Places.{copied_pixel}
use Rattle.rle_dec.proofs.copies.copy_rest.Goals as goal

pub loop-k-preserved : goal.loop-k-preserved
loop-k-preserved c = copied_pixel c.args.at c.args.from c.args.n c.loop-k.k (take c.args.at c.args.out.now) c.loop-k.out
    (length-take-le c.args.at c.args.out.now (omega (arith, c.requires.room))) c.requires.drawn c.loop-k-test.true (omega (arith, c.requires.room)) c.loop-k.invariant
