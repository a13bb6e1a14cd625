use Rattle.std.proofs.Common.{arith, take}
use Rattle.rle_dec.proofs.Places.{crossed_placed}
use Rattle.rle_dec.proofs.draw.draw_crossed.Goals as goal

pub loop-k-preserved : goal.loop-k-preserved
loop-k-preserved c = crossed_placed c.args.w c.args.at c.loop-k.k c.args.foreground (take c.args.at c.args.out.now) c.loop-k.out c.requires.wide c.requires.row
    (omega (arith, c.requires.room, c.loop-k-test.true)) c.loop-k.invariant
