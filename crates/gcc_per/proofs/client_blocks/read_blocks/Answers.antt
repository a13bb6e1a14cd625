use Rattle.std.proofs.Common.{refl, ◌∙◌, arith}
use Rattle.gcc_per.proofs.Blocks.{block_shorter}
use Rattle.gcc_per.proofs.Loop.{all_left, block_left}
use Rattle.gcc_per.proofs.client_blocks.read_blocks.Goals as goal

pub loop-cursor-init : goal.loop-cursor-init
loop-cursor-init c = (all_left _, refl)

pub loop-cursor-smaller : goal.loop-cursor-smaller
loop-cursor-smaller c = block_shorter _ _ _ c.in_ok-found.ensures.0

pub loop-cursor-preserved : goal.loop-cursor-preserved
loop-cursor-preserved c =
    let read = c.in_ok-found.ensures in
    (block_left _ _ _ _ _ c.loop-cursor.invariant.0 (omega (arith, c.loop-cursor-test.true, c.left.ensures)) read.0, read.1 ∙ c.loop-cursor.invariant.1)
