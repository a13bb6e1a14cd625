use Rattle.std.proofs.Common.{◌∙◌, ap, length, arith}
use Rattle.px_core.specs.Colors.{are_colors}
use Rattle.px_core.proofs.Turned.{rows_left, split_is, turn_step, turn_done, length-turned_over, turned_over_colors}
use Rattle.order_read.proofs.pixels.turned_over.Goals as goal

pub loop-y-preserved : goal.loop-y-preserved
loop-y-preserved c =
    let p = turn_step c.args.w c.args.h c.loop-y.y c.loop-y.above.now c.split_at.result.0.now c.split_at.result.1.now c.loop-y.out.items c.extend_from_slice.new.self.items _ c.loop-y-test.true c.loop-y.invariant.left
    (split_is _ _ _ _ c.split_at.ensures.front c.split_at.ensures.back) (omega (arith, c.split_at.ensures.back_len, c.loop-y.invariant.left, rows_left c.args.w c.args.h c.loop-y.y c.loop-y-test.true)) c.in_ok-extend_from_slice.ensures.items c.loop-y.invariant.written in
    record { left = p.0; written = p.1 }

pub returns-clause-number : goal.returns-clause-number
returns-clause-number c =
    ap length (turn_done c.args.w c.args.h c.loop-y.y c.loop-y.above.now c.loop-y.out.items _ c.loop-y-test.false c.loop-y.invariant.written) ∙ length-turned_over c.args.w c.args.h c.args.pixels.now c.requires

pub returns-clause-colors : goal.returns-clause-colors
returns-clause-colors c colors =
    ap are_colors (turn_done c.args.w c.args.h c.loop-y.y c.loop-y.above.now c.loop-y.out.items _ c.loop-y-test.false c.loop-y.invariant.written) ∙ turned_over_colors c.args.w c.args.h c.args.pixels.now c.requires colors
