use Rattle.std.proofs.Common.{◌∙◌, ap, length}
use Rattle.px_core.specs.Colors.{are_colors}
use Rattle.px_core.proofs.Turned.{split_is}
use Rattle.rle_enc.proofs.Padded.{pad_step, pad_done, padded_colors, length-padded_rows}
use Rattle.rle_enc.proofs.rows.pad_rows.Goals as goal

pub loop-y-preserved : goal.loop-y-preserved
loop-y-preserved c =
    let p = pad_step c.args.w c.args.h c.loop-y.y c.loop-y.below.now c.split_at.result.1.now c.split_at.result.0.now c.loop-y.out.items c.put_padded_row.new.out.items _ c.loop-y-test.true c.loop-y.invariant.left
    (split_is _ _ _ _ c.split_at.ensures.front c.split_at.ensures.back) c.split_at.ensures.front_len c.in_ok-put_padded_row.ensures c.loop-y.invariant.written in
    record { left = p.0; written = p.1 }

pub returns-clause-colors : goal.returns-clause-colors
returns-clause-colors c colors =
    ap are_colors (pad_done c.args.w c.args.h c.loop-y.y c.loop-y.below.now c.loop-y.out.items _ c.loop-y-test.false c.loop-y.invariant.written) ∙ padded_colors c.args.w c.args.h c.args.pixels.now colors

pub returns-clause-number : goal.returns-clause-number
returns-clause-number c =
    ap length (pad_done c.args.w c.args.h c.loop-y.y c.loop-y.below.now c.loop-y.out.items _ c.loop-y-test.false c.loop-y.invariant.written) ∙ length-padded_rows c.args.w c.args.h c.args.pixels.now c.requires.number
