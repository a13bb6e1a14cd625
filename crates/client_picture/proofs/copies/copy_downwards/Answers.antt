use Rattle.std.proofs.Common.{◌+◌, ◌-◌, refl, arith}
use Rattle.std.proofs.lemmas.Bool.Decides.{nat_tests}
use Rattle.client_picture.specs.Sources.{copied_color}
use Rattle.client_picture.proofs.Repaint.{same_copy, untouched, row_below_more, all_rows}
use Rattle.client_picture.proofs.copies.copy_downwards.Goals as goal

pub loop-k-preserved : goal.loop-k-preserved
loop-k-preserved c = let p = c.args.part in let from = c.args.from in let size = c.args.size in let old = c.args.pixels.now in let cur = c.loop-k.pixels in let k = c.loop-k.k in
    let v = p.y + k in
    let f = copied_color c.args.depth size old p c.args.rop from in
    row_below_more size p.x p.w f (copied_color c.args.depth size cur p c.args.rop from) old cur c.copy_row.new.pixels p.y k v refl c.loop-k.invariant c.copy_row.ensures
    (λ u more less. same_copy c.args.depth size p c.args.rop from old cur u v
    (untouched size p.x p.y p.w k f old cur (from.x + (u - p.x)) (from.y + ((p.y + k) - p.y)) c.loop-k.invariant (omega (arith, more, less, c.requires.from.columns)) (omega (arith, c.requires.from.rows)) (grind (arith, nat_tests, c.requires.not_above)))
    (untouched size p.x p.y p.w k f old cur u (p.y + k) c.loop-k.invariant (omega (arith, less, c.requires.inside.columns)) (omega (arith, c.requires.inside.rows)) (grind (arith, nat_tests))))

pub returns : goal.returns
returns c = let p = c.args.part in all_rows c.args.size p.x p.y p.w c.loop-k.k p.h (copied_color c.args.depth c.args.size c.args.pixels.now p c.args.rop c.args.from) c.args.pixels.now c.loop-k.pixels (omega arith) c.loop-k.invariant
