-- At the codes that copy or invert, the row's loop does what the operation does at each place.
use Rattle.std.proofs.Common.{◌∙◌, slice_index, rules}
use Rattle.rop3_core.proofs.WholeWords.{copy_is_raster, pattern_is_raster, invert_is_raster}
use Rattle.rop3_core.proofs.row.rop_row.Goals as goal

pub returns-in-204 : goal.returns-in-204
returns-in-204 c = λ k below. let p = slice_index c.args.p.now k in let s = slice_index c.args.s.now k in let d = slice_index c.args.d.now k in
    rw c.in-204.is (c.copy_row.ensures k below ∙ copy_is_raster p s d)

pub returns-in-240 : goal.returns-in-240
returns-in-240 c = λ k below. let p = slice_index c.args.p.now k in let s = slice_index c.args.s.now k in let d = slice_index c.args.d.now k in
    rw c.in-240.is (c.copy_row-in-240.ensures k below ∙ pattern_is_raster p s d)

pub returns-in-102 : goal.returns-in-102
returns-in-102 c = λ k below. let p = slice_index c.args.p.now k in let s = slice_index c.args.s.now k in let d = slice_index c.args.d.now k in
    rw c.in-102.is (c.invert_row.ensures k below ∙ invert_is_raster p s d)

pub returns-in_default : goal.returns-in_default
returns-in_default c = search rules
