use Rattle.std.proofs.Common.{◌≡◌, ℕ, ◌+◌, ◌-◌, sym, subst, arith}
use Rattle.std.proofs.lemmas.Bool.Decides.{nat_tests}
use Rattle.client_picture.specs.Parts.{in_part, part_at, IsRepainted}
use Rattle.client_picture.specs.Sources.{copied_color}
use Rattle.client_picture.proofs.Repaint.{same_copy, untouched, row_above_more, all_rows}
use Rattle.client_picture.proofs.copies.copy_upwards.Goals as goal

pub loop-k-preserved : goal.loop-k-preserved
loop-k-preserved c = let p = c.args.part in let from = c.args.from in let size = c.args.size in let old = c.args.pixels.now in let cur = c.loop-k.pixels in let k = c.loop-k.k in
    let v = p.y + (p.h - 1 - k) in
    let top = p.y + (p.h - k) in
    let f = copied_color c.args.depth size old p c.args.rop from in
    let same : p.y + (p.h - (k + 1)) ≡ p.y + (p.h - 1 - k) = omega arith in
    subst (λ (r : ℕ). IsRepainted size (in_part (part_at p.x r p.w (k + 1))) f old c.copy_row.new.pixels) (sym same)
    (row_above_more size p.x p.w f (copied_color c.args.depth size cur p c.args.rop from) old cur c.copy_row.new.pixels top k v (omega arith) c.loop-k.invariant c.copy_row.ensures
    (λ u more less. same_copy c.args.depth size p c.args.rop from old cur u v
    (untouched size p.x (p.y + (p.h - k)) p.w k f old cur (from.x + (u - p.x)) (from.y + ((p.y + (p.h - 1 - k)) - p.y)) c.loop-k.invariant (omega (arith, more, less, c.requires.from.columns)) (omega (arith, c.requires.from.rows)) (grind (arith, nat_tests, c.requires.above)))
    (untouched size p.x (p.y + (p.h - k)) p.w k f old cur u (p.y + (p.h - 1 - k)) c.loop-k.invariant (omega (arith, less, c.requires.inside.columns)) (omega (arith, c.requires.inside.rows)) (grind (arith, nat_tests)))))

pub returns : goal.returns
returns c = let p = c.args.part in let size = c.args.size in let f = copied_color c.args.depth c.args.size c.args.pixels.now p c.args.rop c.args.from in let old = c.args.pixels.now in let new = c.loop-k.pixels in let k = c.loop-k.k in
    let top : p.y + (p.h - k) ≡ p.y = omega arith in
    all_rows size p.x p.y p.w k p.h f old new (omega arith) (subst (λ (r : ℕ). IsRepainted size (in_part (part_at p.x r p.w k)) f old new) top c.loop-k.invariant)
