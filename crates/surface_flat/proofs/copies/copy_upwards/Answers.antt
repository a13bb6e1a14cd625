use Rattle.std.proofs.Common.{◌≡◌, ℕ, ◌+◌, ◌-◌, refl, sym, subst, arith}
use Rattle.std.proofs.lemmas.Bool.Decides.{nat_tests}
use Rattle.surface_parts.specs.Parts.{in_part, part_at, IsRepainted}
use Rattle.surface_parts.specs.Textures.{copied_color}
use Rattle.surface_parts.proofs.Repaint.{same_mix, untouched, row_above_more}
use Rattle.surface_flat.proofs.copies.copy_upwards.Goals as goal

pub loop-k-preserved : goal.loop-k-preserved
loop-k-preserved c = let p = c.args.part in let copy = c.args.copy in let size = c.args.size in let old = c.args.pixels.now in let cur = c.loop-k.pixels in let k = c.loop-k.k in
    let v = p.y + (p.h - 1 - k) in
    let top = p.y + (p.h - k) in
    let f = copied_color size old p copy in
    let same : p.y + (p.h - (k + 1)) ≡ p.y + (p.h - 1 - k) = omega arith in
    subst (λ (r : ℕ). IsRepainted size (in_part (part_at p.x r p.w (k + 1))) f old c.copy_row.new.pixels) (sym same)
    (row_above_more size p.x p.w f (copied_color size cur p copy) old cur c.copy_row.new.pixels top k v (omega arith) c.loop-k.invariant c.copy_row.ensures
    (λ u more less. same_mix copy.rop 0 0 _ _ _ _ refl
    (untouched size p.x (p.y + (p.h - k)) p.w k f old cur (copy.x + (u - p.x)) (copy.y + ((p.y + (p.h - 1 - k)) - p.y)) c.loop-k.invariant (omega (arith, more, less, c.requires.from.columns)) (omega (arith, c.requires.from.rows)) (grind (arith, nat_tests, c.requires.above)))
    (untouched size p.x (p.y + (p.h - k)) p.w k f old cur u (p.y + (p.h - 1 - k)) c.loop-k.invariant (omega (arith, less, c.requires.inside.columns)) (omega (arith, c.requires.inside.rows)) (grind (arith, nat_tests)))))
