use Rattle.std.proofs.Common.{◌≡◌, ℕ, ◌+◌, ◌-◌, refl, sym, subst, arith}
use Rattle.std.proofs.lemmas.Bool.Decides.{nat_tests}
use Rattle.rop3_core.proofs.RasterBits.{ternary_raster_below}
use Rattle.surface_parts.specs.Parts.{in_part, part_at, IsRepainted}
use Rattle.surface_parts.specs.Textures.{copied_color}
use Rattle.surface_parts.proofs.Repaint.{same_mix, untouched, row_above_more}
use Rattle.tile_surface.specs.Cells.{picture_of}
use Rattle.tile_surface.proofs.Colored.{repainted_colored}
use Rattle.tile_surface.proofs.Owning.{keeps_twice}
use Rattle.tile_surface.proofs.copies.copy_upwards.Goals as goal

pub copy_row-requires-clause-colors : goal.copy_row-requires-clause-colors
copy_row-requires-clause-colors c = let p = c.args.part in let size = c.args.size in let old = picture_of size c.args.cells.now in
    repainted_colored size (in_part (part_at p.x (p.y + (p.h - c.loop-k.k)) p.w c.loop-k.k)) (copied_color size old p c.args.copy) old (picture_of size c.loop-k.cells) c.requires.colors
    (λ x y. ternary_raster_below c.args.copy.rop _ _ _) c.loop-k.invariant.painted

pub loop-k-preserved : goal.loop-k-preserved
loop-k-preserved c = let p = c.args.part in let copy = c.args.copy in let size = c.args.size in let k = c.loop-k.k in
    let old = picture_of size c.args.cells.now in let cur = picture_of size c.loop-k.cells in let new = picture_of size c.copy_row.new.cells in
    let v = p.y + (p.h - 1 - k) in
    let top = p.y + (p.h - k) in
    let f = copied_color size old p copy in
    let done = c.loop-k.invariant.painted in
    let same : p.y + (p.h - (k + 1)) ≡ p.y + (p.h - 1 - k) = omega arith in record {
      painted = subst (λ (r : ℕ). IsRepainted size (in_part (part_at p.x r p.w (k + 1))) f old new) (sym same)
          (row_above_more size p.x p.w f (copied_color size cur p copy) old cur new top k v (omega arith) done c.copy_row.ensures.painted
          (λ u more less. same_mix copy.rop 0 0 _ _ _ _ refl
          (untouched size p.x (p.y + (p.h - k)) p.w k f old cur (copy.x + (u - p.x)) (copy.y + ((p.y + (p.h - 1 - k)) - p.y)) done (omega (arith, more, less, c.requires.from.columns)) (omega (arith, c.requires.from.rows)) (grind (arith, nat_tests, c.requires.above)))
          (untouched size p.x (p.y + (p.h - k)) p.w k f old cur u (p.y + (p.h - 1 - k)) done (omega (arith, less, c.requires.inside.columns)) (omega (arith, c.requires.inside.rows)) (grind (arith, nat_tests)))));
      kept = keeps_twice size c.args.cells.now c.loop-k.cells c.copy_row.new.cells c.loop-k.invariant.kept c.copy_row.ensures.kept;
    }

pub returns-clause-painted : goal.returns-clause-painted
returns-clause-painted c = let p = c.args.part in let size = c.args.size in let k = c.loop-k.k in
    let old = picture_of size c.args.cells.now in let new = picture_of size c.loop-k.cells in
    let f = copied_color size old p c.args.copy in
    let all : k ≡ p.h = omega arith in
    let top : p.y + (p.h - k) ≡ p.y = omega arith in
    subst (λ (r : ℕ). IsRepainted size (in_part (part_at p.x r p.w p.h)) f old new) top
    (subst (λ (n : ℕ). IsRepainted size (in_part (part_at p.x (p.y + (p.h - k)) p.w n)) f old new) all c.loop-k.invariant.painted)
