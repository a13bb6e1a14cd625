use Rattle.std.proofs.Common.{◌+◌, ◌-◌, ◌<◌, ◌^◌, length, refl, subst, sym, arith}
use Rattle.surface_parts.specs.Textures.{copied_color}
use Rattle.surface_parts.proofs.Repaint.{same_mix}
use Rattle.tile_surface.specs.Cells.{picture_of}
use Rattle.tile_surface.specs.Rows.{row_mixed}
use Rattle.tile_surface.proofs.Copied.{row_again}
use Rattle.tile_surface.proofs.copies.copy_row.Goals as goal

pub mix_row-requires-clause-pattern_colors : goal.mix_row-requires-clause-pattern_colors
mix_row-requires-clause-pattern_colors c = λ k below. omega (arith, c.requires.blank k below)

pub mix_row-requires-clause-source_colors : goal.mix_row-requires-clause-source_colors
mix_row-requires-clause-source_colors c = let p = c.args.part in let copy = c.args.copy in λ k below.
    let seen : k < p.w = omega (arith, below, c.read_row.auto.out, c.requires.source) in
    subst (λ color. color < 2 ^ 24) (sym (c.read_row.ensures k (omega (arith, seen, c.requires.source))))
    (c.requires.colors (copy.x + k) (copy.y + (c.args.y - p.y)) (omega (arith, seen, c.requires.from.columns)) (omega (arith, c.requires.above, c.requires.below, c.requires.from.rows)))

pub returns-clause-painted : goal.returns-clause-painted
returns-clause-painted c = let p = c.args.part in let copy = c.args.copy in let size = c.args.size in let old = picture_of size c.args.cells.now in let y = c.args.y in let pattern = c.args.pattern.now in
    row_again size p.x y p.w (length pattern) (copied_color size old p copy) (row_mixed size old copy.rop pattern c.read_row.new.out p.x) old (picture_of size c.mix_row.new.cells) c.requires.pattern c.mix_row.ensures.painted
    (λ u more less. let below : u - p.x < p.w = omega (arith, more, less) in
    same_mix copy.rop _ _ _ _ _ _ (c.requires.blank (u - p.x) (omega (arith, below, c.requires.pattern))) (c.read_row.ensures (u - p.x) (omega (arith, below, c.requires.source))) refl)
