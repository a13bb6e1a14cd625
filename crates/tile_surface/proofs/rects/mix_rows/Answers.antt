use Rattle.std.proofs.Common.{◌≡◌, ℕ, ◌+◌, ◌-◌, ◌<◌, ◌^◌, length, get_or, ap, sym, subst, ◌∙◌, arith}
use Rattle.std.proofs.lemmas.Bool.Decides.{nat_tests}
use Rattle.surface_parts.specs.Textures.{mixed_color}
use Rattle.surface_parts.proofs.Repaint.{same_mix, untouched, no_rows, all_rows}
use Rattle.tile_surface.specs.Cells.{picture_of}
use Rattle.tile_surface.specs.Rows.{row_mixed}
use Rattle.tile_surface.proofs.Owning.{keeps_self, keeps_twice}
use Rattle.tile_surface.proofs.RowByRow.{next_row_by, owns_next}
use Rattle.tile_surface.proofs.rects.mix_rows.Goals as goal

pub loop-y-init : goal.loop-y-init
loop-y-init c = let p = c.args.part in let old = picture_of c.args.size c.args.cells.now in record {
  painted = no_rows c.args.size p.x p.y p.w (p.y - p.y) (mixed_color c.args.size old p c.args.mix) old (omega arith);
  kept = keeps_self c.args.size c.args.cells.now;
  pattern = c.ready_pattern.ensures;
}

pub mix_row-requires-clause-own : goal.mix_row-requires-clause-own
mix_row-requires-clause-own c = owns_next c.args.size c.args.part c.args.cells.now c.loop-y.cells c.loop-y.y _ (omega arith) (omega arith) (omega (arith, c.requires.pattern, c.loop-y.auto.pattern, c.set_pattern.auto.row)) c.requires.own c.loop-y.invariant.kept

pub mix_row-requires-clause-pattern_colors : goal.mix_row-requires-clause-pattern_colors
mix_row-requires-clause-pattern_colors c = let p = c.args.part in let y = c.loop-y.y in λ k below.
    subst (λ color. color < 2 ^ 24) (sym (c.set_pattern.ensures.colors k (omega (arith, below, c.set_pattern.auto.row)))) (c.requires.brush_colors (p.x + k) y)

pub mix_row-requires-clause-source_colors : goal.mix_row-requires-clause-source_colors
mix_row-requires-clause-source_colors c = let p = c.args.part in let y = c.loop-y.y in λ k below.
    let seen : k < p.w = omega (arith, below, c.source_row-from.ensures.wide) in
    subst (λ color. color < 2 ^ 24) (sym (c.source_row-from.ensures.colors k seen)) (c.requires.source_colors (p.x + k) y (grind (arith, nat_tests, seen, c.loop-y.auto.y, c.loop-y-test)))

pub loop-y-preserved : goal.loop-y-preserved
loop-y-preserved c = let p = c.args.part in let mix = c.args.mix in let size = c.args.size in let y = c.loop-y.y in
    let old = picture_of size c.args.cells.now in let cur = picture_of size c.loop-y.cells in let pattern = c.set_pattern.new.row in let source = c.source_row-from.result.now in
    let f : ℕ → ℕ → ℕ = mixed_color size old p mix in
    let wide : length pattern ≡ p.w = omega (arith, c.requires.pattern, c.loop-y.auto.pattern, c.set_pattern.auto.row) in
    let high : y < size.h = omega (arith, c.requires.inside.rows) in
    record {
      painted = next_row_by size p f (row_mixed size cur mix.rop pattern source p.x) old cur (picture_of size c.mix_row.new.cells) y (length pattern) (omega arith) wide c.loop-y.invariant.painted c.mix_row.ensures.painted
          (λ i below. let there : (p.x + i) - p.x ≡ i = omega arith in
          same_mix mix.rop _ _ _ _ _ _ (ap (λ k. get_or pattern k 0) there ∙ c.set_pattern.ensures.colors i (omega (arith, below, c.requires.pattern, c.loop-y.auto.pattern)))
          (ap (λ k. get_or source k 0) there ∙ c.source_row-from.ensures.colors i below)
          (untouched size p.x p.y p.w (y - p.y) f old cur (p.x + i) y c.loop-y.invariant.painted (omega (arith, below, c.requires.inside.columns)) high (grind (arith, nat_tests, c.loop-y.auto.y))));
      kept = keeps_twice size c.args.cells.now c.loop-y.cells c.mix_row.new.cells c.loop-y.invariant.kept c.mix_row.ensures.kept;
      pattern = c.set_pattern.ensures.ready;
    }

pub returns-clause-painted : goal.returns-clause-painted
returns-clause-painted c = let p = c.args.part in let old = picture_of c.args.size c.args.cells.now in
    all_rows c.args.size p.x p.y p.w (c.loop-y.y - p.y) p.h (mixed_color c.args.size old p c.args.mix) old (picture_of c.args.size c.loop-y.cells) (omega arith) c.loop-y.invariant.painted
