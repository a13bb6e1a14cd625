use Rattle.std.proofs.Common.{◌≡◌, ℕ, ◌+◌, ◌-◌, ◌%◌, ◌≤◌, ◌<◌, length, get_or, ap, subst, arith, ◌∙◌}
use borrow.Rule.Slice.PartMut.{mid_of}
use Rattle.rop3_core.specs.Rop3.{ternary_raster}
use Rattle.surface_parts.specs.Parts.{in_part, part_at, IsRepainted}
use Rattle.surface_parts.proofs.Repaint.{length_mid, mid_item}
use Rattle.tile_surface.specs.Cells.{cell_pixels, picture_of, tile_sides, IsTiled}
use Rattle.tile_surface.specs.Rows.{row_mixed}
use Rattle.tile_surface.proofs.Changed.{more_changed}
use Rattle.tile_surface.proofs.Owning.{keeps_self}
use Rattle.tile_surface.proofs.Writings.{no_part, rest_of_more}
use Rattle.tile_surface.proofs.rows.mix_tiles.Goals as goal

pub loop-done-init : goal.loop-done-init
loop-done-init c = let size = c.args.size in let old = picture_of size c.args.cells.now in record {
  painted = no_part size c.args.x c.args.y 1 (row_mixed size old c.args.rop c.args.pattern.now c.args.source.now c.args.x) old;
  kept = keeps_self size c.args.cells.now;
  within = omega arith;
}

pub loop-done-preserved : goal.loop-done-preserved
loop-done-preserved c =
    let size = c.args.size in let old = c.args.cells.now in let cur = c.loop-done.cells in let x = c.args.x in let y = c.args.y in let done = c.loop-done.done in let n = c.min-n.result in
    let pattern = c.args.pattern.now in let source = c.args.source.now in let tile = c.tile_number-tile.result in let other = c.index-cells-tile.result in let cell = c.mix.new.self in
    let ps = mid_of done ((done + n) - done) pattern in
    let ss = mid_of done ((done + n) - done) source in
    let en : (done + n) - done ≡ n = omega arith in
    let left : done < length pattern = c.loop-done-test.true in
    let short : n ≤ length pattern - done = omega (arith, c.min-n.ensures) in
    let narrow : (x + done) % 64 + n ≤ 64 = omega (arith, c.min-n.ensures) in
    let tiled : IsTiled size cur = record { small = c.requires.tiled.small; sized = c.loop-done.invariant.kept.own.sized ∙ c.requires.tiled.sized } in
    let within : x + done + n ≤ size.w = omega (arith, short, left, c.requires.columns) in
    let first : x + done < size.w = omega (arith, left, c.requires.columns) in
    let long = length_mid done ((done + n) - done) n pattern (omega (arith, short, left)) en in
    let g : ℕ → ℕ → ℕ = row_mixed tile_sides (cell_pixels (get_or cur tile other)) c.args.rop ps ss ((x + done) % 64) in
    let painted = subst (λ (k : ℕ). IsRepainted tile_sides (in_part (part_at ((x + done) % 64) (y % 64) k 1)) g (cell_pixels (get_or cur tile other)) (cell_pixels cell)) long c.mix.ensures.painted in
    record {
      painted = more_changed size old cur other cell x y done n tile (λ k d. ternary_raster c.args.rop (get_or pattern k 0) (get_or source k 0) d) (λ k d. ternary_raster c.args.rop (get_or ps k 0) (get_or ss k 0) d)
          tiled within first c.requires.row narrow c.tile_number-tile.ensures.number c.loop-done.invariant.painted painted
          (λ i d below. ap (λ p. ternary_raster c.args.rop p (get_or ss i 0) d) (mid_item done ((done + n) - done) pattern i (omega (arith, below, en)))
          ∙ ap (λ s. ternary_raster c.args.rop (get_or pattern (done + i) 0) s d) (mid_item done ((done + n) - done) source i (omega (arith, below, en))));
      kept = rest_of_more size old cur other cell x y done n 1 tile g tiled within first c.requires.row (omega (arith, c.requires.row)) narrow (omega arith) c.tile_number-tile.ensures.number painted c.mix.ensures.own c.loop-done.invariant.kept;
      within = omega (arith, short, left);
    }

pub returns-clause-painted : goal.returns-clause-painted
returns-clause-painted c = let size = c.args.size in let old = picture_of size c.args.cells.now in
    let all : c.loop-done.done ≡ length c.args.pattern.now = omega (arith, c.loop-done.invariant.within) in
    subst (λ (k : ℕ). IsRepainted size (in_part (part_at c.args.x c.args.y k 1)) (row_mixed size old c.args.rop c.args.pattern.now c.args.source.now c.args.x) old (picture_of size c.loop-done.cells)) all c.loop-done.invariant.painted
