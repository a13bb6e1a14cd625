use Rattle.std.proofs.Common.{◌≡◌, ◌+◌, ◌-◌, ◌%◌, ◌≤◌, ◌<◌, length, get_or, refl, ap, arith, ◌∙◌}
use Rattle.std.proofs.lemmas.Bool.Decides.{nat_tests}
use Rattle.surface_parts.specs.Parts.{part_at}
use Rattle.tile_surface.specs.declared.walk.Piece.{Piece}
use Rattle.tile_surface.specs.Cells.{cell_pixels, picture_of, IsTiled}
use Rattle.tile_surface.specs.Dyes.{dyed, dyed_there}
use Rattle.tile_surface.proofs.Owning.{keeps_self, owns_there}
use Rattle.tile_surface.proofs.Pieces.{piece_changed}
use Rattle.tile_surface.proofs.Writings.{no_part, rest_of_more}
use Rattle.tile_surface.proofs.walk.dye_band.Goals as goal

pub loop-done-init : goal.loop-done-init
loop-done-init g c = let b = c.args.band in let old = picture_of c.args.size c.args.cells.now in record {
  painted = no_part c.args.size b.x b.y b.h (dyed (g.D.Dye.color c.args.dye.now c.args.part) c.args.size old) old;
  kept = keeps_self c.args.size c.args.cells.now;
  within = omega arith;
}

pub dye-requires-clause-own : goal.dye-requires-clause-own
dye-requires-clause-own g c = let b = c.args.band in let done = c.loop-done.done in
    let left : done < b.w = c.loop-done-test.true in
    let small : c.tile_number-tile.result < length c.loop-done.cells = omega (arith, c.tile_number-tile.ensures.bound, c.loop-done.invariant.kept.own.sized, c.requires.tiled.sized) in
    owns_there c.args.cells.now c.loop-done.cells c.index-cells-tile.result b (b.x + done) b.y c.tile_number-tile.result c.loop-done.invariant.kept.own c.requires.own c.tile_number-tile.ensures.number small
    (grind (arith, nat_tests, left, c.requires.some))

pub dye-requires-clause-piece : goal.dye-requires-clause-piece
dye-requires-clause-piece g c = let is = c.requires.band in
    let short : c.min-w.result ≤ c.args.band.w - c.loop-done.done = omega (arith, c.min-w.ensures) in
    record {
      left = omega (arith, is.left);
      right = omega (arith, is.left, is.wide, short, c.loop-done-test.true);
      top = is.top;
      bottom = is.bottom;
      column = refl;
      row = refl;
      inside = record { columns = omega (arith, c.min-w.ensures); rows = c.requires.one };
    }

pub loop-done-preserved : goal.loop-done-preserved
loop-done-preserved g c =
    let size = c.args.size in let old = c.args.cells.now in let cur = c.loop-done.cells in let b = c.args.band in let color = g.D.Dye.color c.args.dye.now c.args.part in let done = c.loop-done.done in let n = c.min-w.result in
    let tile = c.tile_number-tile.result in let other = c.index-cells-tile.result in
    let left : done < b.w = c.loop-done-test.true in
    let short : n ≤ b.w - done = omega (arith, c.min-w.ensures) in
    let narrow : (b.x + done) % 64 + n ≤ 64 = omega (arith, c.min-w.ensures) in
    let tiled : IsTiled size cur = record { small = c.requires.tiled.small; sized = c.loop-done.invariant.kept.own.sized ∙ c.requires.tiled.sized } in
    let within : b.x + done + n ≤ size.w = omega (arith, short, left, c.requires.inside.columns) in
    let first : b.x + done < size.w = omega (arith, left, c.requires.inside.columns) in
    let above : b.y < size.h = omega (arith, c.requires.some, c.requires.inside.rows) in
    let piece : Piece = record { spot = part_at ((b.x + done) % 64) (b.y % 64) n b.h; x = b.x + done; y = b.y } in
    record {
      painted = piece_changed size old cur other c.dye.new.cell b.x b.y done n b.h tile color
          (λ u v d. color (b.x + done + (u - (b.x + done) % 64)) (b.y + (v - b.y % 64)) d)
          tiled within first above c.requires.inside.rows narrow c.requires.one c.tile_number-tile.ensures.number c.loop-done.invariant.painted c.dye.ensures.painted
          (λ u v d low more top bottom.
          let column : b.x + done + (u % 64 - (b.x + done) % 64) ≡ u = omega (arith, low, more, narrow) in
          let row : b.y + (v % 64 - b.y % 64) ≡ v = omega (arith, top, bottom, c.requires.one) in
          ap (λ k. color k (b.y + (v % 64 - b.y % 64)) d) column ∙ ap (λ k. color u k d) row);
      kept = rest_of_more size old cur other c.dye.new.cell b.x b.y done n b.h tile (dyed_there color piece (cell_pixels (get_or cur tile other)))
          tiled within first above c.requires.inside.rows narrow c.requires.one c.tile_number-tile.ensures.number
          c.dye.ensures.painted c.dye.ensures.own c.loop-done.invariant.kept;
      within = omega (arith, short, left);
    }
