use Rattle.std.proofs.Common.{◌≡◌, ◌+◌, ◌-◌, ◌%◌, ◌≤◌, ◌<◌, length, ap, arith, ◌∙◌}
use Rattle.px_core.specs.Picture.{pixel_at}
use Rattle.surface_parts.proofs.Repaint.{length_mid}
use Rattle.tile_surface.specs.declared.cell.Cell.{Cell}
use Rattle.tile_surface.specs.Cells.{cell_pixels, tile_sides}
use Rattle.tile_surface.proofs.Readings.{more_read}
use Rattle.tile_surface.proofs.rows.read_row.Goals as goal

pub loop-done-preserved : goal.loop-done-preserved
loop-done-preserved c =
    let size = c.args.size in let cells = c.args.cells.now in let x = c.args.x in let y = c.args.y in let done = c.loop-done.done in let n = c.min-n.result in let out = c.loop-done.out in
    let en : (done + n) - done ≡ n = omega arith in
    let left : done < length out = c.loop-done-test.true in
    let short : n ≤ length out - done = omega (arith, c.min-n.ensures) in
    let narrow : (x + done) % 64 + n ≤ 64 = omega (arith, c.min-n.ensures) in
    let wide = length_mid done ((done + n) - done) n out (omega (arith, short, left)) en in
    record {
      pixels = more_read size cells c.index-cells-tile.result x y done n ((done + n) - done) c.tile_number-tile.result out c.read.new.out c.requires.tiled (omega (arith, short, left, c.loop-done.auto.out, c.requires.columns)) c.requires.row narrow
          c.tile_number-tile.ensures.number en (omega (arith, short, left)) (omega (arith, c.read.auto.out, wide)) (λ k below. c.read.ensures k (omega (arith, below, en, wide))
          ∙ ap (λ (cell : Cell). pixel_at tile_sides (cell_pixels cell) 0 ((x + done) % 64 + k) (y % 64)) c.index-cells-tile.is) c.loop-done.invariant.pixels;
      within = omega (arith, short, left, c.loop-done.auto.out);
    }
