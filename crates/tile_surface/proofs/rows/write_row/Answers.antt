use Rattle.std.proofs.Common.{◌≡◌, ◌+◌, ◌-◌, ◌%◌, ◌≤◌, ◌<◌, length, arith, ◌∙◌}
use borrow.Rule.Slice.PartMut.{mid_of}
use Rattle.surface_parts.proofs.Repaint.{length_mid, mid_item}
use Rattle.tile_surface.specs.Cells.{IsTiled}
use Rattle.tile_surface.proofs.Writings.{more_written, more_kept}
use Rattle.tile_surface.proofs.rows.write_row.Goals as goal

pub loop-done-preserved : goal.loop-done-preserved
loop-done-preserved c =
    let size = c.args.size in let old = c.args.cells.now in let cur = c.loop-done.cells in let x = c.args.x in let y = c.args.y in let done = c.loop-done.done in let n = c.min-n.result in let row = c.args.row.now in
    let tile = c.tile_number-tile.result in
    let ys = mid_of done ((done + n) - done) row in
    let en : (done + n) - done ≡ n = omega arith in
    let left : done < length row = c.loop-done-test.true in
    let short : n ≤ length row - done = omega (arith, c.min-n.ensures) in
    let narrow : (x + done) % 64 + n ≤ 64 = omega (arith, c.min-n.ensures) in
    let tiled : IsTiled size cur = record { small = c.requires.tiled.small; sized = c.loop-done.invariant.kept.own.sized ∙ c.requires.tiled.sized } in
    let within : x + done + n ≤ size.w = omega (arith, short, left, c.requires.columns) in
    let first : x + done < size.w = omega (arith, left, c.requires.columns) in
    let long = length_mid done ((done + n) - done) n row (omega (arith, short, left)) en in
    record {
      painted = more_written size old cur c.index-cells-tile.result c.write.new.self x y done n tile row ys tiled within first c.requires.row narrow c.tile_number-tile.ensures.number long
          (λ i below. mid_item done ((done + n) - done) row i (omega (arith, below, en))) c.write.ensures.painted c.loop-done.invariant.painted;
      kept = more_kept size old cur c.index-cells-tile.result c.write.new.self x y done n tile row ys tiled within first c.requires.row narrow c.tile_number-tile.ensures.number long
          (λ i below. mid_item done ((done + n) - done) row i (omega (arith, below, en))) c.write.ensures.painted c.write.ensures.own c.loop-done.invariant.kept;
      within = omega (arith, short, left);
    }
