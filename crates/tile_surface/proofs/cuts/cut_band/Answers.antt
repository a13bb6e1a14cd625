use Rattle.std.proofs.Common.{◌≡◌, ℕ, ◌+◌, ◌-◌, ◌%◌, ◌≤◌, ◌<◌, ap, subst, ◌∙◌, arith}
use Rattle.px_core.specs.Picture.{pixel_at}
use Rattle.surface_parts.specs.Parts.{in_part, part_at, IsRepainted}
use Rattle.tile_surface.specs.declared.cell.Cell.{Cell}
use Rattle.tile_surface.specs.Cells.{cell_pixels, picture_of, tile_sides}
use Rattle.tile_surface.proofs.Readings.{piece_read}
use Rattle.tile_surface.proofs.Writings.{no_part, part_right_more}
use Rattle.tile_surface.proofs.cuts.cut_band.Goals as goal

pub loop-done-init : goal.loop-done-init
loop-done-init c = let b = c.args.band in let size = c.args.size in record {
  painted = no_part c.args.sides 0 c.args.row b.h (λ u v. pixel_at size (picture_of size c.args.cells.now) 0 (b.x + u) (b.y + (v - c.args.row))) c.args.out.now;
  within = omega arith;
}

pub loop-done-preserved : goal.loop-done-preserved
loop-done-preserved c =
    let size = c.args.size in let cells = c.args.cells.now in let b = c.args.band in let row = c.args.row in let sides = c.args.sides in let done = c.loop-done.done in let n = c.min-w.result in
    let cell = c.index-cells-tile.result in
    let left : done < b.w = c.loop-done-test.true in
    let short : n ≤ b.w - done = omega (arith, c.min-w.ensures) in
    let narrow : (b.x + done) % 64 + n ≤ 64 = omega (arith, c.min-w.ensures) in
    let within : b.x + done + n ≤ size.w = omega (arith, short, left, c.requires.inside.columns) in
    let at : done ≡ 0 + done = omega arith in
    let f : ℕ → ℕ → ℕ = λ u v. pixel_at size (picture_of size cells) 0 (b.x + u) (b.y + (v - row)) in
    let g : ℕ → ℕ → ℕ = λ u v. pixel_at tile_sides (cell_pixels cell) 0 ((b.x + done) % 64 + (u - done)) (b.y % 64 + (v - row)) in
    record {
      painted = part_right_more sides 0 row done n b.h f g c.args.out.now c.loop-done.out c.cut.new.out c.loop-done.invariant.painted
          (subst (λ (k : ℕ). IsRepainted sides (in_part (part_at k row n b.h)) g c.loop-done.out c.cut.new.out) at c.cut.ensures)
          (λ u v wide high low more top bottom.
          let i : u - done < n = omega (arith, low, more) in
          let j : v - row < b.h = omega (arith, top, bottom) in
          let place : (b.x + done) + (u - done) ≡ b.x + u = omega (arith, low) in
          ap (λ (other : Cell). pixel_at tile_sides (cell_pixels other) 0 ((b.x + done) % 64 + (u - done)) (b.y % 64 + (v - row))) c.index-cells-tile.is
          ∙ piece_read size cells cell (b.x + done) b.y n b.h c.tile_number-tile.result c.requires.tiled within c.requires.inside.rows narrow c.requires.one c.tile_number-tile.ensures.number (u - done) (v - row) i j
          ∙ ap (λ k. pixel_at size (picture_of size cells) 0 k (b.y + (v - row))) place);
      within = omega (arith, short, left);
    }

pub returns : goal.returns
returns c = let b = c.args.band in let size = c.args.size in
    let all : c.loop-done.done ≡ b.w = omega (arith, c.loop-done.invariant.within) in
    subst (λ (k : ℕ). IsRepainted c.args.sides (in_part (part_at 0 c.args.row k b.h)) (λ u v. pixel_at size (picture_of size c.args.cells.now) 0 (b.x + u) (b.y + (v - c.args.row))) c.args.out.now c.loop-done.out) all c.loop-done.invariant.painted
