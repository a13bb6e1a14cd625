use Rattle.std.proofs.Common.{◌≡◌, ◌+◌, ◌-◌, ◌≤◌, ap, arith, ◌∙◌}
use Rattle.std.specs.Prelude.{if◌then◌else◌}
use Rattle.px_core.specs.Picture.{pixel_at}
use Rattle.surface_parts.specs.Bits.{is_ink}
use Rattle.tile_surface.specs.Cells.{cell_pixels, tile_sides}
use Rattle.tile_surface.proofs.Pasted.{painted_alike, rows_fit}
use Rattle.tile_surface.proofs.inks.InkDye.dye.Goals as goal

pub ink-requires-clause-bits : goal.ink-requires-clause-bits
ink-requires-clause-bits c =
    let i = c.args.self.now in let p = c.args.part in let piece = c.args.piece in let is = c.requires.piece in let has = c.requires.fits in
    let more : (i.bits.row + (piece.y - p.y)) + piece.spot.h ≤ i.bits.row + p.h = omega (arith, is.top, is.bottom) in
    let fit = rows_fit i.bits.row_bytes ((i.bits.row + (piece.y - p.y)) + piece.spot.h) (i.bits.row + p.h) more in
    record {
      columns = omega (arith, has.columns, is.left, is.right);
      rows = omega (arith, fit, has.rows);
      narrow = has.narrow;
      low = omega (arith, has.low, more);
    }

pub returns-clause-painted : goal.returns-clause-painted
returns-clause-painted c =
    let i = c.args.self.now in let bits = i.bits in let p = c.args.part in let piece = c.args.piece in let is = c.requires.piece in
    painted_alike _ _ _ _ _ _ c.ink.ensures.painted (λ u v wide high here.
    let old = pixel_at tile_sides (cell_pixels c.args.cell.now) 0 u v in
    let column : (bits.column + (piece.x - p.x)) + (u - piece.spot.x) ≡ bits.column + ((piece.x + (u - piece.spot.x)) - p.x) = omega (arith, is.left) in
    let row : (bits.row + (piece.y - p.y)) + (v - piece.spot.y) ≡ bits.row + ((piece.y + (v - piece.spot.y)) - p.y) = omega (arith, is.top) in
    ap (λ k. if is_ink bits.bytes.now bits.row_bytes k ((bits.row + (piece.y - p.y)) + (v - piece.spot.y)) then i.color else old) column
    ∙ ap (λ r. if is_ink bits.bytes.now bits.row_bytes (bits.column + ((piece.x + (u - piece.spot.x)) - p.x)) r then i.color else old) row)
