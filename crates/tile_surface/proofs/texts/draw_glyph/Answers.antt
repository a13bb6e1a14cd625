use Rattle.std.proofs.Common.{◌≡◌, ℕ, ◌+◌, ◌/◌, ◌*◌, ◌≤◌, List, length, ◌∙◌, ap, subst, sym, arith, w32, to_z, of_z, pos, rules}
use Rattle.std.specs.Prelude.{◌&&◌}
use Rattle.std.proofs.lemmas.Int.{ints, to_z-of_z}
use Rattle.px_core.specs.declared.rectangle.Rect.{Rect}
use Rattle.px_core.specs.Picture.{both, painted}
use Rattle.px_core.specs.Rectangle.{in_clip, in_rect}
use Rattle.rop3_core.specs.Palette.{session_colors}
use Rattle.draw_ops.specs.Formulas.{glyph_cell, inked, solid}
use Rattle.surface_parts.specs.declared.glyphs.Bits.{Bits}
use Rattle.surface_parts.proofs.Rules.{glyph_keeps}
use Rattle.surface_parts.proofs.Inks.{glyph_drawn, glyph_unseen}
use Rattle.tile_surface.specs.Cells.{picture_of}
use Rattle.tile_surface.proofs.Owning.{owns_part}
use Rattle.tile_surface.proofs.Tiled.{tiled_length}
use Rattle.tile_surface.proofs.texts.draw_glyph.Goals as goal

rows_fit : (w a h : ℕ) → a ≤ h → w * a ≤ w * h
rows_fit w a h le = grind (arith, le)

pub ink_part-requires-clause-bits : goal.ink_part-requires-clause-bits
ink_part-requires-clause-bits c = let g = c.args.glyph.now in let k = glyph_keeps g c.requires.rule in let p = c.in-Some.part in let within = c.in-Some.ensures.within in
    let ew : c.cell_of-cell.result.w ≡ g.cx = ap (λ (r : Rect). r.w) c.cell_of-cell.ensures.cell in
    let eh : c.cell_of-cell.result.h ≡ g.cy = ap (λ (r : Rect). r.h) c.cell_of-cell.ensures.cell in
    let cx : c.from.result ≡ g.cx = c.from.ensures ∙ c.cx.ensures in
    let low : c.source_place-in-Some.result + p.h ≤ g.cy = omega (arith, ints, within.below, eh, c.source_place-in-Some.ensures) in
    let fit = rows_fit ((c.from.result + 7) / 8) (c.source_place-in-Some.result + p.h) g.cy low in
    let whole : (c.from.result + 7) / 8 * g.cy ≡ (g.cx + 7) / 8 * g.cy = ap (λ n. (n + 7) / 8 * g.cy) cx in
    record {
      columns = omega (arith, ints, within.right, ew, cx, c.source_place.ensures);
      rows = omega (arith, fit, whole, k.whole, ap (λ (bs : List ℕ). length bs) c.bits.ensures);
      narrow = omega (arith, cx, k.wide);
      low = omega (arith, low, k.high);
    }

pub ink_part-requires-clause-own : goal.ink_part-requires-clause-own
ink_part-requires-clause-own c = let g = c.args.glyph.now in
    let ex : to_z w32 (of_z w32 c.args.pen.x) ≡ c.args.pen.x = search (rules, to_z-of_z) in
    let ey : to_z w32 (of_z w32 c.args.pen.y) ≡ c.args.pen.y = search (rules, to_z-of_z) in
    let cell : c.cell_of-cell.result ≡ glyph_cell g c.args.pen.x c.args.pen.y = simp (ex, ey) at c.cell_of-cell.ensures.cell in
    owns_part c.args.window.size c.args.cells.now (both (in_clip c.args.window.clip) (in_rect (glyph_cell g c.args.pen.x c.args.pen.y))) c.in-Some.part c.in-Some.ensures.inside c.requires.own
    (λ x y left above. c.in-Some.ensures.pixels x y left above ∙ ap (λ (r : Rect). in_clip c.args.window.clip (pos x) (pos y) && in_rect r (pos x) (pos y)) cell)

pub returns-in-None-clause-painted : goal.returns-in-None-clause-painted
returns-in-None-clause-painted c = let g = c.args.glyph.now in let size = c.args.window.size in let old = picture_of size c.args.cells.now in
    let ex : to_z w32 (of_z w32 c.args.pen.x) ≡ c.args.pen.x = search (rules, to_z-of_z) in
    let ey : to_z w32 (of_z w32 c.args.pen.y) ≡ c.args.pen.y = search (rules, to_z-of_z) in
    let cell : c.cell_of-cell.result ≡ glyph_cell g c.args.pen.x c.args.pen.y = simp (ex, ey) at c.cell_of-cell.ensures.cell in
    subst (λ (r : Rect). old ≡ painted size (both (in_clip c.args.window.clip) (inked r g.bits)) (solid session_colors c.args.pen.color) old) cell
    (glyph_unseen size (in_clip c.args.window.clip) c.cell_of-cell.result g.bits c.args.pen.color old (tiled_length size c.args.cells.now) (λ x y left above. c.in-None.ensures.pixels x y left above))

pub returns-in-Some-clause-painted : goal.returns-in-Some-clause-painted
returns-in-Some-clause-painted c = let g = c.args.glyph.now in let size = c.args.window.size in let old = picture_of size c.args.cells.now in let new = picture_of size c.ink_part.new.cells in
    let ex : to_z w32 (of_z w32 c.args.pen.x) ≡ c.args.pen.x = search (rules, to_z-of_z) in
    let ey : to_z w32 (of_z w32 c.args.pen.y) ≡ c.args.pen.y = search (rules, to_z-of_z) in
    let cell : c.cell_of-cell.result ≡ glyph_cell g c.args.pen.x c.args.pen.y = simp (ex, ey) at c.cell_of-cell.ensures.cell in
    let b : Bits = record { bytes = c.bits.result; row_bytes = (c.from.result + 7) / 8; column = c.source_place.result; row = c.source_place-in-Some.result } in
    let ew : c.from.result ≡ c.cell_of-cell.result.w = c.from.ensures ∙ c.cx.ensures ∙ sym (ap (λ (r : Rect). r.w) cell) in
    subst (λ (r : Rect). new ≡ painted size (both (in_clip c.args.window.clip) (inked r g.bits)) (solid session_colors c.args.pen.color) old) cell
    (glyph_drawn size (in_clip c.args.window.clip) c.cell_of-cell.result g.bits c.args.pen.color old (tiled_length size c.args.cells.now) c.in-Some.part b new c.ink_part.ensures.painted
    (λ x y left above. c.in-Some.ensures.pixels x y left above) c.bits.ensures (ap (λ n. (n + 7) / 8) ew) (omega (arith, ints, c.source_place.ensures)) (omega (arith, ints, c.source_place-in-Some.ensures)))
