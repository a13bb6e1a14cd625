use Rattle.std.proofs.Common.{◌≡◌, ℕ, ◌+◌, ◌/◌, ◌*◌, ◌≤◌, List, length, ◌∙◌, ap, subst, sym, arith, w32, to_z, of_z, rules}
use Rattle.std.proofs.lemmas.Int.{ints, to_z-of_z}
use Rattle.px_core.specs.declared.rectangle.Rect.{Rect}
use Rattle.px_core.specs.Picture.{both, painted}
use Rattle.px_core.specs.Rectangle.{in_clip}
use Rattle.rop3_core.specs.Palette.{session_colors}
use Rattle.draw_ops.specs.Formulas.{glyph_cell, inked, solid}
use Rattle.surface_parts.specs.declared.glyphs.Bits.{Bits}
use Rattle.surface_parts.proofs.Rules.{glyph_keeps}
use Rattle.surface_parts.proofs.Inks.{glyph_drawn, glyph_unseen}
use Rattle.surface_parts.proofs.glyphs.draw_glyph.Goals as goal

rows_fit : (w a h : ℕ) → a ≤ h → w * a ≤ w * h
rows_fit w a h le = grind (arith, le)

pub draw_bits-requires-clause-bits : goal.draw_bits-requires-clause-bits
draw_bits-requires-clause-bits c = let g = c.args.glyph.now in let k = glyph_keeps g c.requires.rule in let p = c.in-Some.part in let within = c.in-Some.ensures.within in
    let ew : c.cell_of-cell.result.w ≡ g.cx = ap (λ (r : Rect). r.w) c.cell_of-cell.ensures.cell in
    let eh : c.cell_of-cell.result.h ≡ g.cy = ap (λ (r : Rect). r.h) c.cell_of-cell.ensures.cell in
    let cx : c.from.result ≡ g.cx = c.from.ensures ∙ c.cx.ensures in
    let low : c.source_place-in-Some.result + p.h ≤ g.cy = omega (arith, ints, within.below, eh, c.source_place-in-Some.ensures) in
    let fit = rows_fit ((c.from.result + 7) / 8) (c.source_place-in-Some.result + p.h) g.cy low in
    let whole : (c.from.result + 7) / 8 * g.cy ≡ (g.cx + 7) / 8 * g.cy = ap (λ n. (n + 7) / 8 * g.cy) cx in
    record {
      columns = omega (arith, ints, within.right, ew, cx, c.source_place.ensures);
      rows = omega (arith, fit, whole, k.whole, ap (λ (bs : List ℕ). length bs) c.bits.ensures);
      narrow = omega (arith, cx, k.wide);
      low = omega (arith, low, k.high);
    }

pub returns-in-None : goal.returns-in-None
returns-in-None c = let g = c.args.glyph.now in
    let ex : to_z w32 (of_z w32 c.args.pen.x) ≡ c.args.pen.x = search (rules, to_z-of_z) in
    let ey : to_z w32 (of_z w32 c.args.pen.y) ≡ c.args.pen.y = search (rules, to_z-of_z) in
    let cell : c.cell_of-cell.result ≡ glyph_cell g c.args.pen.x c.args.pen.y = simp (ex, ey) at c.cell_of-cell.ensures.cell in
    subst (λ (r : Rect). c.args.pixels.now ≡ painted c.args.window.size (both (in_clip c.args.window.clip) (inked r g.bits)) (solid session_colors c.args.pen.color) c.args.pixels.now) cell
    (glyph_unseen c.args.window.size (in_clip c.args.window.clip) c.cell_of-cell.result g.bits c.args.pen.color c.args.pixels.now c.requires.canvas.sized (λ x y left above. c.in-None.ensures.pixels x y left above))

pub returns-in-Some : goal.returns-in-Some
returns-in-Some c = let g = c.args.glyph.now in
    let ex : to_z w32 (of_z w32 c.args.pen.x) ≡ c.args.pen.x = search (rules, to_z-of_z) in
    let ey : to_z w32 (of_z w32 c.args.pen.y) ≡ c.args.pen.y = search (rules, to_z-of_z) in
    let cell : c.cell_of-cell.result ≡ glyph_cell g c.args.pen.x c.args.pen.y = simp (ex, ey) at c.cell_of-cell.ensures.cell in
    let b : Bits = record { bytes = c.bits.result; row_bytes = (c.from.result + 7) / 8; column = c.source_place.result; row = c.source_place-in-Some.result } in
    let ew : c.from.result ≡ c.cell_of-cell.result.w = c.from.ensures ∙ c.cx.ensures ∙ sym (ap (λ (r : Rect). r.w) cell) in
    subst (λ (r : Rect). c.draw_bits.new.pixels ≡ painted c.args.window.size (both (in_clip c.args.window.clip) (inked r g.bits)) (solid session_colors c.args.pen.color) c.args.pixels.now) cell
    (glyph_drawn c.args.window.size (in_clip c.args.window.clip) c.cell_of-cell.result g.bits c.args.pen.color c.args.pixels.now c.requires.canvas.sized c.in-Some.part b c.draw_bits.new.pixels c.draw_bits.ensures
    (λ x y left above. c.in-Some.ensures.pixels x y left above) c.bits.ensures (ap (λ n. (n + 7) / 8) ew) (omega (arith, ints, c.source_place.ensures)) (omega (arith, ints, c.source_place-in-Some.ensures)))
