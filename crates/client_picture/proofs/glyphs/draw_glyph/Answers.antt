use Rattle.std.proofs.Common.{◌≡◌, ◌+◌, ◌/◌, ℤ, ◌+ℤ◌, ◌∙◌, ap, arith, w64, to_z, of_z}
use Rattle.std.specs.Prelude.{Some, None}
use Rattle.std.proofs.lemmas.Int.{ints}
use Rattle.px_core.specs.Rectangle.{boxed, in_clip}
use Rattle.draw_ops.specs.Formulas.{glyph_cell}
use Rattle.client_picture.specs.declared.glyphs.Bits.{Bits}
use Rattle.client_picture.proofs.Frames.{same_rect, seen_in}
use Rattle.client_picture.proofs.Inks.{glyph_drawn, glyph_unseen}
use Rattle.client_picture.proofs.glyphs.draw_glyph.Goals as goal

pub draw_bits-requires-clause-small : goal.draw_bits-requires-clause-small
draw_bits-requires-clause-small c = let g = c.args.glyph.now in let within = c.in-Some.ensures.within in record {
  columns = omega (arith, ints, within.right, c.from-w.ensures, c.place.ensures);
  rows = omega (arith, ints, within.below, c.from-3.ensures, c.place-in-Some.ensures);
  narrow = omega (arith, c.from-w.ensures);
}

pub returns-in-None : goal.returns-in-None
returns-in-None c = let g = c.args.glyph.now in
    let left : ℤ = to_z w64 (of_z w64 (to_z w64 (of_z w64 c.args.x) +ℤ to_z w64 (of_z w64 c.from.result))) in
    let top : ℤ = to_z w64 (of_z w64 (to_z w64 (of_z w64 c.args.y) +ℤ to_z w64 (of_z w64 c.from-2.result))) in
    let cell : boxed left top c.from-w.result c.from-3.result ≡ glyph_cell g c.args.x c.args.y
    = same_rect left top c.from-w.result c.from-3.result (c.args.x +ℤ g.x) (c.args.y +ℤ g.y) g.cx g.cy (omega (arith, ints, c.x.ensures, c.from.ensures)) (omega (arith, ints, c.y.ensures, c.from-2.ensures)) (c.from-w.ensures ∙ c.cx.ensures) (c.from-3.ensures ∙ c.cy.ensures) in
    glyph_unseen c.args.size (in_clip c.args.bounds) (glyph_cell g c.args.x c.args.y) g.bits c.args.color c.args.pixels.now c.requires.canvas.sized
    (seen_in c.args.size (in_clip c.args.bounds) None (boxed left top c.from-w.result c.from-3.result) (glyph_cell g c.args.x c.args.y) (λ u v l a. c.in-None.ensures.pixels u v l a) cell)

pub returns-in-Some : goal.returns-in-Some
returns-in-Some c = let g = c.args.glyph.now in
    let left : ℤ = to_z w64 (of_z w64 (to_z w64 (of_z w64 c.args.x) +ℤ to_z w64 (of_z w64 c.from.result))) in
    let top : ℤ = to_z w64 (of_z w64 (to_z w64 (of_z w64 c.args.y) +ℤ to_z w64 (of_z w64 c.from-2.result))) in
    let cell : boxed left top c.from-w.result c.from-3.result ≡ glyph_cell g c.args.x c.args.y
    = same_rect left top c.from-w.result c.from-3.result (c.args.x +ℤ g.x) (c.args.y +ℤ g.y) g.cx g.cy (omega (arith, ints, c.x.ensures, c.from.ensures)) (omega (arith, ints, c.y.ensures, c.from-2.ensures)) (c.from-w.ensures ∙ c.cx.ensures) (c.from-3.ensures ∙ c.cy.ensures) in
    let b : Bits = record { bytes = c.bits.result; row_bytes = (c.from-w.result + 7) / 8; from = record { x = c.place.result; y = c.place-in-Some.result } } in
    glyph_drawn c.args.size (in_clip c.args.bounds) (glyph_cell g c.args.x c.args.y) g.bits c.args.color c.args.pixels.now c.requires.canvas.sized c.in-Some.part b c.draw_bits.new.pixels c.draw_bits.ensures
    (seen_in c.args.size (in_clip c.args.bounds) (Some c.in-Some.part) (boxed left top c.from-w.result c.from-3.result) (glyph_cell g c.args.x c.args.y) (λ u v l a. c.in-Some.ensures.pixels u v l a) cell)
    c.bits.ensures (ap (λ n. (n + 7) / 8) (c.from-w.ensures ∙ c.cx.ensures))
    (omega (arith, ints, c.x.ensures, c.from.ensures, c.place.ensures)) (omega (arith, ints, c.y.ensures, c.from-2.ensures, c.place-in-Some.ensures))
