use Rattle.std.proofs.Common.{◌≡◌, ap, sym, ◌∙◌, w64, to_z, of_z}
use Rattle.std.specs.Prelude.{Option, Some, ℤ}
use Rattle.std.proofs.lemmas.Int.{to_z-of_z}
use Rattle.draw_ops.specs.Content.{GlyphOf}
use Rattle.draw_ops.specs.Formulas.{glyph_area}
use Rattle.client_picture.specs.Pictures.{drawn_within}
use Rattle.client_picture.proofs.Runs.{drawn_nowhere}
use Rattle.client_picture.proofs.picture.ClientPicture.write_number.Goals as goal

pub returns-in-None : goal.returns-in-None
returns-in-None c = sym (drawn_nowhere c.args.bounds c.args.color c.args.self.now)
    ∙ ap (λ (o : Option GlyphOf). drawn_within c.args.bounds (glyph_area o c.args.x c.args.y) c.args.color c.args.self.now) c.in-None.ensures

pub returns-in-Some : goal.returns-in-Some
returns-in-Some c = let s = c.args.self.now in let g = c.in-Some.glyph.now in
    let ex : to_z w64 (of_z w64 c.args.x) ≡ c.args.x = to_z-of_z w64 c.args.x c.ranges.x in
    let ey : to_z w64 (of_z w64 c.args.y) ≡ c.args.y = to_z-of_z w64 c.args.y c.ranges.y in
    c.write_glyph.ensures
    ∙ ap (λ (z : ℤ). drawn_within c.args.bounds (glyph_area (Some g) z (to_z w64 (of_z w64 c.args.y))) c.args.color s) ex
    ∙ ap (λ (z : ℤ). drawn_within c.args.bounds (glyph_area (Some g) c.args.x z) c.args.color s) ey
    ∙ ap (λ (o : Option GlyphOf). drawn_within c.args.bounds (glyph_area o c.args.x c.args.y) c.args.color s) c.in-Some.ensures
