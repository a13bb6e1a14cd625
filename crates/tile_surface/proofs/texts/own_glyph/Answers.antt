use Rattle.std.proofs.Common.{◌≡◌, subst, w32, to_z, of_z, rules}
use Rattle.std.specs.Prelude.{OnOk}
use Rattle.std.proofs.lemmas.Int.{to_z-of_z}
use Rattle.px_core.specs.declared.rectangle.Rect.{Rect}
use Rattle.px_core.specs.Picture.{both}
use Rattle.px_core.specs.Rectangle.{in_clip, in_rect}
use Rattle.draw_ops.specs.Formulas.{glyph_cell}
use Rattle.tile_surface.specs.Ownership.{OwnsArea}
use Rattle.tile_surface.proofs.texts.own_glyph.Goals as goal

pub returns-clause-own : goal.returns-clause-own
returns-clause-own c = let g = c.args.glyph.now in
    let ex : to_z w32 (of_z w32 c.args.pen.x) ≡ c.args.pen.x = search (rules, to_z-of_z) in
    let ey : to_z w32 (of_z w32 c.args.pen.y) ≡ c.args.pen.y = search (rules, to_z-of_z) in
    let cell : c.cell_of.result ≡ glyph_cell g c.args.pen.x c.args.pen.y = simp (ex, ey) at c.cell_of.ensures.cell in
    subst (λ (r : Rect). OnOk c.own_rect.result (OwnsArea c.args.window.size c.own_rect.new.cells (both (in_clip c.args.window.clip) (in_rect r)))) cell c.own_rect.ensures.own
