use Rattle.std.proofs.Common.{◌≡◌, ℤ, sym, subst, w32, to_z, of_z, rules}
use Rattle.std.proofs.lemmas.Int.{to_z-of_z}
use Rattle.std.proofs.lemmas.Result.{on_ok_weaker}
use Rattle.px_core.specs.Picture.{both}
use Rattle.px_core.specs.Rectangle.{in_clip}
use Rattle.draw_ops.specs.declared.shape.Shape.{Shape}
use Rattle.draw_ops.specs.Formulas.{line_area}
use Rattle.tile_surface.specs.Ownership.{OwnsArea}
use Rattle.tile_surface.specs.Touched.{OwnsShape}
use Rattle.tile_surface.proofs.paint.own_shape.Goals as goal

pub returns-in-Line-clause-own : goal.returns-in-Line-clause-own
returns-in-Line-clause-own c = let l = c.in-Line in let size = c.args.window.size in let new = c.own_line.new.cells in
    let e0 : to_z w32 (of_z w32 l.x0) ≡ l.x0 = search (rules, to_z-of_z) in
    let f0 : to_z w32 (of_z w32 l.y0) ≡ l.y0 = search (rules, to_z-of_z) in
    let e1 : to_z w32 (of_z w32 l.x1) ≡ l.x1 = search (rules, to_z-of_z) in
    let f1 : to_z w32 (of_z w32 l.y1) ≡ l.y1 = search (rules, to_z-of_z) in
    let At : ℤ → ℤ → ℤ → ℤ → Type 0 = λ x0 y0 x1 y1. OwnsArea size new (both (in_clip c.args.window.clip) (line_area x0 y0 x1 y1)) in
    on_ok_weaker c.own_line.result (λ own.
    subst (λ (shape : Shape). OwnsShape size c.args.slots.now new c.args.window.clip shape) (sym l.is)
    (subst (λ (z : ℤ). At l.x0 l.y0 l.x1 z) f1
    (subst (λ (z : ℤ). At l.x0 l.y0 z (to_z w32 (of_z w32 l.y1))) e1
    (subst (λ (z : ℤ). At l.x0 z (to_z w32 (of_z w32 l.x1)) (to_z w32 (of_z w32 l.y1))) f0
    (subst (λ (z : ℤ). At z (to_z w32 (of_z w32 l.y0)) (to_z w32 (of_z w32 l.x1)) (to_z w32 (of_z w32 l.y1))) e0 own)))))
    c.own_line.ensures.own
