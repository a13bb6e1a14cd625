use Rattle.std.proofs.Common.{◌+ℤ◌, ◌∙◌, subst, arith}
use Rattle.std.proofs.lemmas.Int.{ints}
use Rattle.px_core.specs.declared.rectangle.Rect.{Rect}
use Rattle.px_core.specs.Picture.{both}
use Rattle.px_core.specs.Rectangle.{in_rect, in_clip}
use Rattle.client_picture.specs.Touched.{AddsRows, Widens}
use Rattle.client_picture.proofs.Frames.{same_rect}
use Rattle.client_picture.proofs.glyphs.touch_glyph.Goals as goal

pub returns-clause-rows : goal.returns-clause-rows
returns-clause-rows c = let g = c.args.glyph.now in
    subst (λ (r : Rect). AddsRows c.args.size (both (in_clip c.args.bounds) (in_rect r)) c.args.touched.now c.touch_at.new.touched)
    (same_rect _ _ _ _ (c.args.x +ℤ g.x) (c.args.y +ℤ g.y) g.cx g.cy (omega (arith, ints, c.x.ensures, c.from.ensures)) (omega (arith, ints, c.y.ensures, c.from-2.ensures)) (c.from-3.ensures ∙ c.cx.ensures) (c.from-4.ensures ∙ c.cy.ensures))
    c.touch_at.ensures.rows

pub returns-clause-frame : goal.returns-clause-frame
returns-clause-frame c = let g = c.args.glyph.now in
    subst (λ (r : Rect). Widens c.args.size (both (in_clip c.args.bounds) (in_rect r)) c.args.frame.now c.touch_at.new.frame)
    (same_rect _ _ _ _ (c.args.x +ℤ g.x) (c.args.y +ℤ g.y) g.cx g.cy (omega (arith, ints, c.x.ensures, c.from.ensures)) (omega (arith, ints, c.y.ensures, c.from-2.ensures)) (c.from-3.ensures ∙ c.cx.ensures) (c.from-4.ensures ∙ c.cy.ensures))
    c.touch_at.ensures.frame
