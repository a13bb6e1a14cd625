use Rattle.std.proofs.Common.{ap, sym, ◌∙◌}
use Rattle.px_core.specs.declared.depth.Depth.{Depth}
use Rattle.order_fields.specs.NamedDrawing.{drawing_of}
use Rattle.order_fields.specs.NamedDrawing.NamedDrawing.{Opaque}
use Rattle.client_caches.proofs.Fills.{drawing_filled}
use Rattle.client_view.specs.Views.{client_of}
use Rattle.client_view.proofs.Obeyed.{one_more, view_drawn, told_drawing, drawn_stands}
use Rattle.client_view.proofs.obey.obey_drawing.Goals as goal

pub returns-in-Some-clause-obeyed : goal.returns-in-Some-clause-obeyed
returns-in-Some-clause-obeyed c = λ v s.
    let m = c.args.viewer.now in (
      view_drawn v (client_of m.regs m.caches m.blocks c.draw_fill.new.pictures),
      told_drawing m.confirmed m.pictures.size v c.args.bounds c.args.fields.now (Opaque c.in-Some.fill.0 c.in-Some.fill.1) (client_of m.regs m.caches m.blocks m.pictures) _ s.client (ap (λ (d : Depth). drawing_of d c.args.fields.now) (sym c.depth.ensures) ∙ drawing_filled _ _ _ (sym c.in-Some.ensures)) (c.draw_fill.ensures.drawn m.confirmed m.caches m.blocks m.regs),
      drawn_stands v m m.blocks c.draw_fill.new.pictures c.one_more-viewer.result s c.draw_fill.ensures.place (one_more v.orders m.orders c.one_more-viewer.result s.orders c.one_more-viewer.ensures),
    )
