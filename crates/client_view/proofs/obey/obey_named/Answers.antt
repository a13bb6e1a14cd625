use Rattle.std.proofs.Common.{◌≡◌, ◌∙◌, ap, sym, List, ℕ, Some}
use Rattle.px_core.specs.declared.depth.Depth.{Depth}
use Rattle.order_fields.specs.NamedDrawing.{drawing_of}
use Rattle.client_caches.specs.Named.{drawing}
use Rattle.client_view.specs.Views.{client_of}
use Rattle.client_view.proofs.Obeyed.{one_more, view_drawn, told_drawing, drawn_stands}
use Rattle.client_view.proofs.obey.obey_named.Goals as goal

pub returns-clause-obeyed : goal.returns-clause-obeyed
returns-clause-obeyed c = λ v s.
    let m = c.args.viewer.now in
    let named : drawing_of m.pictures.depth c.args.fields.now ≡ Some (drawing c.bytes.result.now c.in-Some.named) =
    ap (λ (d : Depth). drawing_of d c.args.fields.now) (sym c.depth.ensures) ∙ sym c.in-Some.ensures.drawing ∙ ap (λ (run : List ℕ). Some (drawing run c.in-Some.named)) (sym c.bytes.ensures) in (
      view_drawn v (client_of m.regs m.caches c.draw.new.blocks c.draw.new.pictures),
      told_drawing m.confirmed m.pictures.size v c.args.bounds c.args.fields.now (drawing c.bytes.result.now c.in-Some.named) (client_of m.regs m.caches m.blocks m.pictures) _ s.client named (c.in_ok-draw.ensures.drawn m.regs),
      drawn_stands v m c.draw.new.blocks c.draw.new.pictures c.one_more-viewer.result s c.in_ok-draw.ensures.place (one_more v.orders m.orders c.one_more-viewer.result s.orders c.one_more-viewer.ensures),
    )
