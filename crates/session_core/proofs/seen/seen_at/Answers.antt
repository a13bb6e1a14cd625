use Rattle.std.proofs.Common.{◌∙◌, ap, sym, Some}
use Rattle.px_core.specs.declared.rectangle.Rect.{Rect}
use Rattle.session_core.specs.Seeing.{pending_with}
use Rattle.session_core.proofs.AllShown.{shown_get}
use Rattle.session_core.proofs.seen.seen_at.Goals as goal

pub returns : goal.returns
returns c =
    shown_get c.args.drawings.now c.args.shown.now c.args.i c.index-drawings-i.result c.index-shown-i.result c.requires.there c.requires.each c.index-drawings-i.is c.index-shown-i.is
    ∙ ap (λ (r : Rect). Some (pending_with c.index-drawings-i.result r c.index-shown-i.result)) (sym c.rect.ensures)
