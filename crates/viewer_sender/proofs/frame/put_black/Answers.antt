use Rattle.std.proofs.Common.{sym, subst, None}
use Rattle.px_core.specs.declared.rectangle.Rect.{Rect}
use Rattle.caps_sets.specs.Confirmed.{depth_of}
use Rattle.order_fields.specs.NamedDrawing.NamedDrawing.{Opaque}
use Rattle.viewer_sender.specs.Goes.{FitsDrawn}
use Rattle.viewer_sender.proofs.Styles.{black_goes}
use Rattle.viewer_sender.proofs.frame.put_black.Goals as goal

pub put_fill-requires : goal.put_fill-requires
put_fill-requires c =
    subst (λ (r : Rect). FitsDrawn (depth_of c.args.writer.now.confirmed) r (Opaque r 0) None) (sym c.whole.ensures.whole)
    (black_goes (depth_of c.args.writer.now.confirmed) c.args.size c.requires)
