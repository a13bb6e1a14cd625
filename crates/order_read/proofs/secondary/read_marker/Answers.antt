use Rattle.std.proofs.Common.{refl, [], ◌∷◌}
use Rattle.std.specs.Prelude.{◌==◌}
use Rattle.order_fields.specs.Secondary.Cached.{Marker}
use Rattle.order_fields.specs.OrderStream.Order.{Other}
use Rattle.order_read.proofs.Appending.{pushed}
use Rattle.order_read.proofs.OthersRead.{marker_read}
use Rattle.order_read.proofs.secondary.read_marker.Goals as goal

pub returns : goal.returns
returns c =
    let whole = marker_read c.in_ok-action.action _ _ _ c.in_ok-action.ensures.0 c.if-action-gt-TS_FRAME_END.false refl in
    let o = Other (Marker (c.in_ok-action.action == 1)) in
    (o ∷ [], whole, c.in_ok-action.ensures.1, pushed _ _ _ _ o c.in_ok-push.ensures.items (λ body front. refl))
