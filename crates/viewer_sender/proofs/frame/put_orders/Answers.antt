use Rattle.std.proofs.Common.{◌∙◌, ◌++◌, List, ap, sym, subst}
use Rattle.std.specs.Prelude.{Bool, ◌&&◌}
use Rattle.rle_enc.proofs.Pending.{on_ok_as}
use Rattle.px_core.specs.declared.surface.Size.{Size}
use Rattle.caps_sets.specs.declared.confirmed.Confirmed.{Confirmed}
use Rattle.frame_rules.specs.Frame.{Sent}
use Rattle.frame_rules.specs.FrameOrders.{sending, start_orders, black_orders, orders_from, uses_after}
use Rattle.frame_rules.specs.Describes.{HasAllCaches}
use Rattle.frame_plan.specs.Orders.{drawings_in, AreChosen}
use Rattle.viewer_sender.proofs.UseSteps.{writes_then, writes_as}
use Rattle.viewer_sender.specs.Goes.{AllGo}
use Rattle.viewer_sender.specs.Runs.{drawings_sending}
use Rattle.viewer_sender.proofs.Loops.{chosen_all}
use Rattle.viewer_sender.proofs.frame.put_orders.Goals as goal

pub put_drawings-requires-clause-all : goal.put_drawings-requires-clause-all
put_drawings-requires-clause-all c = subst HasAllCaches (sym (c.in_ok-put_black.ensures.0 ∙ c.in_ok-put_start.ensures.0)) c.requires.all

pub put_drawings-requires-clause-go : goal.put_drawings-requires-clause-go
put_drawings-requires-clause-go c =
    let conf = c.args.writer.now.confirmed in
    subst (λ (k : Confirmed). AllGo k (drawings_in c.planned.result.now)) (sym (c.in_ok-put_black.ensures.0 ∙ c.in_ok-put_start.ensures.0))
    (subst (λ (ss : List Sent). AllGo conf ss) (sym (ap drawings_in c.planned.ensures ∙ c.sent.ensures.orders)) c.requires.drawings)

pub put_drawings-requires-clause-chosen : goal.put_drawings-requires-clause-chosen
put_drawings-requires-clause-chosen c =
    let take = c.args.take.now in
    subst (λ (k : Confirmed). AreChosen k c.planned.result.now) (sym (c.in_ok-put_black.ensures.0 ∙ c.in_ok-put_start.ensures.0))
    (chosen_all c.args.writer.now.confirmed c.planned.result.now c.sent.result.now take.cached take.frame.sent c.planned.ensures c.sent.ensures.cached c.sent.ensures.orders c.requires.cached)

pub returns : goal.returns
returns c =
    let a = c.args.writer.now in
    let b = c.put_start.new.writer in
    let d = c.put_black.new.writer in
    let take = c.args.take.now in
    let ss = drawings_in c.planned.result.now in
    let first = c.in_ok-put_start.ensures in
    let second = c.in_ok-put_black.ensures in
    on_ok_as _ _ c.put_drawings.result c.put_drawings.ensures (λ third.
    writes_as a c.put_drawings.new.writer _ _
    (λ uses stands.
    ap (λ (k : Confirmed). sending (start_orders a.confirmed.marker ++ (black_orders c.size.result (c.is_first.result && k.pat) ++ orders_from d.confirmed uses ss)) (uses_after d.confirmed uses ss)) first.0
    ∙ (ap (λ (k : Confirmed). sending (start_orders a.confirmed.marker ++ (black_orders c.size.result (c.is_first.result && a.confirmed.pat) ++ orders_from k uses ss)) (uses_after k uses ss)) (second.0 ∙ first.0)
    ∙ (ap (λ (s : Size). sending (start_orders a.confirmed.marker ++ (black_orders s (c.is_first.result && a.confirmed.pat) ++ orders_from a.confirmed uses ss)) (uses_after a.confirmed uses ss)) c.size.ensures
    ∙ (ap (λ (t : Bool). sending (start_orders a.confirmed.marker ++ (black_orders take.size (t && a.confirmed.pat) ++ orders_from a.confirmed uses ss)) (uses_after a.confirmed uses ss)) c.is_first.ensures
    ∙ ap (λ (qs : List Sent). sending (start_orders a.confirmed.marker ++ (black_orders take.size (take.frame.first && a.confirmed.pat) ++ orders_from a.confirmed uses qs)) (uses_after a.confirmed uses qs)) (ap drawings_in c.planned.ensures ∙ c.sent.ensures.orders)))))
    (writes_then a b c.put_drawings.new.writer (λ uses. sending (start_orders a.confirmed.marker) uses)
    (λ uses. sending (black_orders c.size.result (c.is_first.result && b.confirmed.pat) ++ orders_from d.confirmed uses ss) (uses_after d.confirmed uses ss)) first
    (writes_then b d c.put_drawings.new.writer (λ uses. sending (black_orders c.size.result (c.is_first.result && b.confirmed.pat)) uses) (λ uses. drawings_sending d.confirmed uses ss) second third)))
