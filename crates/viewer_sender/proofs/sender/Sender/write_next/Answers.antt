use Rattle.std.proofs.Common.{◌∙◌, ap, sym, subst}
use Rattle.frame_rules.specs.Describes.{HasAllCaches}
use Rattle.frame_plan.specs.Orders.{all_cached}
use Rattle.viewer_sender.specs.Goes.{AllGo}
use Rattle.viewer_sender.proofs.Sends.{own_drawings, own_tiles}
use Rattle.viewer_sender.proofs.sender.Sender.write_next.Goals as goal

pub write_frame-requires-clause-drawings : goal.write_frame-requires-clause-drawings
write_frame-requires-clause-drawings c =
    subst (λ k. AllGo k c.args.take.now.frame.sent) (sym (c.self.invariant.same c.if-self.false ∙ ap (λ m. m.confirmed) c.self.view_is))
    (own_drawings c.args.self.now.confirmed c.args.take.now c.requires.own)

pub write_frame-requires-clause-all : goal.write_frame-requires-clause-all
write_frame-requires-clause-all c = subst HasAllCaches (sym (c.self.invariant.same c.if-self.false)) c.self.invariant.all

pub write_frame-requires-clause-cached : goal.write_frame-requires-clause-cached
write_frame-requires-clause-cached c =
    c.requires.own.cached_are
    ∙ ap (λ k. all_cached k c.args.take.now.frame.sent) (sym (c.self.invariant.same c.if-self.false ∙ ap (λ m. m.confirmed) c.self.view_is))

pub write_frame-requires-clause-tiles : goal.write_frame-requires-clause-tiles
write_frame-requires-clause-tiles c = own_tiles c.args.self.now.confirmed c.args.take.now c.requires.own
