use Rattle.std.proofs.Common.{◌∙◌, [], drop, ap, arith}
use Rattle.viewer_sender.specs.Gathering.{gathering, closed}
use Rattle.viewer_sender.specs.Framings.{is_fast}
use Rattle.viewer_sender.proofs.Begun.{begun_none, room_left, drop-take-all}
use Rattle.viewer_sender.proofs.updates.Updates.close.Goals as goal

pub invariant_of-self-2 : goal.invariant_of-self-2
invariant_of-self-2 c =
    let a = c.self.invariant.begins in
    let b = c.self.invariant.there in
    let same = c.end_update.ensures.same in
    begun_none (is_fast c.self.inside.framing) _ (room_left c.end_update.new.user.items c.truncate.new.self.items c.truncate.ensures.items (omega (arith, a, b, same)))

pub returns : goal.returns
returns c =
    let left = c.truncate.new.self.items in
    let packets = c.in_ok-end_update.ensures.ok in
    ap (λ bs. gathering (is_fast c.self.inside.framing) c.end_update.new.packets.items bs 0 (drop 26 left)) (drop-take-all 26 left)
    ∙ (ap (λ bs. gathering (is_fast c.self.inside.framing) c.end_update.new.packets.items [] 0 (drop 26 bs)) c.truncate.ensures.items
    ∙ (ap (λ bs. gathering (is_fast c.self.inside.framing) c.end_update.new.packets.items [] 0 bs) (drop-take-all 26 c.end_update.new.user.items)
    ∙ (ap (λ ps. gathering (is_fast c.self.inside.framing) ps [] 0 []) packets ∙ ap closed c.self.view_is)))
