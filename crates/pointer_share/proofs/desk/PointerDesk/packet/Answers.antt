use Rattle.std.proofs.Common.{◌≡◌, ◌∙◌, Some, ap, sym, subst}
use Rattle.cache_plan.specs.Answers.{use_of}
use Rattle.frame_rules.specs.Told.{told_packet}
use Rattle.pointer_share.specs.Desk.{DeskOf, HasTold}
use Rattle.pointer_share.proofs.Noted.{told_is}
use Rattle.pointer_share.proofs.desk.PointerDesk.packet.Goals as goal

pub returns-clause-told : goal.returns-clause-told
returns-clause-told c keys h = let i = c.self.inside in
    subst (λ (d : DeskOf). HasTold d keys → Some c.in_ok-packet.packet.items ≡ told_packet d.wide d.cache.entries keys d.noted) c.self.view_is
    (λ t. ap Some c.in_ok-packet.ensures ∙ told_is i.wide i.cache.entries i.noted keys i.told c.peek-answer.result t.told (sym c.is_last.ensures ∙ c.if-is_last.false) (c.peek-answer.ensures keys t.cache ∙ ap (use_of i.cache.entries keys) c.from.ensures)) h
