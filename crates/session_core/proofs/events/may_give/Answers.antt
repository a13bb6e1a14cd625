use Rattle.std.proofs.Common.{◌≡◌, ◌∙◌, [], ◌∷◌, ap, sym, arith}
use Rattle.draw_ops.specs.Fits.{first_some}
use Rattle.session_rules.specs.declared.entry.Entry.TheVariants.{Give}
use Rattle.session_rules.specs.Journal.{refusal_of, room_test, next_of}
use Rattle.session_rules.specs.Steps.{receiver_of}
use Rattle.session_core.specs.Members.{viewers_of}
use Rattle.session_core.specs.Standing.{reached_of}
use Rattle.session_core.proofs.DrawAnswers.{not_none}
use Rattle.session_core.proofs.EventAnswers.{give_not_holder, holder_gives, owner_takes, full, roomy}
use Rattle.session_core.proofs.events.may_give.Goals as goal
use Rattle.session_core.proofs.events.may_give.Goals.{then-holds, else-holds+then-is_owner}

pub returns-else-is_owner : goal.returns-else-is_owner
returns-else-is_owner c head n = (
  give_not_holder head (reached_of c.args.standing.now n) c.args.v c.ranges.v.fits (sym (c.holds.ensures n) ∙ c.if-holds.false) (sym (c.is_owner.ensures n) ∙ c.if-is_owner.false),
  not_none _,
)

pub returns-then-standing-ge-MOST_ENTRIES : goal.returns-then-standing-ge-MOST_ENTRIES
returns-then-standing-ge-MOST_ENTRIES c head n =
    let r = reached_of c.args.standing.now n in
    let given : (c.if-holds.to ≡ receiver_of r c.args.v) × (refusal_of head r (Give c.args.v c.if-holds.to) ≡ first_some (room_test r ∷ [])) = elim c.if-holds.branch [
      | then-holds w ↦ holder_gives head r c.args.v c.if-holds.to c.ranges.v.fits (omega (arith, w.to-is, w.next_of-to.type_inv)) (sym (c.holds.ensures n) ∙ w.if-holds.true)
          (w.to-is ∙ w.next_of-to.ensures ∙ ap (λ ms. next_of (viewers_of ms) c.args.v) w.list.ensures)
      | else-holds+then-is_owner w ↦ owner_takes head r c.args.v c.if-holds.to c.ranges.v.fits (sym (c.holds.ensures n) ∙ w.if-holds.false) (sym (w.is_owner.ensures n) ∙ w.if-is_owner.true) w.to-is
    ] in
    (ap (λ to. refusal_of head r (Give c.args.v to)) (sym given.0) ∙ given.1 ∙ full r c.if-standing-ge-MOST_ENTRIES.true, not_none _)

pub returns : goal.returns
returns c head n =
    let r = reached_of c.args.standing.now n in
    let given : (c.if-holds.to ≡ receiver_of r c.args.v) × (refusal_of head r (Give c.args.v c.if-holds.to) ≡ first_some (room_test r ∷ [])) = elim c.if-holds.branch [
      | then-holds w ↦ holder_gives head r c.args.v c.if-holds.to c.ranges.v.fits (omega (arith, w.to-is, w.next_of-to.type_inv)) (sym (c.holds.ensures n) ∙ w.if-holds.true)
          (w.to-is ∙ w.next_of-to.ensures ∙ ap (λ ms. next_of (viewers_of ms) c.args.v) w.list.ensures)
      | else-holds+then-is_owner w ↦ owner_takes head r c.args.v c.if-holds.to c.ranges.v.fits (sym (c.holds.ensures n) ∙ w.if-holds.false) (sym (w.is_owner.ensures n) ∙ w.if-is_owner.true) w.to-is
    ] in
    (given.0, given.1 ∙ roomy r c.if-standing-ge-MOST_ENTRIES.false)
