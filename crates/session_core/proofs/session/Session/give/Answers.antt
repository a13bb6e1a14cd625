use Rattle.std.proofs.Common.{◌∙◌, [], ◌∷◌, ◌++◌, None, length, Some, refl, ap, sym, arith}
use Rattle.std.proofs.lemmas.Result.{err_from_is_err_and}
use Rattle.std.specs.Prelude.{option_to_list}
use Rattle.session_rules.specs.declared.entry.Entry.TheVariants.{Give}
use Rattle.session_rules.specs.Journal.{Reached, refusal_of}
use Rattle.session_rules.specs.Steps.{receiver_of}
use Rattle.session_rules.specs.Steps.Answer.{Accepted}
use Rattle.session_core.specs.Keeping.{journal_of}
use Rattle.session_core.specs.Standing.{reached_of}
use Rattle.session_core.proofs.Sessions.{appended, journal_push, answered_entry, goes_on_entry, entry_made}
use Rattle.session_core.proofs.MarkSteps.{marked_same}
use Rattle.session_core.proofs.Typed.{typed_on}
use Rattle.session_core.proofs.DrawLimits.{give_room}
use Rattle.session_core.proofs.Accepting.{accepted, event_refused, event_stays}
use Rattle.session_core.proofs.session.Session.give.Goals as goal

pub returns-in_err-to-clause-answer : goal.returns-in_err-to-clause-answer
returns-in_err-to-clause-answer c =
    let p = err_from_is_err_and c.from_residual.result c.from_residual.ensures.1 in
    let ks = c.self.inside.kept.items in
    let s = c.self.inside.standing in
    let no = c.in_err-to.ensures c.self.inside.head (length ks) in
    let k = event_refused c.self.inside.head (reached_of s (length ks)) (Give c.args.v (receiver_of (reached_of s (length ks)) c.args.v)) c.in_err-to.field-0.0 no.0 no.1 in
    rw (p.1, p.2) (answered_entry c.self.inside.head s ks c.args.self.now _ (λ r. Give c.args.v (receiver_of r c.args.v)) c.self.invariant.is_session c.self.view_is k.answer_is)

pub returns-in_err-to-clause-journal : goal.returns-in_err-to-clause-journal
returns-in_err-to-clause-journal c =
    let p = err_from_is_err_and c.from_residual.result c.from_residual.ensures.1 in
    let ks = c.self.inside.kept.items in
    let s = c.self.inside.standing in
    let no = c.in_err-to.ensures c.self.inside.head (length ks) in
    let k = event_refused c.self.inside.head (reached_of s (length ks)) (Give c.args.v (receiver_of (reached_of s (length ks)) c.args.v)) c.in_err-to.field-0.0 no.0 no.1 in
    rw (p.1, p.2) (event_stays c.in_err-to.field-0.0 _ _
    (entry_made c.self.inside.head s ks c.args.self.now (λ r. Give c.args.v (receiver_of r c.args.v)) None c.self.invariant.is_session c.self.view_is k.entry_is))

pub invariant_of-self : goal.invariant_of-self
invariant_of-self c = record {
  is_session = rw c.make_room.ensures.items c.self.invariant.is_session;
  room_left = omega (arith, c.self.invariant.room_left, c.make_room.ensures.length, c.make_room.ensures.capacity);
  marked = rw c.make_room.ensures.items c.self.invariant.marked;
  typed_last = rw c.make_room.ensures.items c.self.invariant.typed_last;
}

pub give-requires : goal.give-requires
give-requires c =
    let ks = c.self.inside.kept.items in
    give_room c.self.inside.head (reached_of c.self.inside.standing (length ks)) c.args.v c.in_ok-to.to (c.in_ok-to.ensures c.self.inside.head (length ks)).1

pub invariant_of-self-2 : goal.invariant_of-self-2
invariant_of-self-2 c =
    let h = c.self.invariant.is_session in
    let head = c.self.inside.head in
    let s = c.self.inside.standing in
    let ks = c.self.inside.kept.items in
    record {
      is_session = rw (c.push_reserved.ensures.items, c.make_room.ensures.items) (appended head s c.give.new.self ks _ h (c.in_ok-to.ensures head (length ks)).1
          (record { first = c.count-first.ensures; board = tt; shown = refl })
          (c.give.ensures.reached head.size (length ks) c.args.v)
          (ap (λ z. z.size) c.give.ensures.surface ∙ h.surface_size) (ap (λ b. b.size) c.give.ensures.board ∙ h.board_size));
      room_left = omega (arith, c.if-not-make_room.ensures.room, c.push_reserved.ensures.len, c.push_reserved.ensures.capacity, ap length c.give.ensures.members, ap length c.list.ensures);
      marked = rw (c.push_reserved.ensures.items, c.make_room.ensures.items) (marked_same head s ks _ c.self.inside.marks h c.self.invariant.marked refl);
      typed_last = rw (c.push_reserved.ensures.items, c.make_room.ensures.items) (typed_on c.self.inside.typed c.self.inside.kept.items _ c.self.invariant.typed_last);
    }

pub returns-clause-answer : goal.returns-clause-answer
returns-clause-answer c =
    let ks = c.self.inside.kept.items in
    let s = c.self.inside.standing in
    let r = reached_of s (length ks) in
    let yes = c.in_ok-to.ensures c.self.inside.head (length ks) in
    let k = accepted c.self.inside.head r (Give c.args.v (receiver_of r c.args.v)) (ap (λ to. refusal_of c.self.inside.head r (Give c.args.v to)) (sym yes.0) ∙ yes.1) in
    answered_entry c.self.inside.head s ks c.args.self.now (Some Accepted) (λ (x : Reached). Give c.args.v (receiver_of x c.args.v)) c.self.invariant.is_session c.self.view_is (sym k.answer_is)

pub returns-clause-journal : goal.returns-clause-journal
returns-clause-journal c =
    let ks = c.self.inside.kept.items in
    let s = c.self.inside.standing in
    let r = reached_of s (length ks) in
    let yes = c.in_ok-to.ensures c.self.inside.head (length ks) in
    let k = accepted c.self.inside.head r (Give c.args.v (receiver_of r c.args.v)) (ap (λ to. refusal_of c.self.inside.head r (Give c.args.v to)) (sym yes.0) ∙ yes.1) in
    ap journal_of c.push_reserved.ensures.items ∙ journal_push c.make_room.new.kept.items _
    ∙ ap (λ es. es ++ Give c.args.v c.in_ok-to.to ∷ []) (ap journal_of c.make_room.ensures.items)
    ∙ ap (λ to. journal_of ks ++ Give c.args.v to ∷ []) yes.0
    ∙ goes_on_entry c.self.inside.head s ks c.args.self.now (Some Accepted) (λ (x : Reached). Give c.args.v (receiver_of x c.args.v)) _ c.self.invariant.is_session c.self.view_is
    (ap (λ o. journal_of ks ++ option_to_list o) (sym k.entry_is))
