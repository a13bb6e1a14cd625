use Rattle.std.proofs.Common.{◌≡◌, ◌+◌, ◌∙◌, [], ◌∷◌, ◌++◌, false, length, Some, refl, ap, sym, arith}
use Rattle.std.proofs.lemmas.Result.{err_from_is_err_and}
use Rattle.std.specs.Prelude.{option_to_list}
use Rattle.px_core.specs.TileFlags.{tiles}
use Rattle.session_rules.specs.declared.entry.Entry.TheVariants.{Join}
use Rattle.session_rules.specs.Journal.{is_present}
use Rattle.session_rules.specs.Steps.Step.{JoinStep}
use Rattle.session_rules.specs.Steps.Answer.{Joined}
use Rattle.session_core.specs.Members.{viewers_of}
use Rattle.session_core.specs.Keeping.{journal_of}
use Rattle.session_core.specs.Standing.{reached_of}
use Rattle.session_core.proofs.MemberSteps.{kept_absent}
use Rattle.session_core.proofs.Sessions.{sound_now, appended, journal_push, length_viewers, length_push, answered, goes_on, entry_now}
use Rattle.session_core.proofs.MarkSteps.{marked_same}
use Rattle.session_core.proofs.Typed.{typed_on}
use Rattle.session_core.proofs.Leaving.{absent_past}
use Rattle.session_core.proofs.JoinAnswers.{joined, join_legal, refused_stays, refused_answer}
use Rattle.session_core.proofs.session.Session.join.Goals as goal

pub let_in-requires : goal.let_in-requires
let_in-requires c = (sound_now _ _ _ c.self.invariant.is_session).few_joins

pub returns-in_err-role-clause-answer : goal.returns-in_err-role-clause-answer
returns-in_err-role-clause-answer c =
    let p = err_from_is_err_and c.from_residual.result c.from_residual.ensures.1 in
    let ks = c.self.inside.kept.items in
    rw (p.1, p.2) (answered c.self.inside.head c.self.inside.standing ks c.args.self.now _ (JoinStep c.args.name.now) c.self.invariant.is_session c.self.view_is
    (refused_answer _ _ (c.in_err-role.ensures (length ks)).0))

pub returns-in_err-role-clause-journal : goal.returns-in_err-role-clause-journal
returns-in_err-role-clause-journal c =
    let p = err_from_is_err_and c.from_residual.result c.from_residual.ensures.1 in
    let ks = c.self.inside.kept.items in
    rw (p.1, p.2) (refused_stays c.in_err-role.field-0.0 _ _
    (entry_now c.self.inside.head c.self.inside.standing ks c.args.self.now (JoinStep c.args.name.now) _ c.self.invariant.is_session c.self.view_is (c.in_err-role.ensures (length ks)).1))

pub invariant_of-self : goal.invariant_of-self
invariant_of-self c = record {
  is_session = rw c.make_room.ensures.items c.self.invariant.is_session;
  room_left = omega (arith, c.self.invariant.room_left, c.make_room.ensures.length, c.make_room.ensures.capacity);
  marked = rw c.make_room.ensures.items c.self.invariant.marked;
  typed_last = rw c.make_room.ensures.items c.self.invariant.typed_last;
}

pub admit-v-requires-clause-joins : goal.admit-v-requires-clause-joins
admit-v-requires-clause-joins c = (c.in_ok-role.ensures 0).2

pub admit-v-requires-clause-room : goal.admit-v-requires-clause-room
admit-v-requires-clause-room c = omega (arith, (c.in_ok-role.ensures 0).1, length_viewers c.self.inside.standing.members)

pub invariant_of-self-2 : goal.invariant_of-self-2
invariant_of-self-2 c =
    let h = c.self.invariant.is_session in
    let ks = c.self.inside.kept.items in
    let s = c.self.inside.standing in
    let let_in = c.in_ok-role.ensures (length ks) in
    let viewers = ap (λ r. r.viewers) (c.admit-v.ensures.reached c.self.inside.head.size 0) in
    record {
      is_session = rw (c.push_reserved.ensures.items, c.make_room.ensures.items, c.admit-v.ensures.number) (appended c.self.inside.head s c.admit-v.new.self ks _ h
          (join_legal c.self.inside.head (reached_of s (length ks)) c.args.name.now c.in_ok-role.role let_in.0 let_in.1 let_in.2)
          (record { first = c.count-first.ensures; board = tt; shown = refl })
          (c.admit-v.ensures.reached c.self.inside.head.size (length ks))
          (ap (λ s. s.size) c.admit-v.ensures.surface ∙ h.surface_size) (ap (λ b. b.size) c.admit-v.ensures.board ∙ h.board_size));
      room_left = omega (
        arith,
        c.if-not-make_room.ensures.room,
        c.push_reserved.ensures.len,
        c.push_reserved.ensures.capacity,
        length_viewers s.members,
        length_viewers c.admit-v.new.self.members,
        ap length viewers,
        length_push (viewers_of s.members) (record { number = s.joins + 1; role = c.in_ok-role.role }),
        ap length c.list.ensures,
      );
      marked = rw (c.push_reserved.ensures.items, c.make_room.ensures.items) (marked_same c.self.inside.head s ks _ c.self.inside.marks h c.self.invariant.marked refl);
      typed_last = rw (c.push_reserved.ensures.items, c.make_room.ensures.items) (typed_on c.self.inside.typed c.self.inside.kept.items _ c.self.invariant.typed_last);
    }

pub returns-clause-answer : goal.returns-clause-answer
returns-clause-answer c =
    let ks = c.self.inside.kept.items in
    let let_in = c.in_ok-role.ensures (length ks) in
    let k = joined c.self.inside.head (reached_of c.self.inside.standing (length ks)) c.args.name.now c.in_ok-role.role let_in.0 let_in.1 let_in.2 in
    answered c.self.inside.head c.self.inside.standing ks c.args.self.now (Some (Joined c.admit-v.result)) (JoinStep c.args.name.now) c.self.invariant.is_session c.self.view_is
    (ap Joined c.admit-v.ensures.number ∙ sym k.answer_is)

pub returns-clause-journal : goal.returns-clause-journal
returns-clause-journal c =
    let ks = c.self.inside.kept.items in
    let let_in = c.in_ok-role.ensures (length ks) in
    let k = joined c.self.inside.head (reached_of c.self.inside.standing (length ks)) c.args.name.now c.in_ok-role.role let_in.0 let_in.1 let_in.2 in
    ap journal_of c.push_reserved.ensures.items ∙ journal_push c.make_room.new.kept.items _
    ∙ ap (λ es. es ++ Join c.admit-v.result c.in_ok-role.role ∷ []) (ap journal_of c.make_room.ensures.items)
    ∙ ap (λ v. journal_of ks ++ Join v c.in_ok-role.role ∷ []) c.admit-v.ensures.number
    ∙ goes_on c.self.inside.head c.self.inside.standing ks c.args.self.now (Some (Joined c.admit-v.result)) (JoinStep c.args.name.now) _ c.self.invariant.is_session c.self.view_is
    (ap (λ o. journal_of ks ++ option_to_list o) (sym k.entry_is))

pub returns-clause-asked : goal.returns-clause-asked
returns-clause-asked c = rw (← c.self.view_is) c.admit-v.ensures.asked

pub returns-clause-suppressed : goal.returns-clause-suppressed
returns-clause-suppressed c = rw (← c.self.view_is) c.admit-v.ensures.stopped

pub returns-clause-fresh : goal.returns-clause-fresh
returns-clause-fresh c =
    let ks = c.self.inside.kept.items in
    let s = c.self.inside.standing in
    let sound = sound_now _ _ _ c.self.invariant.is_session in
    let away : is_present c.admit-v.result (viewers_of s.members) ≡ false = absent_past c.admit-v.result 0 s.joins (viewers_of s.members) (omega (arith, c.admit-v.ensures.number)) sound.numbered in (
      (λ i. c.admit-v.ensures.asked i c.admit-v.result) ∙ ap tiles (kept_absent (λ m. m.asked) [] c.admit-v.result s.members away),
      (λ i. c.admit-v.ensures.stopped i c.admit-v.result) ∙ kept_absent (λ m. m.suppressed) false c.admit-v.result s.members away,
    )
