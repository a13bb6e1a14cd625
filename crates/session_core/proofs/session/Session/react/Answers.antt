use Rattle.std.proofs.Common.{◌≡◌, ◌+◌, ◌∙◌, [], ◌∷◌, ◌++◌, None, length, Some, refl, ap, sym, subst, arith}
use Rattle.std.proofs.lemmas.Result.{err_from_is_err_and}
use Rattle.std.specs.Prelude.{All, IsTrue, option_to_list}
use Rattle.px_core.specs.declared.surface.Size.{Size}
use Rattle.px_core.specs.Rectangle.{is_session_size}
use Rattle.std.specs.Vec.{vec_len, vec_capacity}
use Rattle.draw_ops.specs.Fits.{broken_rule}
use Rattle.board_app.specs.Boards.{board_of}
use Rattle.session_rules.specs.declared.entry.Entry.TheVariants.{Input}
use Rattle.session_rules.specs.Agreement.{BoardAgrees}
use Rattle.session_rules.specs.Board.{board_reaction}
use Rattle.session_rules.specs.Journal.{reached_after_entry}
use Rattle.session_rules.specs.Steps.Answer.{Accepted}
use Rattle.session_core.specs.Keeping.{journal_of}
use Rattle.session_core.specs.Showing.{all_shown, shown_list}
use Rattle.session_core.specs.Standing.{reached_of, IsOpen}
use Rattle.session_core.proofs.Sessions.{sound_now, appended, journal_push, answered_entry, goes_on_entry, entry_made}
use Rattle.session_core.proofs.MarkSteps.{marked_on, all_keep, noted_as}
use Rattle.session_core.proofs.Typed.{typed_on}
use Rattle.session_core.proofs.PendingLaws.{enough}
use Rattle.session_core.proofs.DrawLimits.{input_room}
use Rattle.session_core.proofs.Reacted.{reaction_fits, reaction_colors, reaction_kept}
use Rattle.session_core.proofs.Accepting.{accepted, event_refused, event_stays}
use Rattle.session_core.proofs.session.Session.react.Goals as goal

pub returns-in_err-may_react-clause-answer : goal.returns-in_err-may_react-clause-answer
returns-in_err-may_react-clause-answer c =
    let p = err_from_is_err_and c.from_residual.result c.from_residual.ensures.1 in
    let ks = c.self.inside.kept.items in
    let s = c.self.inside.standing in
    let no = c.in_err-may_react.ensures c.self.inside.head (length ks) c.requires in
    let k = event_refused c.self.inside.head (reached_of s (length ks)) (Input c.args.v c.args.e) c.in_err-may_react.field-0.0 no.0 no.1 in
    rw (p.1, p.2) (answered_entry c.self.inside.head s ks c.args.self.now _ (λ r. Input c.args.v c.args.e) c.self.invariant.is_session c.self.view_is k.answer_is)

pub returns-in_err-may_react-clause-journal : goal.returns-in_err-may_react-clause-journal
returns-in_err-may_react-clause-journal c =
    let p = err_from_is_err_and c.from_residual.result c.from_residual.ensures.1 in
    let ks = c.self.inside.kept.items in
    let s = c.self.inside.standing in
    let no = c.in_err-may_react.ensures c.self.inside.head (length ks) c.requires in
    let k = event_refused c.self.inside.head (reached_of s (length ks)) (Input c.args.v c.args.e) c.in_err-may_react.field-0.0 no.0 no.1 in
    rw (p.1, p.2) (event_stays c.in_err-may_react.field-0.0 _ _
    (entry_made c.self.inside.head s ks c.args.self.now (λ r. Input c.args.v c.args.e) None c.self.invariant.is_session c.self.view_is k.entry_is))

pub react_to-requires-clause-agrees : goal.react_to-requires-clause-agrees
react_to-requires-clause-agrees c =
    let h = c.self.invariant.is_session in
    let s = c.self.inside.standing in
    subst (λ z. BoardAgrees z s.surface.state (board_of s.board)) (sym h.surface_size) (sound_now _ _ _ h).agrees

pub react_to-requires-clause-signs : goal.react_to-requires-clause-signs
react_to-requires-clause-signs c = let sound = sound_now _ _ _ c.self.invariant.is_session in omega (arith, sound.few_signs, sound.few_entries)

pub react_to-requires-clause-few : goal.react_to-requires-clause-few
react_to-requires-clause-few c = let sound = sound_now _ _ _ c.self.invariant.is_session in omega (arith, sound.few_drawings, sound.few_entries)

pub invariant_of-self : goal.invariant_of-self
invariant_of-self c = record {
  is_session = rw c.make_room.ensures.items c.self.invariant.is_session;
  room_left = omega (arith, c.self.invariant.room_left, c.make_room.ensures.length, c.make_room.ensures.capacity);
  marked = rw c.make_room.ensures.items c.self.invariant.marked;
  typed_last = rw c.make_room.ensures.items c.self.invariant.typed_last;
}

pub react-requires-clause-fit : goal.react-requires-clause-fit
react-requires-clause-fit c =
    let h = c.self.invariant.is_session in
    let s = c.self.inside.standing in
    let agrees = subst (λ z. BoardAgrees z s.surface.state (board_of s.board)) (sym h.surface_size) (sound_now _ _ _ h).agrees in
    let size = subst (λ (z : Size). IsTrue (is_session_size z.w z.h)) (sym h.surface_size) h.size in
    reaction_fits s c.args.e c.in_ok-reaction.reaction c.deref.result.now size agrees c.in_ok-reaction.ensures c.deref.ensures.value

pub react-requires-clause-colors : goal.react-requires-clause-colors
react-requires-clause-colors c =
    reaction_colors c.self.inside.standing c.args.e c.in_ok-reaction.reaction c.deref.result.now c.in_ok-reaction.ensures c.deref.ensures.value

pub react-requires-clause-entries : goal.react-requires-clause-entries
react-requires-clause-entries c =
    let ks = c.self.inside.kept.items in
    input_room c.self.inside.head (reached_of c.self.inside.standing (length ks)) c.args.v c.args.e (c.in_ok-may_react.ensures c.self.inside.head (length ks) c.requires)

pub invariant_of-self-then-not-react : goal.invariant_of-self-then-not-react
invariant_of-self-then-not-react c = subst (λ s. IsOpen c.self.inside.head s c.make_room.new.kept.items c.self.inside.marks c.self.inside.typed (vec_len c.make_room.new.kept) (vec_capacity c.make_room.new.kept)) (sym c.if-not-react.ensures.unchanged) (record {
  is_session = rw c.make_room.ensures.items c.self.invariant.is_session;
  room_left = omega (arith, c.self.invariant.room_left, c.make_room.ensures.length, c.make_room.ensures.capacity);
  marked = rw c.make_room.ensures.items c.self.invariant.marked;
  typed_last = rw c.make_room.ensures.items c.self.invariant.typed_last;
})

pub note_reaction-requires-clause-rules : goal.note_reaction-requires-clause-rules
note_reaction-requires-clause-rules c =
    let h = c.self.invariant.is_session in
    let s = c.self.inside.standing in
    let agrees = subst (λ z. BoardAgrees z s.surface.state (board_of s.board)) (sym h.surface_size) (sound_now _ _ _ h).agrees in
    let size = subst (λ (z : Size). IsTrue (is_session_size z.w z.h)) (sym h.surface_size) h.size in
    subst (λ (z : Size). All (λ d. broken_rule z d ≡ None) c.deref-2.result.now) (h.surface_size ∙ sym c.size-size.ensures)
    (all_keep s.surface.size s.surface.state c.deref-2.result.now (reaction_fits s c.args.e c.in_ok-reaction.reaction c.deref-2.result.now size agrees c.in_ok-reaction.ensures c.deref-2.ensures.value))

pub note_reaction-requires-clause-each : goal.note_reaction-requires-clause-each
note_reaction-requires-clause-each c =
    let s = c.self.inside.standing in
    omega (
      arith,
      enough s.surface.size s.surface.state c.in_ok-reaction.reaction.drawings.items (shown_list c.in_ok-reaction.reaction.shown) c.in_ok-reaction.ensures.shown,
      ap length c.deref-2.ensures.value,
    )

pub invariant_of-self-2 : goal.invariant_of-self-2
invariant_of-self-2 c =
    let h = c.self.invariant.is_session in
    let head = c.self.inside.head in
    let s = c.self.inside.standing in
    let ks = c.self.inside.kept.items in
    let made = c.in_ok-reaction.ensures in
    let legal = c.in_ok-may_react.ensures head (length ks) c.requires in
    record {
      is_session = rw (c.push_reserved.ensures.items, c.make_room.ensures.items) (appended head s c.react.new.self ks _ h legal
          (reaction_kept head s (length ks) c.args.v c.count-first.result c.args.e c.in_ok-reaction.reaction h.surface_size h.board_size made c.count-first.ensures)
          (subst (λ z. reached_of c.react.new.self (length ks + 1) ≡ reached_after_entry z (reached_of s (length ks)) (Input c.args.v c.args.e)) h.surface_size
          (c.if-not-react.ensures.reached (length ks) c.args.v c.args.e (c.deref.ensures.value ∙ made.drawings) made.board))
          (c.react.ensures.size ∙ h.surface_size) (c.react.ensures.board ∙ h.board_size));
      room_left = omega (arith, c.if-not-make_room.ensures.room, c.push_reserved.ensures.len, c.push_reserved.ensures.capacity, ap length c.react.ensures.members, ap length c.list.ensures);
      marked = rw (c.push_reserved.ensures.items, c.make_room.ensures.items) (marked_on head s ks _ c.self.inside.marks c.note_reaction.new.marks
          (all_shown (board_reaction head.size (board_of s.board) c.args.e).drawings (shown_list c.in_ok-reaction.reaction.shown)) (c.len.result + 1) h c.self.invariant.marked
          (sym (reaction_kept head s (length ks) c.args.v c.count-first.result c.args.e c.in_ok-reaction.reaction h.surface_size h.board_size made c.count-first.ensures).shown)
          (omega (arith, c.len.ensures, c.make_room.ensures.length, c.self.inside.kept.ok.0))
          (noted_as head.size c.size-size.result c.deref-2.result.now (board_reaction head.size (board_of s.board) c.args.e).drawings (shown_list c.in_ok-reaction.reaction.shown) (shown_list c.in_ok-reaction.reaction.shown) (c.len.result + 1)
          c.self.inside.marks c.note_reaction.new.marks c.size-size.ensures
          (c.deref-2.ensures.value ∙ (made.drawings ∙ ap (λ (z : Size). (board_reaction z (board_of s.board) c.args.e).drawings) h.surface_size)) refl c.note_reaction.ensures));
      typed_last = rw (c.push_reserved.ensures.items, c.make_room.ensures.items) (c.typed_by_event-self-inside.ensures ∙ typed_on c.self.inside.typed c.self.inside.kept.items _ c.self.invariant.typed_last);
    }

pub returns-clause-answer : goal.returns-clause-answer
returns-clause-answer c =
    let h = c.self.invariant.is_session in
    let ks = c.self.inside.kept.items in
    let s = c.self.inside.standing in
    let k = accepted c.self.inside.head (reached_of s (length ks)) (Input c.args.v c.args.e) (c.in_ok-may_react.ensures c.self.inside.head (length ks) c.requires) in
    answered_entry c.self.inside.head s ks c.args.self.now (Some Accepted) (λ r. Input c.args.v c.args.e) h c.self.view_is (sym k.answer_is)

pub returns-clause-journal : goal.returns-clause-journal
returns-clause-journal c =
    let h = c.self.invariant.is_session in
    let ks = c.self.inside.kept.items in
    let s = c.self.inside.standing in
    let k = accepted c.self.inside.head (reached_of s (length ks)) (Input c.args.v c.args.e) (c.in_ok-may_react.ensures c.self.inside.head (length ks) c.requires) in
    ap journal_of c.push_reserved.ensures.items ∙ journal_push c.make_room.new.kept.items _
    ∙ ap (λ es. es ++ Input c.args.v c.args.e ∷ []) (ap journal_of c.make_room.ensures.items)
    ∙ goes_on_entry c.self.inside.head s ks c.args.self.now (Some Accepted) (λ r. Input c.args.v c.args.e) _ h c.self.view_is (ap (λ o. journal_of ks ++ option_to_list o) (sym k.entry_is))
