use Rattle.std.proofs.Common.{◌≡◌, ◌+◌, ◌∙◌, [], ◌∷◌, ◌++◌, None, length, Some, ap, sym, subst, arith}
use Rattle.std.proofs.lemmas.Result.{err_from_is_err_and}
use Rattle.std.specs.Prelude.{option_to_list}
use Rattle.draw_ops.specs.Fits.{FitsState, broken_rule, slot_misfit}
use Rattle.session_rules.specs.Pending.{pending_drawings}
use Rattle.session_rules.specs.declared.entry.Entry.TheVariants.{Draw}
use Rattle.session_rules.specs.Journal.{reached_after_entry}
use Rattle.session_rules.specs.Steps.Step.{DrawStep}
use Rattle.session_rules.specs.Steps.Answer.{Accepted}
use Rattle.session_rules.proofs.OwnSteps.{FitsState-legal}
use Rattle.session_core.specs.Keeping.{journal_of}
use Rattle.px_core.specs.declared.surface.Size.{Size}
use Rattle.session_core.specs.Marking.{AreNoted}
use Rattle.session_core.specs.Showing.{all_shown, shown_with}
use Rattle.session_core.proofs.Entries.{none_noted}
use Rattle.std.specs.Vec.{vec_len, vec_capacity}
use Rattle.session_core.specs.Standing.{reached_of, IsOpen}
use Rattle.session_core.proofs.Sessions.{sound_now, appended, journal_push, answered, goes_on, entry_now}
use Rattle.session_core.proofs.TextShown.{keeps_rules, has_slots}
use Rattle.session_core.proofs.MarkSteps.{marked_on, noted_on}
use Rattle.session_core.proofs.Typed.{typed_on}
use Rattle.session_core.proofs.DrawLimits.{draw_room, draw_pixels}
use Rattle.session_core.proofs.Accepting.{accepted, draw_refused, draw_stays}
use Rattle.session_core.proofs.session.Session.draw.Goals as goal

pub may_draw-requires-clause-few : goal.may_draw-requires-clause-few
may_draw-requires-clause-few c = (sound_now _ _ _ c.self.invariant.is_session).few_pixels

pub returns-in_err-may_draw-clause-answer : goal.returns-in_err-may_draw-clause-answer
returns-in_err-may_draw-clause-answer c =
    let p = err_from_is_err_and c.from_residual.result c.from_residual.ensures.1 in
    let ks = c.self.inside.kept.items in
    let s = c.self.inside.standing in
    let why = c.in_err-may_draw.field-0.0 in
    let no = c.in_err-may_draw.ensures c.self.inside.head (length ks) (sym c.self.invariant.is_session.surface_size) in
    let k = draw_refused c.self.inside.head (reached_of s (length ks)) (Draw c.args.v c.args.d) why no.0 no.1 in
    rw (p.1, p.2) (answered c.self.inside.head s ks c.args.self.now _ (DrawStep c.args.v c.args.d) c.self.invariant.is_session c.self.view_is k.answer_is)

pub returns-in_err-may_draw-clause-journal : goal.returns-in_err-may_draw-clause-journal
returns-in_err-may_draw-clause-journal c =
    let p = err_from_is_err_and c.from_residual.result c.from_residual.ensures.1 in
    let ks = c.self.inside.kept.items in
    let s = c.self.inside.standing in
    let why = c.in_err-may_draw.field-0.0 in
    let no = c.in_err-may_draw.ensures c.self.inside.head (length ks) (sym c.self.invariant.is_session.surface_size) in
    let k = draw_refused c.self.inside.head (reached_of s (length ks)) (Draw c.args.v c.args.d) why no.0 no.1 in
    rw (p.1, p.2) (draw_stays why _ _ (entry_now c.self.inside.head s ks c.args.self.now (DrawStep c.args.v c.args.d) _ c.self.invariant.is_session c.self.view_is k.entry_is))

pub shown_one-requires-clause-fits : goal.shown_one-requires-clause-fits
shown_one-requires-clause-fits c =
    let h = c.self.invariant.is_session in
    let s = c.self.inside.standing in
    let ks = c.self.inside.kept.items in
    let legal = c.in_ok-may_draw.ensures c.self.inside.head (length ks) (sym h.surface_size) in
    subst (λ z. FitsState z s.surface.state c.args.d) (sym h.surface_size) (FitsState-legal c.self.inside.head (reached_of s (length ks)) c.args.v c.args.d legal)

pub invariant_of-self : goal.invariant_of-self
invariant_of-self c = record {
  is_session = rw c.make_room.ensures.items c.self.invariant.is_session;
  room_left = omega (arith, c.self.invariant.room_left, c.make_room.ensures.length, c.make_room.ensures.capacity);
  marked = rw c.make_room.ensures.items c.self.invariant.marked;
  typed_last = rw c.make_room.ensures.items c.self.invariant.typed_last;
}

pub draw-requires-clause-rules : goal.draw-requires-clause-rules
draw-requires-clause-rules c =
    let h = c.self.invariant.is_session in
    let s = c.self.inside.standing in
    let ks = c.self.inside.kept.items in
    let legal = c.in_ok-may_draw.ensures c.self.inside.head (length ks) (sym h.surface_size) in
    subst (λ z. broken_rule z c.args.d ≡ None) (sym h.surface_size)
    (keeps_rules c.self.inside.head.size s.surface.state c.args.d (FitsState-legal c.self.inside.head (reached_of s (length ks)) c.args.v c.args.d legal))

pub draw-requires-clause-slots : goal.draw-requires-clause-slots
draw-requires-clause-slots c =
    let h = c.self.invariant.is_session in
    let s = c.self.inside.standing in
    let ks = c.self.inside.kept.items in
    let legal = c.in_ok-may_draw.ensures c.self.inside.head (length ks) (sym h.surface_size) in
    subst (λ z. slot_misfit z s.surface.state c.args.d.shape ≡ None) (sym h.surface_size)
    (has_slots c.self.inside.head.size s.surface.state c.args.d (FitsState-legal c.self.inside.head (reached_of s (length ks)) c.args.v c.args.d legal))

pub draw-requires-clause-entries : goal.draw-requires-clause-entries
draw-requires-clause-entries c =
    let h = c.self.invariant.is_session in
    let ks = c.self.inside.kept.items in
    draw_room c.self.inside.head (reached_of c.self.inside.standing (length ks)) c.args.v c.args.d (c.in_ok-may_draw.ensures c.self.inside.head (length ks) (sym h.surface_size))

pub draw-requires-clause-pixels : goal.draw-requires-clause-pixels
draw-requires-clause-pixels c =
    let h = c.self.invariant.is_session in
    let ks = c.self.inside.kept.items in
    draw_pixels c.self.inside.head (reached_of c.self.inside.standing (length ks)) c.args.v c.args.d (c.in_ok-may_draw.ensures c.self.inside.head (length ks) (sym h.surface_size))

pub invariant_of-self-then-not-draw : goal.invariant_of-self-then-not-draw
invariant_of-self-then-not-draw c = subst (λ s. IsOpen c.self.inside.head s c.make_room.new.kept.items c.self.inside.marks c.self.inside.typed (vec_len c.make_room.new.kept) (vec_capacity c.make_room.new.kept)) (sym c.if-not-draw.ensures.unchanged) (record {
  is_session = rw c.make_room.ensures.items c.self.invariant.is_session;
  room_left = omega (arith, c.self.invariant.room_left, c.make_room.ensures.length, c.make_room.ensures.capacity);
  marked = rw c.make_room.ensures.items c.self.invariant.marked;
  typed_last = rw c.make_room.ensures.items c.self.invariant.typed_last;
})

pub note_one-requires-clause-rules : goal.note_one-requires-clause-rules
note_one-requires-clause-rules c =
    let h = c.self.invariant.is_session in
    let s = c.self.inside.standing in
    let ks = c.self.inside.kept.items in
    let legal = c.in_ok-may_draw.ensures c.self.inside.head (length ks) (sym h.surface_size) in
    rw c.size-size.ensures (keeps_rules c.self.inside.head.size s.surface.state c.args.d (FitsState-legal c.self.inside.head (reached_of s (length ks)) c.args.v c.args.d legal))

pub invariant_of-self-2 : goal.invariant_of-self-2
invariant_of-self-2 c =
    let h = c.self.invariant.is_session in
    let head = c.self.inside.head in
    let s = c.self.inside.standing in
    let ks = c.self.inside.kept.items in
    let legal = c.in_ok-may_draw.ensures head (length ks) (sym h.surface_size) in
    record {
      is_session = rw (c.push_reserved.ensures.items, c.make_room.ensures.items) (appended head s c.draw.new.self ks _ h legal
          (record {
            first = c.count-first.ensures;
            board = tt;
            shown = subst (λ z. all_shown (c.args.d ∷ []) (c.in_ok-shown.shown ∷ []) ≡ pending_drawings z s.surface.state (c.args.d ∷ [])) h.surface_size c.in_ok-shown.ensures;
          })
          (subst (λ z. reached_of c.draw.new.self (length ks + 1) ≡ reached_after_entry z (reached_of s (length ks)) (Draw c.args.v c.args.d)) h.surface_size
          (c.if-not-draw.ensures.reached (length ks) c.args.v))
          (c.draw.ensures.size ∙ h.surface_size) (ap (λ b. b.size) c.draw.ensures.board ∙ h.board_size));
      room_left = omega (arith, c.if-not-make_room.ensures.room, c.push_reserved.ensures.len, c.push_reserved.ensures.capacity, ap length c.draw.ensures.members, ap length c.list.ensures);
      marked = rw (c.push_reserved.ensures.items, c.make_room.ensures.items) (marked_on head s ks _ c.self.inside.marks c.note_one.new.marks (all_shown (c.args.d ∷ []) (c.in_ok-shown.shown ∷ [])) (c.len.result + 1) h c.self.invariant.marked
          (sym (subst (λ z. all_shown (c.args.d ∷ []) (c.in_ok-shown.shown ∷ []) ≡ pending_drawings z s.surface.state (c.args.d ∷ [])) h.surface_size c.in_ok-shown.ensures))
          (omega (arith, c.len.ensures, c.make_room.ensures.length, c.self.inside.kept.ok.0))
          (subst (λ (z : Size). AreNoted z (shown_with c.args.d c.in_ok-shown.shown ∷ []) (c.len.result + 1) c.self.inside.marks c.note_one.new.marks) c.size-size.ensures
          (noted_on c.size-size.result [] (shown_with c.args.d c.in_ok-shown.shown) (c.len.result + 1) c.self.inside.marks c.self.inside.marks c.note_one.new.marks
          (none_noted c.size-size.result (c.len.result + 1) c.self.inside.marks) c.note_one.ensures.tiles c.note_one.ensures.slots)));
      typed_last = rw (c.push_reserved.ensures.items, c.make_room.ensures.items) (typed_on c.self.inside.typed c.self.inside.kept.items _ c.self.invariant.typed_last);
    }

pub returns-clause-answer : goal.returns-clause-answer
returns-clause-answer c =
    let h = c.self.invariant.is_session in
    let ks = c.self.inside.kept.items in
    let s = c.self.inside.standing in
    let k = accepted c.self.inside.head (reached_of s (length ks)) (Draw c.args.v c.args.d) (c.in_ok-may_draw.ensures c.self.inside.head (length ks) (sym h.surface_size)) in
    answered c.self.inside.head s ks c.args.self.now (Some Accepted) (DrawStep c.args.v c.args.d) h c.self.view_is (sym k.answer_is)

pub returns-clause-journal : goal.returns-clause-journal
returns-clause-journal c =
    let h = c.self.invariant.is_session in
    let ks = c.self.inside.kept.items in
    let s = c.self.inside.standing in
    let k = accepted c.self.inside.head (reached_of s (length ks)) (Draw c.args.v c.args.d) (c.in_ok-may_draw.ensures c.self.inside.head (length ks) (sym h.surface_size)) in
    ap journal_of c.push_reserved.ensures.items ∙ journal_push c.make_room.new.kept.items _
    ∙ ap (λ es. es ++ Draw c.args.v c.args.d ∷ []) (ap journal_of c.make_room.ensures.items)
    ∙ goes_on c.self.inside.head s ks c.args.self.now (Some Accepted) (DrawStep c.args.v c.args.d) _ h c.self.view_is (ap (λ o. journal_of ks ++ option_to_list o) (sym k.entry_is))
