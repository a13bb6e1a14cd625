use Rattle.std.proofs.Common.{◌≡◌, ◌∙◌, [], false, length, refl, ap, sym, arith}
use Rattle.px_core.specs.TileFlags.{tiles}
use Rattle.session_rules.specs.Journal.{is_present}
use Rattle.session_core.specs.Members.{viewers_of}
use Rattle.session_core.specs.Standing.{reached_of}
use Rattle.session_core.proofs.MemberSteps.{kept_absent}
use Rattle.session_core.proofs.Sessions.{here_is, sound_now, appended, length_viewers}
use Rattle.session_core.proofs.MarkSteps.{marked_same}
use Rattle.session_core.proofs.Typed.{typed_on}
use Rattle.session_core.proofs.Leaving.{leave_legal, gone, one_fewer, replaced_where}
use Rattle.session_core.proofs.session.Session.leave.Goals as goal

pub dismiss-requires : goal.dismiss-requires
dismiss-requires c = sym (here_is _ _ _ c.args.v c.self.invariant.is_session) ∙ (rw (← c.self.view_is) at c.requires)

pub push_reserved-requires : goal.push_reserved-requires
push_reserved-requires c =
    let here = sym (here_is _ _ _ c.args.v c.self.invariant.is_session) ∙ (rw (← c.self.view_is) at c.requires) in
    let fewer = one_fewer c.args.v (viewers_of c.self.inside.standing.members) here in
    omega (arith, c.self.invariant.room_left, length_viewers c.self.inside.standing.members, fewer)

pub invariant_of-self : goal.invariant_of-self
invariant_of-self c =
    let here = sym (here_is _ _ _ c.args.v c.self.invariant.is_session) ∙ (rw (← c.self.view_is) at c.requires) in
    let viewers = ap (λ r. r.viewers) (c.dismiss.ensures.reached c.self.inside.head.size 0) in
    let h = c.self.invariant.is_session in
    record {
      is_session = rw c.push_reserved.ensures.items (appended c.self.inside.head c.self.inside.standing c.dismiss.new.self c.self.inside.kept.items _ h
          (leave_legal c.self.inside.head (reached_of c.self.inside.standing (length c.self.inside.kept.items)) c.args.v c.ranges.v.fits here)
          (record { first = c.count-first.ensures ∙ ap (λ s. s.state.count) c.dismiss.ensures.surface; board = tt; shown = refl })
          (c.dismiss.ensures.reached c.self.inside.head.size _)
          (ap (λ s. s.size) c.dismiss.ensures.surface ∙ h.surface_size) (ap (λ b. b.size) c.dismiss.ensures.board ∙ h.board_size));
      room_left = omega (
        arith,
        c.self.invariant.room_left,
        c.push_reserved.ensures.len,
        c.push_reserved.ensures.capacity,
        length_viewers c.self.inside.standing.members,
        length_viewers c.dismiss.new.self.members,
        ap length viewers,
        one_fewer c.args.v (viewers_of c.self.inside.standing.members) here,
      );
      marked = rw c.push_reserved.ensures.items (marked_same c.self.inside.head c.self.inside.standing c.self.inside.kept.items _ c.self.inside.marks h c.self.invariant.marked refl);
      typed_last = rw c.push_reserved.ensures.items (typed_on c.self.inside.typed c.self.inside.kept.items _ c.self.invariant.typed_last);
    }

pub returns-clause-asked : goal.returns-clause-asked
returns-clause-asked c =
    let viewers = ap (λ r. r.viewers) (c.dismiss.ensures.reached c.self.inside.head.size 0) in
    let away : is_present c.args.v (viewers_of c.dismiss.new.self.members) ≡ false =
    ap (is_present c.args.v) viewers ∙ gone c.args.v 0 _ _ (sound_now _ _ _ c.self.invariant.is_session).numbered in
    rw (← c.self.view_is) (replaced_where c.args.v _ _ _ c.dismiss.ensures.asked (ap tiles (kept_absent (λ m. m.asked) [] c.args.v c.dismiss.new.self.members away)))

pub returns-clause-suppressed : goal.returns-clause-suppressed
returns-clause-suppressed c =
    let viewers = ap (λ r. r.viewers) (c.dismiss.ensures.reached c.self.inside.head.size 0) in
    let away : is_present c.args.v (viewers_of c.dismiss.new.self.members) ≡ false =
    ap (is_present c.args.v) viewers ∙ gone c.args.v 0 _ _ (sound_now _ _ _ c.self.invariant.is_session).numbered in
    rw (← c.self.view_is) (replaced_where c.args.v _ _ _ c.dismiss.ensures.stopped (kept_absent (λ m. m.suppressed) false c.args.v c.dismiss.new.self.members away))
