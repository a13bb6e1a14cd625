use Rattle.std.proofs.Common.{◌∙◌, ◌++◌, length, refl, ap, sym, subst, arith}
use Rattle.session_core.specs.Heads.{rows_of}
use Rattle.session_core.specs.SessionModel.{AreInvited}
use Rattle.session_core.proofs.Opening.{opened}
use Rattle.session_core.proofs.MarkSteps.{marked_first}
use Rattle.session_core.proofs.session.Session.new.Goals as goal

pub invariant_of-result : goal.invariant_of-result
invariant_of-result c =
    let same = c.in_ok-extend_from_slice.ensures.items ∙ ap (λ xs. xs ++ c.args.rows.now) c.new-invites.ensures.items in
    let invited = subst (λ xs. AreInvited (rows_of xs)) (sym same) c.requires.rows in
    record {
      is_session = rw c.new-3.ensures.items
          (opened (record { size = c.args.size; rows = rows_of c.extend_from_slice.new.self.items }) c.in_ok-standing.standing c.requires.size invited c.in_ok-standing.ensures);
      room_left = omega (arith, c.new-3.ensures.len, ap length c.in_ok-standing.ensures.nobody);
      marked = rw (c.new-3.ensures.items, c.in_ok-marks.ensures) (marked_first c.args.size);
      typed_last = rw c.new-3.ensures.items refl;
    }
