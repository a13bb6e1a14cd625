use Rattle.std.proofs.Common.{◌∙◌, [], ◌∷◌, ◌++◌, refl, ap, sym, subst}
use Rattle.std.specs.Prelude.{false}
use Rattle.session_rules.specs.Journal.{Head, Row}
use Rattle.session_core.specs.Heads.{rows_of}
use Rattle.session_core.specs.SessionModel.{AreInvited}
use Rattle.script_run.proofs.Inviting.{not_running, same_at_first, rows_push, invited_push}
use Rattle.script_run.proofs.hosting.ScriptHost.invite.Goals as goal

pub invariant_of-self-2 : goal.invariant_of-self-2
invariant_of-self-2 c =
    let old = c.self.inside.rows.items in
    let head : Head = record { size = c.self.inside.size; rows = rows_of old } in
    let row : Row = record { name = c.args.name.now; role = c.args.role } in
    let none = not_running head c.self.inside.running c.self.invariant.same (rw (← c.self.view_is) at c.requires.early) in
    let fresh = rw (← c.self.view_is, none) at c.requires.fresh in
    let room = rw (← c.self.view_is, none) at c.requires.room in
    let rows = ap rows_of c.in_ok-push.ensures.items ∙ rows_push old (record { name = c.new.result; role = c.args.role })
    ∙ ap (λ n. rows_of old ++ record { name = n; role = c.args.role } ∷ []) c.new.ensures in
    record {
      size = c.self.invariant.size;
      rows = subst AreInvited (sym rows) (invited_push (rows_of old) row c.self.invariant.rows c.requires.name fresh room);
      same = rw none tt;
    }

pub returns-clause-run : goal.returns-clause-run
returns-clause-run c =
    let head : Head = record { size = c.self.inside.size; rows = rows_of c.self.inside.rows.items } in
    let next : Head = record { size = c.self.inside.size; rows = rows_of c.push.new.self.items } in
    let none = not_running head c.self.inside.running c.self.invariant.same (rw (← c.self.view_is) at c.requires.early) in
    rw (← c.self.view_is, none) (λ run r. same_at_first head next false run refl r)
