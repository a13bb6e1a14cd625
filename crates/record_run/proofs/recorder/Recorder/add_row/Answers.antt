use Rattle.std.proofs.Common.{◌≡◌, ◌∙◌, [], ◌∷◌, ◌++◌, ap, sym, subst}
use Rattle.std.specs.Prelude.{IsTrue}
use Rattle.session_rules.specs.Journal.{Head, Row}
use Rattle.session_core.specs.Heads.{rows_of}
use Rattle.session_core.specs.SessionModel.{AreInvited}
use Rattle.script_run.proofs.Inviting.{rows_push, invited_push}
use Rattle.record_rules.specs.Tables.{are_named}
use Rattle.record_run.proofs.Recorders.{not_begun, named_push, row_kept}
use Rattle.record_run.proofs.recorder.Recorder.add_row.Goals as goal

pub invariant_of-self-2 : goal.invariant_of-self-2
invariant_of-self-2 c =
    let old = c.self.inside.rows.items in
    let head : Head = record { size = c.self.inside.size; rows = rows_of old } in
    let row : Row = record { name = c.args.name.now; role = c.args.role } in
    let none = not_begun head c.self.inside.session (rw (← c.self.view_is) at c.requires.early) in
    let fresh = rw (← c.self.view_is, none) at c.requires.fresh in
    let room = rw (← c.self.view_is, none) at c.requires.room in
    let rows = ap rows_of c.in_ok-push.ensures.items ∙ rows_push old (record { name = c.new.result; role = c.args.role })
    ∙ ap (λ n. rows_of old ++ record { name = n; role = c.args.role } ∷ []) c.new.ensures in
    record {
      size = c.self.invariant.size;
      rows = subst AreInvited (sym rows) (invited_push (rows_of old) row c.self.invariant.rows c.requires.name fresh room);
      named = subst (λ rs. IsTrue (are_named rs)) (sym rows) (named_push (rows_of old) row c.self.invariant.named c.requires.name);
      same = rw none tt;
    }

pub returns : goal.returns
returns c =
    let old = c.self.inside.rows.items in
    let head : Head = record { size = c.self.inside.size; rows = rows_of old } in
    let next : Head = record { size = c.self.inside.size; rows = rows_of c.push.new.self.items } in
    let row : Row = record { name = c.args.name.now; role = c.args.role } in
    let none = not_begun head c.self.inside.session (rw (← c.self.view_is) at c.requires.early) in
    let rows = ap rows_of c.in_ok-push.ensures.items ∙ rows_push old (record { name = c.new.result; role = c.args.role })
    ∙ ap (λ n. rows_of old ++ record { name = n; role = c.args.role } ∷ []) c.new.ensures in
    let is : next ≡ record head { rows = rows_of old ++ row ∷ [] } = ap (λ rs. record { size = c.self.inside.size; rows = rs }) rows in
    rw (← c.self.view_is, none) (λ r keeps. row_kept head next row r is keeps)
