use Rattle.std.proofs.Common.{rules, ◌≡◌, false, subst, IfOk, Ok}
use Rattle.px_core.specs.Tiles.{no_tiles}
use Rattle.session_rules.specs.Steps.Step.{JoinStep}
use Rattle.session_rules.specs.Entering.{entry_of_step, answer_at}
use Rattle.session_core.specs.SessionModel.{reached_by, asked_by, is_suppressed}
use Rattle.session_core.specs.Outcomes.{IsAnswered, GoesOn}
use Rattle.session_core.specs.Faults.{join_answer}
use Rattle.answer_run.proofs.Joined.{let_in_is, joined, turned_away}
use Rattle.answer_run.proofs.solo.join.Goals as goal

pub new-requires-clause-rows : goal.new-requires-clause-rows
new-requires-clause-rows c = search rules

pub returns-in_ok-seat-in-Some : goal.returns-in_ok-seat-in-Some
returns-in_ok-seat-in-Some c =
    let old = c.in_ok-session.session in
    let new = c.join.new.self in
    let step = JoinStep c.args.name.now in
    let is : c.join.result ≡ Ok c.in-Some.v = let_in_is c.join.result c.in_ok-v.field-0 c.in-Some.v c.in_ok-v.ensures.number c.in-Some.is in
    let fresh = subst (λ r. IfOk r (λ v. (asked_by new v ≡ no_tiles) × (is_suppressed new v ≡ false))) is c.join.ensures.fresh in
    joined c.args.host.now.size c.args.host.now.owner c.args.name.now c.args.confirmed c.in-Some.v new c.in_ok-seat-in-Some.seat old c.in_ok-session.ensures (record {
      head = c.join.ensures.head;
      answer = subst (λ r. IsAnswered (join_answer r) (answer_at old.head (reached_by old) step)) is c.join.ensures.answer;
      journal = subst (λ r. GoesOn (join_answer r) (entry_of_step old.head (reached_by old) step) old.journal new.journal) is c.join.ensures.journal;
      asked = fresh.0;
      suppressed = fresh.1;
      seat = c.in_ok-seat-in-Some.ensures;
    })

pub returns-in-None : goal.returns-in-None
returns-in-None c =
    turned_away c.args.host.now.size c.args.host.now.owner c.args.name.now c.join.result c.in_ok-v.field-0 c.in_ok-session.session c.in_ok-session.ensures c.in_ok-v.ensures.number
    c.in-None.is c.join.ensures.answer
