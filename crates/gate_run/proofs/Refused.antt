-- Who wasn't let in: the answer to a join stays as the journal goes on.
use Rattle.std.proofs.Common.{◌≡◌, ℕ, List, [], ◌∷◌, length, sym, refl, ap, ◌∙◌, subst, ⊎_elim, arith, Some, Err}
use Rattle.std.specs.Prelude.{Option}
use Rattle.edge_io.specs.Outside.{Outside}
use Rattle.conn_rules.specs.Hearing.{Hearing, host_handshake}
use Rattle.session_rules.specs.declared.entry.Entry.{Entry}
use Rattle.session_rules.specs.Journal.{Head, Reached, Refusal, reached_at}
use Rattle.session_rules.specs.Journal.Refusal.{NotInvited, RoomFull, JoinsSpent}
use Rattle.session_rules.specs.Steps.{Answer}
use Rattle.session_rules.specs.Steps.Step.{JoinStep}
use Rattle.session_rules.specs.Steps.Answer.{Refused}
use Rattle.session_rules.specs.Entering.{answer_at}
use Rattle.session_rules.proofs.Journals.{reached_at-append}
use Rattle.session_core.specs.Outcomes.{IsAnswered}
use Rattle.session_core.specs.Faults.{join_answer}
use Rattle.session_core.specs.declared.faults.JoinFault.{JoinFault}
use Rattle.session_core.specs.declared.faults.JoinFault.TheVariants as join
use Rattle.grow_lock.specs.Journal.{StartsWith}
use Rattle.grow_lock.proofs.Lists.{starts_trans, length_starts}
use Rattle.serve_rules.specs.Turns.{SessionPass}
use Rattle.serve_rules.specs.Notices.{Notice, notice_after_all}
use Rattle.serve_rules.specs.declared.ends.ConnEnd.{ConnEnd}
use Rattle.serve_rules.specs.declared.ends.ConnEnd.TheVariants as ends
use Rattle.serve_rules.specs.declared.noted.ConnReport.{ConnReport}
use Rattle.viewer_run.specs.Arriving.{no_notice}
use Rattle.viewer_run.specs.Greeting.{Greeting, greeting}
use Rattle.viewer_run.specs.Serving.{ViewEnd}
use Rattle.viewer_run.specs.Links.{IsTurnedAwayAs, OutsideEnd, IsOutside, IsVisit}
use Rattle.gate_run.specs.declared.served.GateEnd.{GateEnd}
use Rattle.gate_run.specs.Gates.{GateState, IsServed, EachServed, ServesGate}
use Rattle.gate_run.specs.Refusals.{ready_name, IsTurnedAwayWith, IsTurnedAwayIf, EachTurnedAwayIf, TurnsAway}

-- what a journal reached is reached by what goes on from it
same_reached : (head : Head) (j seen : List Entry) → StartsWith j seen → reached_at head.size j (length seen) ≡ reached_at head.size seen (length seen)
same_reached head j seen within =
    ap (λ (l : List Entry). reached_at head.size l (length seen)) within.1 ∙ reached_at-append head.size seen within.0 (length seen) (omega arith)

-- the answer of a join that is refused so
answered : (fault : JoinFault) (why : Refusal) (answer : Answer) → join_answer (Err fault) ≡ Some (Refused why) → IsAnswered (join_answer (Err fault)) answer → answer ≡ Refused why
answered fault why answer is given = let same : Refused why ≡ answer = subst (λ (a : Option Answer). IsAnswered a answer) is given in sym same

-- a client that is ready wasn't let in, by what its pass had seen at the end
with_answer : (head : Head) (first j : List Entry) (link : Outside) (report : ConnReport) (spent : Outside) (fault : JoinFault) (why : Refusal)
    → join_answer (Err fault) ≡ Some (Refused why) → (s : IsServed head first j link report spent)
    → IsTurnedAwayAs head s.after (greeting [] (host_handshake head.size s.serves.read).steps) fault → IsTurnedAwayWith head first j link report spent why
with_answer head first j link report spent fault why is s t =
    let seen = s.after.seen in record {
      served = s;
      name = t.name;
      ready = ap ready_name t.ready;
      n = length seen;
      found = t.in_found;
      since = length_starts seen first (starts_trans seen s.before.seen first s.serves.grows s.since);
      within = length_starts j seen s.within;
      answer = ap (λ (r : Reached). answer_at head r (JoinStep t.name)) (same_reached head j seen s.within)
          ∙ answered fault why (answer_at head (reached_at head.size seen (length seen)) (JoinStep t.name)) is t.answer;
    }

-- a link's end that only a client has that wasn't let in
by_end : (head : Head) (first j : List Entry) (link : Outside) (report : ConnReport) (spent : Outside) (end : ConnEnd) (fault : JoinFault) (why : Refusal)
    → join_answer (Err fault) ≡ Some (Refused why)
    → ((after : SessionPass) (g : Greeting) (h : Hearing) (read : List ℕ) → OutsideEnd head after g h read link spent end → IsTurnedAwayAs head after g fault)
    → ((read : List ℕ) (h : Hearing) (notice : Notice) → ViewEnd read h notice link spent end → ⊥)
    → IsServed head first j link report spent → report.end ≡ end → IsTurnedAwayWith head first j link report spent why
by_end head first j link report spent end fault why is outside visit s e =
    let v = s.serves in let heard = host_handshake head.size v.read in let g = greeting [] heard.steps in
    ⊎_elim
    (λ (o : IsOutside head s.after report link spent v.read).
    with_answer head first j link report spent fault why is s
    (outside s.after g heard.after v.read (subst (OutsideEnd head s.after g heard.after v.read link spent) e o.ends)))
    (λ (i : IsVisit head s.before s.after report link spent v.read).
    let notice = notice_after_all no_notice i.steps in absurd (visit v.read heard.after notice (subst (ViewEnd v.read heard.after notice link spent) e i.ends)))
    v.came

turned_away : (head : Head) (first j : List Entry) (link : Outside) (report : ConnReport) (spent : Outside) → IsServed head first j link report spent
    → IsTurnedAwayIf head first j link report spent
turned_away head first j link report spent s =
    record {
      not_invited = by_end head first j link report spent ends.NotInvited join.NotInvited NotInvited refl (λ after g h read o. o) (λ read h notice v. v) s;
      room_full = by_end head first j link report spent ends.RoomFull join.RoomFull RoomFull refl (λ after g h read o. o) (λ read h notice v. v) s;
      joins_spent = by_end head first j link report spent ends.JoinsSpent join.JoinsSpent JoinsSpent refl (λ after g h read o. o) (λ read h notice v. v) s;
    }

each_turned_away : (head : Head) (first j : List Entry) (links : List Outside) (reports : List ConnReport) (spents : List Outside)
    → EachServed head first j links reports spents → EachTurnedAwayIf head first j links reports spents
each_turned_away head first j [] [] [] e = tt
each_turned_away head first j [] [] (s ∷ ss) e = absurd e
each_turned_away head first j [] (r ∷ rs) ss e = absurd e
each_turned_away head first j (l ∷ ls) [] ss e = absurd e
each_turned_away head first j (l ∷ ls) (r ∷ rs) [] e = absurd e
each_turned_away head first j (l ∷ ls) (r ∷ rs) (s ∷ ss) e = (turned_away head first j l r s e.0, each_turned_away head first j ls rs ss e.1)

-- of a gate that was served
pub turns_away : (head : Head) (first : List Entry) (port links : ℕ) (before after : GateState) (j : List Entry) (reports : List ConnReport) (end : GateEnd)
    → ServesGate head first port links before after j reports end → TurnsAway head first before after j reports
turns_away head first port links before after j reports end s =
    record {
      joined = s.joined;
      spent = s.spent;
      given = s.given;
      finished = s.finished;
      each = each_turned_away head first j s.joined reports s.spent s.served;
    }
