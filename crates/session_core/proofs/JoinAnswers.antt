-- A viewer that joins, or isn't let in.
use Rattle.std.proofs.Common.{◌≡◌, ℕ, ◌+◌, ◌≤◌, ◌<◌, List, [], ◌∷◌, length, refl, ap, ◌∙◌, Some, None, arith, eq-eqb}
use Rattle.std.proofs.lemmas.Bool.Decides.{nat_tests}
use Rattle.std.specs.Prelude.{Bool, true, false, ◌||◌, ◌==◌, nat_lt, Option, Err, if◌then◌else◌}
use Rattle.line_text.specs.Words.{is_same_word}
use Rattle.draw_ops.specs.Ranges.{is_u32}
use Rattle.draw_ops.specs.Fits.{first_some}
use Rattle.session_rules.specs.declared.entry.Role.{Role}
use Rattle.session_rules.specs.declared.entry.Role.TheVariants.{Owner, Control, View}
use Rattle.session_rules.specs.declared.entry.Entry.{Entry}
use Rattle.session_rules.specs.declared.entry.Entry.TheVariants.{Join}
use Rattle.session_rules.specs.Journal.{Head, Row, Reached, Refusal, unless, refusal_of, has_role, is_same_role, most_viewers, most_joins}
use Rattle.session_rules.specs.Journal.Refusal.{NotInvited, RoomFull, JoinsSpent}
use Rattle.session_rules.specs.Steps.{row_role, Answer, join_effect, outcome_of}
use Rattle.session_rules.specs.Steps.Step.{JoinStep}
use Rattle.session_rules.specs.Steps.Answer.{Joined, Refused}
use Rattle.session_core.specs.declared.faults.JoinFault.{JoinFault}
use Rattle.session_core.specs.declared.faults.JoinFault.TheVariants as fault
use Rattle.session_core.specs.Outcomes.{IsAnswered, GoesOn}
use Rattle.session_core.specs.Faults.{join_answer}
use Rattle.session_rules.specs.Entering.{play_of, entry_of_step, answer_at}
use Rattle.session_rules.proofs.Entered.{entered_legal, entered_refused}

same_role : (role : Role) → is_same_role role role ≡ true
same_role Owner = refl
same_role Control = refl
same_role View = refl

-- the role of a row is a role of some row
has_found : (name : List ℕ) (role : Role) (rows : List Row) → row_role name rows ≡ Some role → has_role role rows ≡ true
has_found name role [] h = absurd (cc h)
has_found name role (row ∷ rows) h = by (is_same_word name row.name) h (has_found name role rows)
  where
    either_way : (b : Bool) → (b || true) ≡ true
    either_way true = refl
    either_way false = refl

    by : (t : Bool) → (if t then Some row.role else row_role name rows) ≡ Some role → (row_role name rows ≡ Some role → has_role role rows ≡ true) → has_role role (row ∷ rows) ≡ true
    by true k again = let same : row.role ≡ role = cc k in rw (same, same_role role) refl
    by false k again = rw (again k) (either_way (is_same_role role row.role))

-- the refusal of a join by a row's role
join_refusal : (head : Head) (r : Reached) (role : Role) → has_role role head.rows ≡ true → r.joins ≤ 65535
    → refusal_of head r (Join (r.joins + 1) role) ≡ first_some (unless (nat_lt (length r.viewers) most_viewers) RoomFull ∷ unless (nat_lt r.joins most_joins) JoinsSpent ∷ [])
join_refusal head r role has few =
    let small : is_u32 (r.joins + 1) ≡ true = grind (arith, nat_tests, few) in
    let next : (r.joins + 1 == r.joins + 1) ≡ true = eq-eqb (r.joins + 1) (r.joins + 1) refl in
    rw (small, has, next) refl

-- what a join comes to: its answer and its entry
pub record JoinComesTo (head : Head) (r : Reached) (name : List ℕ) (answer : Answer) (entry : Option Entry) : Type 0 where
  pub answer_is : answer_at head r (JoinStep name) ≡ answer
  pub entry_is : entry_of_step head r (JoinStep name) ≡ entry

pub not_invited : (head : Head) (r : Reached) (name : List ℕ) → row_role name head.rows ≡ None → JoinComesTo head r name (Refused NotInvited) None
not_invited head r name h = record {
  answer_is = ap (λ o. (outcome_of head (play_of head r) (join_effect (play_of head r) o)).answer) h;
  entry_is = ap (λ o. (outcome_of head (play_of head r) (join_effect (play_of head r) o)).entry) h;
}

refused_by : (head : Head) (r : Reached) (name : List ℕ) (role : Role) (why : Refusal) → row_role name head.rows ≡ Some role → refusal_of head r (Join (r.joins + 1) role) ≡ Some why
    → JoinComesTo head r name (Refused why) None
refused_by head r name role why h refused = record {
  answer_is = ap (λ o. (outcome_of head (play_of head r) (join_effect (play_of head r) o)).answer) h
      ∙ (entered_refused head (play_of head r) (Join (r.joins + 1) role) (Joined (r.joins + 1)) why refused).answer_is;
  entry_is = ap (λ o. (outcome_of head (play_of head r) (join_effect (play_of head r) o)).entry) h
      ∙ (entered_refused head (play_of head r) (Join (r.joins + 1) role) (Joined (r.joins + 1)) why refused).entry_is;
}

pub room_full : (head : Head) (r : Reached) (name : List ℕ) (role : Role) → row_role name head.rows ≡ Some role → r.joins ≤ 65535 → most_viewers ≤ length r.viewers
    → JoinComesTo head r name (Refused RoomFull) None
room_full head r name role h few full =
    let test : nat_lt (length r.viewers) most_viewers ≡ false = grind (arith, nat_tests, full) in
    refused_by head r name role RoomFull h (join_refusal head r role (has_found name role head.rows h) few ∙ rw test refl)

pub joins_spent : (head : Head) (r : Reached) (name : List ℕ) (role : Role) → row_role name head.rows ≡ Some role → r.joins ≤ 65535 → length r.viewers < most_viewers → 65535 ≤ r.joins
    → JoinComesTo head r name (Refused JoinsSpent) None
joins_spent head r name role h few room spent =
    let test : nat_lt (length r.viewers) most_viewers ≡ true = grind (arith, nat_tests, room) in
    let last : nat_lt r.joins most_joins ≡ false = grind (arith, nat_tests, spent) in
    refused_by head r name role JoinsSpent h (join_refusal head r role (has_found name role head.rows h) few ∙ rw (test, last) refl)

pub join_legal : (head : Head) (r : Reached) (name : List ℕ) (role : Role) → row_role name head.rows ≡ Some role → length r.viewers < most_viewers → r.joins < 65535
    → refusal_of head r (Join (r.joins + 1) role) ≡ None
join_legal head r name role h room left =
    let test : nat_lt (length r.viewers) most_viewers ≡ true = grind (arith, nat_tests, room) in
    let last : nat_lt r.joins most_joins ≡ true = grind (arith, nat_tests, left) in
    join_refusal head r role (has_found name role head.rows h) (omega (arith, left)) ∙ rw (test, last) refl

pub joined : (head : Head) (r : Reached) (name : List ℕ) (role : Role) → row_role name head.rows ≡ Some role → length r.viewers < most_viewers → r.joins < 65535
    → JoinComesTo head r name (Joined (r.joins + 1)) (Some (Join (r.joins + 1) role))
joined head r name role h room left = record {
  answer_is = ap (λ o. (outcome_of head (play_of head r) (join_effect (play_of head r) o)).answer) h
      ∙ (entered_legal head (play_of head r) (Join (r.joins + 1) role) (Joined (r.joins + 1)) (join_legal head r name role h room left)).answer_is;
  entry_is = ap (λ o. (outcome_of head (play_of head r) (join_effect (play_of head r) o)).entry) h
      ∙ (entered_legal head (play_of head r) (Join (r.joins + 1) role) (Joined (r.joins + 1)) (join_legal head r name role h room left)).entry_is;
}

-- a refused join changes nothing
pub refused_stays : (fault : JoinFault) (entry : Option Entry) (j : List Entry) → entry ≡ None → GoesOn (join_answer (Err fault)) entry j j
refused_stays fault.NotInvited entry j h = (refl, h)
refused_stays fault.RoomFull entry j h = (refl, h)
refused_stays fault.JoinsSpent entry j h = (refl, h)
refused_stays fault.OutOfMemory entry j h = refl

pub refused_answer : (given : Option Answer) (answer : Answer) → given ≡ Some answer → IsAnswered given answer
refused_answer given answer h = rw h refl
