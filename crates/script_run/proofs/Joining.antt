-- A run after a viewer joined, or wasn't let in.
use Rattle.std.proofs.Common.{◌≡◌, ℕ, ◌+◌, ◌≤◌, List, [], ◌∷◌, ◌++◌, length, refl, ap, sym, ◌∙◌, subst, arith, length-append}
use Rattle.std.specs.Prelude.{Bool, true, false, ◌==◌, Option, Some, None, Err, option_to_list}
use Rattle.std.proofs.lemmas.Bool.{eqb-true}
use Rattle.std.proofs.lemmas.Bool.Decides.{nat_tests}
use Rattle.px_core.specs.Tiles.{no_tiles}
use Rattle.caps_sets.specs.declared.confirmed.Confirmed.{Confirmed}
use Rattle.session_rules.specs.declared.entry.Role.{Role}
use Rattle.session_rules.specs.declared.entry.Entry.TheVariants.{Join}
use Rattle.session_rules.specs.Journal.{Head, Reached, Refusal, Viewer, refusal_of, is_present}
use Rattle.session_rules.specs.Steps.{Answer, Outcome, Play, row_role, join_effect, entered, outcome, outcome_of}
use Rattle.session_rules.specs.Steps.Step.{JoinStep}
use Rattle.session_rules.specs.Steps.Answer.{Joined, Refused}
use Rattle.session_rules.specs.Entering.{entry_of_step, answer_at}
use Rattle.session_rules.proofs.Entered.{entry_of_outcome, answer_of_outcome}
use Rattle.session_core.specs.declared.faults.JoinFault.{JoinFault}
use Rattle.session_core.specs.declared.faults.JoinFault.TheVariants as fault
use Rattle.session_core.specs.Faults.{join_answer}
use Rattle.session_core.specs.SessionModel.{reached_by, asked_by, is_suppressed}
use Rattle.frame_rules.specs.Encoder.{Encoder, first_encoder}
use Rattle.viewer_sender.specs.Seats.{SeatModel, IsNewSeat}
use Rattle.viewer_sender.proofs.SeatSends.{new_follows}
use Rattle.script_rules.specs.Script.{Asked}
use Rattle.script_rules.specs.Capture.{joined_line}
use Rattle.script_rules.specs.CaptureText.{Run, run_after, run_by, line_by, line_in_run, encoder_frames}
use Rattle.script_run.specs.declared.answer.StepAnswer.{StepAnswer}
use Rattle.script_run.specs.declared.answer.StepAnswer.TheVariants as says
use Rattle.script_run.specs.Answers.{answer_of, IsVerdict}
use Rattle.script_run.specs.Hosts.{HostModel, seat_of}
use Rattle.script_run.specs.Runs.{IsViewerOf, IsRunOf}
use Rattle.script_run.proofs.SeatLemmas.{seat_pushed, seat_new}
use Rattle.script_run.proofs.StepsOn.{KeepsAll, session_reached, StaysFor, viewer_stays, later_stays, replaced_here, replaced_other}

-- ---- who isn't let in

-- a refused join is refused
pub refused : (s : StepAnswer) (f : JoinFault) → IsVerdict s → answer_of s ≡ join_answer (Err f) → (why : Refusal) × (answer_of s ≡ Some (Refused why))
refused s f plain h = by f h
  where
    none : (s : StepAnswer) → IsVerdict s → answer_of s ≡ None → ⊥
    none (says.Joined u) p k = p
    none says.Left p k = p
    none says.Accepted p k = cc k
    none (says.Refused cause) p k = cc k
    none says.Nothing p k = p
    none (says.Frame bytes) p k = p

    by : (f : JoinFault) → answer_of s ≡ join_answer (Err f) → (why : Refusal) × (answer_of s ≡ Some (Refused why))
    by fault.NotInvited k = (_, k)
    by fault.RoomFull k = (_, k)
    by fault.JoinsSpent k = (_, k)
    by fault.OutOfMemory k = absurd (none s plain k)

-- it keeps all that is kept of viewers
pub refused_keeps : (head : Head) (run : Run Encoder) (a : Asked) (name : List ℕ) (why : Refusal) → (outcome head run.play (JoinStep name)).answer ≡ Refused why
    → KeepsAll head run a (outcome head run.play (JoinStep name))
refused_keeps head run a name why h = by (row_role name head.rows) h
  where
    made : (role : Role) (o : Option Refusal) → (entered head run.play (Join (run.play.reached.joins + 1) role) (Joined (run.play.reached.joins + 1)) o).answer ≡ Refused why
        → KeepsAll head run a (entered head run.play (Join (run.play.reached.joins + 1) role) (Joined (run.play.reached.joins + 1)) o)
    made role None k = absurd (cc k)
    made role (Some r) k = record { asked = refl; suppressed = refl; taken = refl; confirmed = refl; encoders = refl; entry = tt }

    by : (o : Option Role) → (outcome_of head run.play (join_effect run.play o)).answer ≡ Refused why → KeepsAll head run a (outcome_of head run.play (join_effect run.play o))
    by None k = record { asked = refl; suppressed = refl; taken = refl; confirmed = refl; encoders = refl; entry = tt }
    by (Some role) k = made role (refusal_of head run.play.reached (Join (run.play.reached.joins + 1) role)) k

-- ---- who is let in

-- a join that is answered has the next number
pub record JoinsAs (head : Head) (p : Play) (name : List ℕ) (v : ℕ) : Type 0 where
  pub role : Role
  pub number : v ≡ p.reached.joins + 1
  pub is : outcome head p (JoinStep name) ≡ entered head p (Join (p.reached.joins + 1) role) (Joined (p.reached.joins + 1)) None

joins_as : (head : Head) (p : Play) (name : List ℕ) (v : ℕ) → Joined v ≡ (outcome head p (JoinStep name)).answer → JoinsAs head p name v
joins_as head p name v h = by (row_role name head.rows) refl h
  where
    made : (role : Role) (o : Option Refusal) → row_role name head.rows ≡ Some role → refusal_of head p.reached (Join (p.reached.joins + 1) role) ≡ o
        → Joined v ≡ (entered head p (Join (p.reached.joins + 1) role) (Joined (p.reached.joins + 1)) o).answer → JoinsAs head p name v
    made role None eq legal k = record {
      role = role;
      number = cc k;
      is = ap (λ o. outcome_of head p (join_effect p o)) eq ∙ ap (entered head p (Join (p.reached.joins + 1) role) (Joined (p.reached.joins + 1))) legal;
    }
    made role (Some r) eq legal k = absurd (cc k)

    by : (o : Option Role) → row_role name head.rows ≡ o → Joined v ≡ (outcome_of head p (join_effect p o)).answer → JoinsAs head p name v
    by None eq k = absurd (cc k)
    by (Some role) eq k = made role (refusal_of head p.reached (Join (p.reached.joins + 1) role)) eq refl k

-- who is present beside the one that came was present
was_here : (u : ℕ) (xs : List Viewer) (x : Viewer) → (x.number == u) ≡ false → is_present u (xs ++ x ∷ []) ≡ true → is_present u xs ≡ true
was_here u [] x ne h = let k = rw ne at h in absurd (cc k)
was_here u (y ∷ ys) x ne h = by (y.number == u) refl h (was_here u ys x ne)
  where
    by : (t : Bool) → (y.number == u) ≡ t → is_present u (y ∷ (ys ++ x ∷ [])) ≡ true → (is_present u (ys ++ x ∷ []) ≡ true → is_present u ys ≡ true)
        → is_present u (y ∷ ys) ≡ true
    by true eq k again = rw eq refl
    by false eq k again = rw eq (again (rw eq at k))

-- a viewer joins: of it the run says what it says of all at first, and all is as it was for the others
pub join_on : (host new : HostModel) (run : Run Encoder) (name : List ℕ) (preset : List (List ℕ)) (c : Confirmed) (v : ℕ) (s : SeatModel) → IsRunOf host run
    → Joined v ≡ answer_at host.session.head (reached_by host.session) (JoinStep name) → new.session.head ≡ host.session.head
    → new.session.journal ≡ host.session.journal ++ option_to_list (entry_of_step host.session.head (reached_by host.session) (JoinStep name))
    → asked_by new.session ≡ asked_by host.session → is_suppressed new.session ≡ is_suppressed host.session
    → asked_by new.session v ≡ no_tiles → is_suppressed new.session v ≡ false
    → new.seats ≡ host.seats ++ s ∷ [] → IsNewSeat v c s
    → (joined_line host.session.head.size v preset ≡ line_in_run encoder_frames host.session.head run (record { step = JoinStep name; preset = preset; confirmed = c }))
    × IsRunOf new (run_after encoder_frames host.session.head run (record { step = JoinStep name; preset = preset; confirmed = c }))
join_on host new run name preset c v s r answer head journal asked suppressed no_asked no_stop seats fresh =
    let hd = host.session.head in
    let a : Asked = record { step = JoinStep name; preset = preset; confirmed = c } in
    let found = joins_as hd run.play name v (answer ∙ (ap (λ x. answer_at hd x (JoinStep name)) (sym r.reached) ∙ sym (answer_of_outcome hd run.play (JoinStep name) refl))) in
    let n = run.play.reached.joins + 1 in
    let o : Outcome = entered hd run.play (Join n found.role) (Joined n) None in
    let next = run_by encoder_frames hd.size run a o in
    let made : new.session.journal ≡ host.session.journal ++ option_to_list (outcome hd run.play (JoinStep name)).entry =
    journal ∙ ap (λ e. host.session.journal ++ option_to_list e) (ap (λ x. entry_of_step hd x (JoinStep name)) (sym r.reached) ∙ sym (entry_of_outcome hd run.play (JoinStep name))) in
    let entry : new.session.journal ≡ host.session.journal ++ Join n found.role ∷ [] = made ∙ ap (λ (q : Outcome). host.session.journal ++ option_to_list q.entry) found.is in
    let reached : next.play.reached ≡ reached_by new.session =
    ap (λ (q : Outcome). q.play.reached) (sym found.is) ∙ session_reached host.session new.session run.play (JoinStep name) head made r.reached in
    let count = ap length entry in
    let longer : length host.session.journal ≤ length new.session.journal = omega (arith, count, length-append host.session.journal (Join n found.role ∷ [])) in
    let old_joins : run.play.reached.joins ≡ (reached_by host.session).joins = ap (λ (x : Reached). x.joins) r.reached in
    let joins : n ≡ (reached_by new.session).joins = ap (λ (x : Reached). x.joins) reached in
    let mine = r.later n (omega (arith, old_joins)) in
    let is_new : v ≡ n = found.number in
    let stays : (u : ℕ) → (n == u) ≡ false → StaysFor host new run next u = λ u ne. record {
      asked = refl;
      suppressed = refl;
      taken = refl;
      confirmed = replaced_other n u c run.confirmed ne;
      encoder = refl;
      kept = ap (λ f. f u) asked;
      stopped = ap (λ f. f u) suppressed;
      seat = ap (seat_of u) seats ∙ seat_pushed host.seats s u (ap (λ w. w == u) (fresh.viewer ∙ is_new) ∙ ne);
    } in
    let own : IsViewerOf new n next = record {
      asked = mine.asked ∙ (sym no_asked ∙ ap (asked_by new.session) is_new);
      suppressed = mine.suppressed ∙ (sym no_stop ∙ ap (is_suppressed new.session) is_new);
      seat = s;
      found = ap (seat_of n) seats ∙ seat_new host.seats s n mine.nobody (fresh.viewer ∙ is_new);
      number = fresh.viewer ∙ is_new;
      confirmed = fresh.confirmed ∙ sym (replaced_here n c run.confirmed);
      taken = mine.taken ∙ sym fresh.number;
      seen = let z = fresh.number in omega (arith, z);
      idle = record { all = fresh.encoded ∙ sym fresh.taken; sound = fresh.sound };
      follows = rw mine.encoder (new_follows v c s fresh);
    } in
    let is_run : IsRunOf new next = record {
      journal = ap (λ j. j ++ Join n found.role ∷ []) r.journal ∙ sym entry;
      reached = reached;
      present = λ u h. one n found.role r stays own longer u (n == u) refl (ap (λ (x : Reached). is_present u x.viewers) reached ∙ h);
      later = λ u above. later_stays host new run next u (stays u (grind (arith, nat_tests, above, joins))) (r.later u (omega (arith, above, joins, old_joins)));
    } in (
      ap (λ w. joined_line hd.size w preset) is_new ∙ ap (λ (q : Outcome). line_by encoder_frames hd.size run a q.answer) (sym found.is),
      subst (λ (q : Outcome). IsRunOf new (run_by encoder_frames hd.size run a q)) (sym found.is) is_run,
    )
  where
    one : {next : Run Encoder} (n : ℕ) (role : Role) → IsRunOf host run → ((u : ℕ) → (n == u) ≡ false → StaysFor host new run next u) → IsViewerOf new n next
        → length host.session.journal ≤ length new.session.journal
        → (u : ℕ) (t : Bool) → (n == u) ≡ t → is_present u (run.play.reached.viewers ++ record { number = n; role = role } ∷ []) ≡ true → IsViewerOf new u next
    one {next} n role r stays own longer u true eq k = subst (λ w. IsViewerOf new w next) (eqb-true n u eq) own
    one {next} n role r stays own longer u false eq k = viewer_stays host new run next u longer (stays u eq)
        (r.present u (sym (ap (λ (x : Reached). is_present u x.viewers) r.reached) ∙ was_here u run.play.reached.viewers (record { number = n; role = role }) eq k))

pub refused_as : (s : StepAnswer) (answer : Answer) (why : Refusal) → answer_of s ≡ Some answer → answer_of s ≡ Some (Refused why) → answer ≡ Refused why
refused_as s answer why h k = cc (h, k)
