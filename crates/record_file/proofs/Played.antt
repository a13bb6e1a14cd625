-- An entry that is put through a session's calls is appended where it is legal, and refused where it isn't.
use Rattle.std.proofs.Common.{◌≡◌, ℕ, ◌+◌, ◌≢◌, Bool, true, false, List, [], ◌∷◌, ◌++◌, refl, ap, sym, subst, ◌∙◌, Some, None, eq-eqb}
use Rattle.std.specs.Prelude.{Option, Result, Ok, Err, IfOk, is_some, ◌==◌, ◌&&◌, ◌||◌, not, option_to_list, if◌then◌else◌}
use Rattle.std.proofs.lemmas.Bool.{and_parts, eqb-true}
use Rattle.draw_ops.specs.declared.shape.Drawing.{Drawing}
use Rattle.input_pdu.specs.declared.event.Event.{Event}
use Rattle.input_pdu.specs.declared.event.Event.TheVariants.{Scan}
use Rattle.session_rules.specs.declared.entry.Role.{Role}
use Rattle.session_rules.specs.declared.entry.Entry.{Entry}
use Rattle.session_rules.specs.declared.entry.Entry.TheVariants.{Join, Leave, Give, Input, Draw}
use Rattle.session_rules.specs.Journal.{Head, Row, Reached, Refusal, refusal_of, has_role, is_same_role, holds, may_give, is_owner_here, role_of, is_present, is_f12, reached_at_first, reached_after, reached_after_entry, IsLegalJournal, next_of}
use Rattle.session_rules.specs.Journal.Refusal.{NotHolder, Unfit}
use Rattle.session_rules.specs.Steps.{Answer, Play, Effect, outcome_of, entered, join_effect, row_role, name_of_role, step_of_entry, receiver_of, is_release, are_names_distinct}
use Rattle.session_rules.specs.Steps.Answer.{Joined, Left, Accepted, Refused, Nothing, Frame}
use Rattle.session_rules.specs.Steps.Effect.{Enters, Answers}
use Rattle.session_rules.specs.Steps.Step.{JoinStep, InputStep, DrawStep}
use Rattle.session_rules.specs.Entering.{play_of, entry_of_step, answer_at}
use Rattle.session_rules.proofs.OwnSteps.{tests-legal, unless-none, row_role-name_of_role, receiver_of-legal, holds-legal_input, holds-legal_draw}
use Rattle.session_rules.proofs.Entered.{entered_legal}
use Rattle.session_rules.proofs.Journals.{reached_after-append}
use Rattle.session_core.specs.SessionModel.{SessionModel, reached_by}
use Rattle.session_core.specs.Outcomes.{GoesOn}
use Rattle.session_core.specs.Faults.{join_answer, draw_answer}
use Rattle.session_core.specs.declared.faults.JoinFault.{JoinFault}
use Rattle.session_core.specs.declared.faults.DrawRefusal.{DrawRefusal}
use Rattle.wire_num.specs.declared.out_of_memory.OutOfMemory.{OutOfMemory}
use Rattle.session_core.proofs.Sessions.{reached_at_end}
use Rattle.record_rules.proofs.Holders.{holder_here, absent_holds}
use Rattle.record_file.specs.Plays.{IsPlayed, IsRefusal, first_name}

-- ---- a legal entry is what its step appends

input_appended : (head : Head) (r : Reached) (by : ℕ) (e : Event) (t : Bool) → not t ≡ true → refusal_of head r (Input by e) ≡ None
    → (outcome_of head (play_of head r) (if t then (if is_release e then Answers Accepted else Enters (Give by (receiver_of r by)) Accepted) else Enters (Input by e) Accepted)).entry ≡ Some (Input by e)
input_appended head r by e true t h = absurd (cc t)
input_appended head r by e false t h = (entered_legal head (play_of head r) (Input by e) Accepted h).entry_is

pub appended : (head : Head) (r : Reached) (e : Entry) → are_names_distinct head.rows ≡ true → refusal_of head r e ≡ None → entry_of_step head r (step_of_entry head e) ≡ Some e
appended head r (Join v role) named h =
    let p = play_of head r in
    let k = and_parts (has_role role head.rows) (v == r.joins + 1) (unless-none _ Unfit (tests-legal head r (Join v role) h).0) in
    ap (λ o. (outcome_of head p (join_effect p o)).entry) (row_role-name_of_role role head.rows named k.0)
    ∙ ap (λ n. (outcome_of head p (Enters (Join n role) (Joined n))).entry) (sym (eqb-true v (r.joins + 1) k.1))
    ∙ (entered_legal head p (Join v role) (Joined v) h).entry_is
appended head r (Leave v) named h = (entered_legal head (play_of head r) (Leave v) Left h).entry_is
appended head r (Give by to) named h =
    ap (λ n. (outcome_of head (play_of head r) (Enters (Give by n) Accepted)).entry) (receiver_of-legal r by to (unless-none (may_give r by to) (NotHolder r.holder) (tests-legal head r (Give by to) h).0))
    ∙ (entered_legal head (play_of head r) (Give by to) Accepted h).entry_is
appended head r (Input by e) named h = input_appended head r by e (is_f12 e) (unless-none (not (is_f12 e)) Unfit (tests-legal head r (Input by e) h).1.0) h
appended head r (Draw by d) named h = (entered_legal head (play_of head r) (Draw by d) Accepted h).entry_is

-- ---- refusals

-- a call that refuses its step appends nothing
none_appended : (answer : Option Answer) (entry : Option Entry) (old new : List Entry) → IsRefusal answer → GoesOn answer entry old new → entry ≡ None
none_appended None entry old new h g = absurd h
none_appended (Some (Joined v)) entry old new h g = absurd h
none_appended (Some Left) entry old new h g = absurd h
none_appended (Some Accepted) entry old new h g = absurd h
none_appended (Some (Refused why)) entry old new h g = g.1
none_appended (Some Nothing) entry old new h g = absurd h
none_appended (Some (Frame t)) entry old new h g = absurd h

none_or_some : {A : Type 0} (o : Option A) (x : A) → o ≡ None → o ≡ Some x → ⊥
none_or_some o x h k = absurd (cc (h, k))

-- so the entry isn't legal
pub refused : (s : SessionModel) (e : Entry) (answer : Option Answer) (new : List Entry) → are_names_distinct s.head.rows ≡ true → IsRefusal answer
    → GoesOn answer (entry_of_step s.head (reached_by s) (step_of_entry s.head e)) s.journal new → refusal_of s.head (reached_by s) e ≢ None
refused s e answer new named h g = λ legal.
    none_or_some (entry_of_step s.head (reached_by s) (step_of_entry s.head e)) e (none_appended answer _ s.journal new h g) (appended s.head (reached_by s) e named legal)

-- ---- who isn't present

true_or_false : (b : Bool) → b ≡ true → b ≡ false → ⊥
true_or_false b h k = absurd (cc (h, k))

holds_here : (s : SessionModel) (v : ℕ) → IsLegalJournal s.head s.journal → is_present v (reached_by s).viewers ≡ false → holds (reached_by s) v ≡ false
holds_here s v legal absent =
    let r = reached_after s.head.size (reached_at_first s.head.size) s.journal in
    let same : reached_by s ≡ r = reached_at_end s.head.size s.journal in
    ap (λ q. holds q v) same ∙ absent_holds r v (holder_here s.head s.journal legal) (ap (λ q. is_present v q.viewers) (sym same) ∙ absent)

owner_present : (o : Option Role) → is_owner_here o ≡ true → is_some o ≡ true
owner_present None h = absurd (cc h)
owner_present (Some role) h = refl

pub absent_leave : (s : SessionModel) (v : ℕ) → is_present v (reached_by s).viewers ≡ false → refusal_of s.head (reached_by s) (Leave v) ≢ None
absent_leave s v absent = λ h. true_or_false _ (unless-none (is_present v (reached_by s).viewers) Unfit (tests-legal s.head (reached_by s) (Leave v) h).0) absent

pub absent_input : (s : SessionModel) (by : ℕ) (e : Event) → IsLegalJournal s.head s.journal → is_present by (reached_by s).viewers ≡ false → refusal_of s.head (reached_by s) (Input by e) ≢ None
absent_input s by e legal absent = λ h. true_or_false _ (holds-legal_input s.head (reached_by s) by e h) (holds_here s by legal absent)

pub absent_draw : (s : SessionModel) (by : ℕ) (d : Drawing) → IsLegalJournal s.head s.journal → is_present by (reached_by s).viewers ≡ false → refusal_of s.head (reached_by s) (Draw by d) ≢ None
absent_draw s by d legal absent = λ h. true_or_false _ (holds-legal_draw s.head (reached_by s) by d h) (holds_here s by legal absent)

-- who gives control holds it, or is a present owner
gives : (r : Reached) (by to : ℕ) → holds r by ≡ false → is_present by r.viewers ≡ false → may_give r by to ≡ true → ⊥
gives r by to h absent k = split (holds r by) (is_owner_here (role_of by r.viewers)) h (owner_present (role_of by r.viewers)) k
  where
    split : (t o : Bool) → t ≡ false → (o ≡ true → is_present by r.viewers ≡ true) → ((t && (to == next_of r.viewers by)) || ((o && not t) && (to == by))) ≡ true → ⊥
    split true o f owner m = absurd (cc f)
    split false true f owner m = true_or_false _ (owner refl) absent
    split false false f owner m = absurd (cc m)

pub absent_give : (s : SessionModel) (by to : ℕ) → IsLegalJournal s.head s.journal → is_present by (reached_by s).viewers ≡ false → refusal_of s.head (reached_by s) (Give by to) ≢ None
absent_give s by to legal absent = λ h.
    gives (reached_by s) by to (holds_here s by legal absent) absent (unless-none (may_give (reached_by s) by to) (NotHolder (reached_by s).holder) (tests-legal s.head (reached_by s) (Give by to) h).0)

pub f12_input : (s : SessionModel) (by : ℕ) (e : Event) → is_f12 e ≡ true → refusal_of s.head (reached_by s) (Input by e) ≢ None
f12_input s by e is = λ h. not_both (is_f12 e) is (unless-none (not (is_f12 e)) Unfit (tests-legal s.head (reached_by s) (Input by e) h).1.0)
  where
    not_both : (b : Bool) → b ≡ true → not b ≡ true → ⊥
    not_both true h k = absurd (cc k)
    not_both false h k = absurd (cc h)

pub no_role : (s : SessionModel) (v : ℕ) (role : Role) → has_role role s.head.rows ≡ false → refusal_of s.head (reached_by s) (Join v role) ≢ None
no_role s v role none = λ h.
    true_or_false _ (and_parts (has_role role s.head.rows) (v == (reached_by s).joins + 1) (unless-none _ Unfit (tests-legal s.head (reached_by s) (Join v role) h).0)).0 none

-- ---- calls that accept

pub joined : (old new : SessionModel) (v : ℕ) (role : Role) (name : List ℕ) (n : ℕ) → are_names_distinct old.head.rows ≡ true → has_role role old.head.rows ≡ true → name ≡ name_of_role role old.head.rows
    → Joined n ≡ answer_at old.head (reached_by old) (JoinStep name) → new.journal ≡ old.journal ++ option_to_list (entry_of_step old.head (reached_by old) (JoinStep name))
    → IsPlayed (n == v) (Join v role) old new
joined old new v role name n named has is answer journal =
    by (refusal_of head r (Join m role)) (answer ∙ ap (λ o. (outcome_of head p (join_effect p o)).answer) found)
    (journal ∙ ap (λ o. old.journal ++ option_to_list (outcome_of head p (join_effect p o)).entry) found) (n == v) refl
  where
    head : Head
    head = old.head

    r : Reached
    r = reached_by old

    p : Play
    p = play_of head r

    m : ℕ
    m = r.joins + 1

    found : row_role name head.rows ≡ Some role
    found = ap (λ k. row_role k head.rows) is ∙ row_role-name_of_role role head.rows named has

    by : (o : Option Refusal) → Joined n ≡ (entered head p (Join m role) (Joined m) o).answer → new.journal ≡ old.journal ++ option_to_list (entered head p (Join m role) (Joined m) o).entry
        → (t : Bool) → (n == v) ≡ t → IsPlayed t (Join v role) old new
    by None a j true e =
        let same : n ≡ m = cc a in
        j ∙ ap (λ k. old.journal ++ Join k role ∷ []) (sym same ∙ eqb-true n v e)
    by None a j false e = λ h.
        let same : n ≡ m = cc a in
        let k = and_parts (has_role role head.rows) (v == m) (unless-none _ Unfit (tests-legal head r (Join v role) h).0) in
        true_or_false (n == v) (eq-eqb n v (same ∙ sym (eqb-true v m k.1))) e
    by (Some q) a j t e = absurd (cc a)

-- what a journal with one more entry reaches
pub reached_push : (old new : SessionModel) (e : Entry) → new.head ≡ old.head → new.journal ≡ old.journal ++ e ∷ [] → reached_by new ≡ reached_after_entry old.head.size (reached_by old) e
reached_push old new e same j =
    reached_at_end new.head.size new.journal
    ∙ ap (λ (h : Head). reached_after h.size (reached_at_first h.size) new.journal) same
    ∙ ap (reached_after old.head.size (reached_at_first old.head.size)) j
    ∙ reached_after-append old.head.size (reached_at_first old.head.size) old.journal (e ∷ [])
    ∙ ap (λ r. reached_after_entry old.head.size r e) (sym (reached_at_end old.head.size old.journal))

pub gave : (old new : SessionModel) (by to holder : ℕ) → new.head ≡ old.head → Accepted ≡ answer_at old.head (reached_by old) (InputStep by (Scan 0x58 false))
    → new.journal ≡ old.journal ++ option_to_list (entry_of_step old.head (reached_by old) (InputStep by (Scan 0x58 false))) → holder ≡ (reached_by new).holder
    → IsPlayed (holder == to) (Give by to) old new
gave old new by to holder same answer journal is = split (refusal_of old.head r (Give by (receiver_of r by))) answer journal (holder == to) refl
  where
    r : Reached
    r = reached_by old

    split : (o : Option Refusal) → Accepted ≡ (entered old.head (play_of old.head r) (Give by (receiver_of r by)) Accepted o).answer
        → new.journal ≡ old.journal ++ option_to_list (entered old.head (play_of old.head r) (Give by (receiver_of r by)) Accepted o).entry
        → (t : Bool) → (holder == to) ≡ t → IsPlayed t (Give by to) old new
    split None a j true e =
        let given : holder ≡ receiver_of r by = is ∙ ap (λ q. q.holder) (reached_push old new (Give by (receiver_of r by)) same j) in
        j ∙ ap (λ k. old.journal ++ Give by k ∷ []) (sym given ∙ eqb-true holder to e)
    split None a j false e = λ h.
        let given : holder ≡ receiver_of r by = is ∙ ap (λ q. q.holder) (reached_push old new (Give by (receiver_of r by)) same j) in
        true_or_false (holder == to)
        (eq-eqb holder to (given ∙ receiver_of-legal r by to (unless-none (may_give r by to) (NotHolder r.holder) (tests-legal old.head r (Give by to) h).0))) e
    split (Some q) a j t e = absurd (cc a)

pub reacted : (old new : SessionModel) (by : ℕ) (event : Event) → is_f12 event ≡ false → Accepted ≡ answer_at old.head (reached_by old) (InputStep by event)
    → new.journal ≡ old.journal ++ option_to_list (entry_of_step old.head (reached_by old) (InputStep by event)) → IsPlayed true (Input by event) old new
reacted old new by event other answer journal =
    split (refusal_of old.head r (Input by event)) (answer ∙ ap (λ t. (outcome_of old.head p (if t then f12_effect else Enters (Input by event) Accepted)).answer) other)
    (journal ∙ ap (λ t. old.journal ++ option_to_list (outcome_of old.head p (if t then f12_effect else Enters (Input by event) Accepted)).entry) other)
  where
    r : Reached
    r = reached_by old

    p : Play
    p = play_of old.head r

    f12_effect : Effect
    f12_effect = if is_release event then Answers Accepted else Enters (Give by (receiver_of r by)) Accepted

    split : (o : Option Refusal) → Accepted ≡ (entered old.head p (Input by event) Accepted o).answer → new.journal ≡ old.journal ++ option_to_list (entered old.head p (Input by event) Accepted o).entry
        → new.journal ≡ old.journal ++ Input by event ∷ []
    split None a j = j
    split (Some q) a j = absurd (cc a)

pub drawn : (old new : SessionModel) (by : ℕ) (d : Drawing) → Accepted ≡ answer_at old.head (reached_by old) (DrawStep by d)
    → new.journal ≡ old.journal ++ option_to_list (entry_of_step old.head (reached_by old) (DrawStep by d)) → IsPlayed true (Draw by d) old new
drawn old new by d answer journal = split (refusal_of old.head r (Draw by d)) answer journal
  where
    r : Reached
    r = reached_by old

    split : (o : Option Refusal) → Accepted ≡ (entered old.head (play_of old.head r) (Draw by d) Accepted o).answer
        → new.journal ≡ old.journal ++ option_to_list (entered old.head (play_of old.head r) (Draw by d) Accepted o).entry → new.journal ≡ old.journal ++ Draw by d ∷ []
    split None a j = j
    split (Some q) a j = absurd (cc a)

-- ---- calls that refuse

pub draw_refused : (result : Result Bool OutOfMemory) (old new : SessionModel) (by : ℕ) (d : Drawing) (fault : DrawRefusal) → are_names_distinct old.head.rows ≡ true
    → IfOk result (λ legal. (legal ≡ false) × IsRefusal (draw_answer (Err fault))) → GoesOn (draw_answer (Err fault)) (entry_of_step old.head (reached_by old) (DrawStep by d)) old.journal new.journal
    → IfOk result (λ legal. IsPlayed legal (Draw by d) old new)
draw_refused (Err why) old new by d fault named h g = h
draw_refused (Ok true) old new by d fault named h g = absurd (cc h.0)
draw_refused (Ok false) old new by d fault named h g = refused old (Draw by d) (draw_answer (Err fault)) new.journal named h.1 g

pub join_refused : (result : Result Bool OutOfMemory) (old new : SessionModel) (v : ℕ) (role : Role) (name : List ℕ) (fault : JoinFault) → are_names_distinct old.head.rows ≡ true → name ≡ name_of_role role old.head.rows
    → IfOk result (λ legal. (legal ≡ false) × IsRefusal (join_answer (Err fault))) → GoesOn (join_answer (Err fault)) (entry_of_step old.head (reached_by old) (JoinStep name)) old.journal new.journal
    → IfOk result (λ legal. IsPlayed legal (Join v role) old new)
join_refused (Err why) old new v role name fault named is h g = h
join_refused (Ok true) old new v role name fault named is h g = absurd (cc h.0)
join_refused (Ok false) old new v role name fault named is h g =
    refused old (Join v role) (join_answer (Err fault)) new.journal named h.1 (subst (λ (n : List ℕ). GoesOn (join_answer (Err fault)) (entry_of_step old.head (reached_by old) (JoinStep n)) old.journal new.journal) is g)

-- ---- the first row of a role

pub named_first : (role : Role) (rows : List Row) (name : List ℕ) → first_name role rows ≡ Some name → (has_role role rows ≡ true) × (name ≡ name_of_role role rows)
named_first role [] name h = absurd (cc h)
named_first role (row ∷ rows) name h = by (is_same_role role row.role) h (named_first role rows name)
  where
    by : (t : Bool) → (if t then Some row.name else first_name role rows) ≡ Some name → (first_name role rows ≡ Some name → (has_role role rows ≡ true) × (name ≡ name_of_role role rows))
        → ((t || has_role role rows) ≡ true) × (name ≡ (if t then row.name else name_of_role role rows))
    by true k others = let same : row.name ≡ name = cc k in (refl, sym same)
    by false k others = others k

pub none_first : (role : Role) (rows : List Row) → first_name role rows ≡ None → has_role role rows ≡ false
none_first role [] h = refl
none_first role (row ∷ rows) h = by (is_same_role role row.role) h (none_first role rows)
  where
    by : (t : Bool) → (if t then Some row.name else first_name role rows) ≡ None → (first_name role rows ≡ None → has_role role rows ≡ false) → (t || has_role role rows) ≡ false
    by true k others = absurd (cc k)
    by false k others = others k

pub played_true : (legal : Bool) (e : Entry) (old new : SessionModel) → legal ≡ true → IsPlayed legal e old new → new.journal ≡ old.journal ++ e ∷ []
played_true true e old new f h = h
played_true false e old new f h = absurd (cc f)
