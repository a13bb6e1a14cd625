-- What a step appends and how it is answered doesn't rest on what is kept of viewers.
use Rattle.std.proofs.Common.{◌≡◌, ℕ, ◌+◌, List, refl, ap, sym, ◌∙◌, Some, None}
use Rattle.std.specs.Prelude.{Bool, true, false, Option, if◌then◌else◌}
use Rattle.input_pdu.specs.declared.event.Event.{Event}
use Rattle.session_rules.specs.declared.entry.Role.{Role}
use Rattle.session_rules.specs.declared.entry.Entry.{Entry}
use Rattle.session_rules.specs.declared.entry.Entry.TheVariants.{Join, Leave, Give, Input, Draw}
use Rattle.session_rules.specs.Journal.{Head, Reached, Refusal, refusal_of, is_f12}
use Rattle.session_rules.specs.Steps.{Step, Answer, Play, Effect, Outcome, entered, outcome_of, outcome, effect_of, take_effect, has_work, row_role, join_effect, input_effect, is_release, receiver_of, answer_of_step}
use Rattle.session_rules.specs.Steps.Step.{JoinStep, LeaveStep, InputStep, DrawStep, RefreshStep, SuppressStep, TakeStep}
use Rattle.session_rules.specs.Steps.Effect.{Enters, Asks, Suppresses, Takes, Answers}
use Rattle.session_rules.specs.Steps.Answer.{Joined, Left, Accepted, Refused}
use Rattle.session_rules.specs.Entering.{play_of, entry_of_step, answer_at, is_take}

-- an effect on two sessions that have reached the same
pub record IsAlike (a b : Outcome) : Type 0 where
  pub entry_is : a.entry ≡ b.entry
  pub answer_is : a.answer ≡ b.answer

entered_alike : (head : Head) (p q : Play) (e : Entry) (a : Answer) → p.reached ≡ q.reached → IsAlike (outcome_of head p (Enters e a)) (outcome_of head q (Enters e a))
entered_alike head p q e a same = rw (ap (λ r. refusal_of head r e) same) (by (refusal_of head q.reached e))
  where
    by : (o : Option Refusal) → IsAlike (entered head p e a o) (entered head q e a o)
    by None = record { entry_is = refl; answer_is = refl }
    by (Some r) = record { entry_is = refl; answer_is = refl }

join_alike : (head : Head) (p : Play) (o : Option Role) → IsAlike (outcome_of head p (join_effect p o)) (outcome_of head (play_of head p.reached) (join_effect (play_of head p.reached) o))
join_alike head p None = record { entry_is = refl; answer_is = refl }
join_alike head p (Some role) = entered_alike head p (play_of head p.reached) (Join (p.reached.joins + 1) role) (Joined (p.reached.joins + 1)) refl

input_alike : (head : Head) (p : Play) (v : ℕ) (e : Event) (t u : Bool)
    → IsAlike (outcome_of head p (if t then (if u then Answers Accepted else Enters (Give v (receiver_of p.reached v)) Accepted) else Enters (Input v e) Accepted))
    (outcome_of head (play_of head p.reached) (if t then (if u then Answers Accepted else Enters (Give v (receiver_of p.reached v)) Accepted) else Enters (Input v e) Accepted))
input_alike head p v e true true = record { entry_is = refl; answer_is = refl }
input_alike head p v e true false = entered_alike head p (play_of head p.reached) (Give v (receiver_of p.reached v)) Accepted refl
input_alike head p v e false u = entered_alike head p (play_of head p.reached) (Input v e) Accepted refl

step_alike : (head : Head) (p : Play) (s : Step) → is_take s ≡ false → IsAlike (outcome head p s) (outcome head (play_of head p.reached) s)
step_alike head p (JoinStep name) h = join_alike head p (row_role name head.rows)
step_alike head p (LeaveStep v) h = entered_alike head p (play_of head p.reached) (Leave v) Left refl
step_alike head p (InputStep v e) h = input_alike head p v e (is_f12 e) (is_release e)
step_alike head p (DrawStep v d) h = entered_alike head p (play_of head p.reached) (Draw v d) Accepted refl
step_alike head p (RefreshStep v r) h = record { entry_is = refl; answer_is = refl }
step_alike head p (SuppressStep v stop) h = record { entry_is = refl; answer_is = refl }
step_alike head p (TakeStep v) h = absurd (cc h)

no_entry_of_take : (head : Head) (p : Play) (v : ℕ) (t : Bool) → (outcome_of head p (take_effect t v)).entry ≡ None
no_entry_of_take head p v true = refl
no_entry_of_take head p v false = refl

-- the entry of a step, whatever is kept of viewers
pub entry_of_outcome : (head : Head) (p : Play) (s : Step) → (outcome head p s).entry ≡ entry_of_step head p.reached s
entry_of_outcome head p s = by s
  where
    by : (s : Step) → (outcome head p s).entry ≡ entry_of_step head p.reached s
    by (JoinStep name) = (step_alike head p (JoinStep name) refl).entry_is
    by (LeaveStep v) = (step_alike head p (LeaveStep v) refl).entry_is
    by (InputStep v e) = (step_alike head p (InputStep v e) refl).entry_is
    by (DrawStep v d) = (step_alike head p (DrawStep v d) refl).entry_is
    by (RefreshStep v r) = refl
    by (SuppressStep v stop) = refl
    by (TakeStep v) = no_entry_of_take head p v (has_work head.size p v) ∙ sym (no_entry_of_take head (play_of head p.reached) v (has_work head.size (play_of head p.reached) v))

-- the answer of a step that isn't a take, whatever is kept of viewers
pub answer_of_outcome : (head : Head) (p : Play) (s : Step) → is_take s ≡ false → answer_of_step head p s ≡ answer_at head p.reached s
answer_of_outcome head p s h = (step_alike head p s h).answer_is

-- ---- one entry

-- an entry that is legal is appended, and one that isn't is refused
pub entered_legal : (head : Head) (p : Play) (e : Entry) (a : Answer) → refusal_of head p.reached e ≡ None → IsAlike (outcome_of head p (Enters e a)) (record { entry = Some e; answer = a; play = p })
entered_legal head p e a h = rw h (record { entry_is = refl; answer_is = refl })

pub entered_refused : (head : Head) (p : Play) (e : Entry) (a : Answer) (r : Refusal) → refusal_of head p.reached e ≡ Some r
    → IsAlike (outcome_of head p (Enters e a)) (record { entry = None; answer = Refused r; play = p })
entered_refused head p e a r h = rw h (record { entry_is = refl; answer_is = refl })
