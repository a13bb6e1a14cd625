-- One step of a client's stream.
use Rattle.std.proofs.Common.{◌≡◌, ℕ, List, [], ◌∷◌, ◌++◌, sym, refl, ap, ◌∙◌, subst}
use Rattle.std.proofs.lemmas.List.{append_assoc, append-nil}
use Rattle.std.specs.Prelude.{Bool, true, false, is_err, Option, option_to_list, Result, Ok, Err, IfOk, MatchResult}
use Rattle.wire_num.specs.declared.out_of_memory.OutOfMemory.{OutOfMemory}
use Rattle.input_pdu.specs.declared.event.Event.{Event}
use Rattle.session_rules.specs.Journal.{Head}
use Rattle.conn_rules.specs.declared.conn_step.ConnStep.{ConnStep}
use Rattle.conn_rules.specs.declared.conn_step.ConnStep.TheVariants as step
use Rattle.serve_rules.specs.Turns.{SessionPass, IsHandled, Idles}
use Rattle.serve_rules.specs.Events.{Handles}
use Rattle.serve_rules.specs.Notices.{event_in, events_in, notice_after, notice_in}
use Rattle.serve_rules.specs.declared.noted.Noted.{Noted}
use Rattle.serve_rules.proofs.Handling.{handles_one, handles_idle, handles_then, handles_nothing}
use Rattle.serve_rules.specs.Reading.{HasTurns, HasTurnsOf, turns_of}
use Rattle.serve_rules.proofs.Noticing.{events_snoc, notice_snoc}
use Rattle.serve_rules.proofs.InTurns.{turns_then, turns_one, turns_idle}
use Rattle.viewer_run.specs.Doing.{NotesPlace, EventDone, StepDone, StepsFront, WholeIfOk}

abbrev OnlyTrue : Bool → Type 0
OnlyTrue true = Unit {0}
OnlyTrue false = ⊥

is-true-false : true ≡ false → ⊥
is-true-false e = subst OnlyTrue e tt

-- an event that was handled, once the place of its entry is noted
pub noted : (head : Head) (v : ℕ) (event : Event) (p q : SessionPass) (done : Result (Option ℕ) OutOfMemory) (r : Result (Unit {0}) OutOfMemory) (P' P Q : List ℕ)
    → MatchResult done (λ place. IsHandled head v event p q place) (λ _. Idles p q) → P' ≡ P → NotesPlace done r P' Q → EventDone r head v event p q P Q
noted head v event p q (Ok place) r P' P Q h same n =
    subst (λ (x : Result (Unit {0}) OutOfMemory). EventDone x head v event p q P Q) (sym n.0)
    (subst (λ l. Handles head v (event ∷ []) p q P l) (sym (n.1 ∙ ap (λ l. l ++ option_to_list place) same)) (handles_one head v event p q P place h))
noted head v event p q (Err refusal) r P' P Q h same n =
    subst (λ (x : Result (Unit {0}) OutOfMemory). EventDone x head v event p q P Q) (sym n.0)
    (subst (λ l. Handles head v [] p q P l) (sym (n.1 ∙ same)) (handles_idle head v p q P h))

-- an event had one turn, whether memory sufficed or not
pub event_turns : (head : Head) (v : ℕ) (event : Event) (p q : SessionPass) (done : Result (Option ℕ) OutOfMemory)
    → MatchResult done (λ place. IsHandled head v event p q place) (λ _. Idles p q) → HasTurns 1 p q
event_turns head v event p q (Ok place) h = turns_one p q h.base _ h.turn
event_turns head v event p q (Err refusal) h = turns_idle p q h

pub if_done : (A : Type 0) (r : Result (Unit {0}) OutOfMemory) → A → IfOk r (λ done. A)
if_done A (Ok done) a = a
if_done A (Err refusal) a = tt

pub was_done : (A : Type 0) (r : Result (Unit {0}) OutOfMemory) → is_err r ≡ false → IfOk r (λ done. A) → A
was_done A (Ok done) ok a = a
was_done A (Err refusal) ok a = absurd (is-true-false ok)

-- an event is a step of one turn
pub event_step : (event : Event) (r : Result (Unit {0}) OutOfMemory) (p q : SessionPass) → IfOk r (λ done. HasTurns 1 p q) → IfOk r (λ done. HasTurnsOf (step.Event event ∷ []) p q)
event_step event (Ok done) p q h = h
event_step event (Err refusal) p q h = tt

-- the turns of one more step
pub turns_more : (steps : List ConnStep) (step : ConnStep) (p q r : SessionPass) (answer : Result (Unit {0}) OutOfMemory) → is_err answer ≡ false → HasTurnsOf steps p q
    → IfOk answer (λ done. HasTurnsOf (step ∷ []) q r) → HasTurnsOf (steps ++ step ∷ []) p r
turns_more steps step p q r answer ok before h = turns_then steps (step ∷ []) p q r before (was_done (HasTurnsOf (step ∷ []) q r) answer ok h)

-- one more step was done
pub step_done : (head : Head) (v : ℕ) (steps left : List ConnStep) (step : ConnStep) (p q r : SessionPass) (s t u : Noted) (answer : Result (Unit {0}) OutOfMemory)
    → StepsFront head v steps (step ∷ left) p q s t → is_err answer ≡ false → StepDone answer head v step q r t u → StepsFront head v steps left p r s u
step_done head v steps left step p q r s t u (Ok done) f ok d = record {
  front = f.front ++ step ∷ [];
  split = f.split ∙ sym (append_assoc f.front (step ∷ []) left);
  handles = subst (λ es. Handles head v es p r s.places.list u.places.list) (sym (events_snoc f.front step))
      (handles_then head v (events_in f.front) (event_in step) p q r s.places.list t.places.list u.places.list f.handles d.0);
  notice = d.1 ∙ (ap (λ x. notice_after x step) f.notice ∙ sym (notice_snoc (notice_in s) f.front step));
}
step_done head v steps left step p q r s t u (Err refusal) f ok d = absurd (is-true-false ok)

-- a step failed, and nothing of it was done
pub step_failed : (head : Head) (v : ℕ) (steps left : List ConnStep) (step : ConnStep) (p q r : SessionPass) (s t u : Noted) (answer : Result (Unit {0}) OutOfMemory)
    → StepsFront head v steps (step ∷ left) p q s t → is_err answer ≡ true → StepDone answer head v step q r t u
    → StepsFront head v steps (step ∷ left) p r s u × WholeIfOk answer (step ∷ left)
step_failed head v steps left step p q r s t u (Ok done) f err d = absurd (is-true-false (sym err))
step_failed head v steps left step p q r s t u (Err refusal) f err d = (
  record {
    front = f.front;
    split = f.split;
    handles = subst (λ es. Handles head v es p r s.places.list u.places.list) (append-nil (events_in f.front))
        (handles_then head v (events_in f.front) [] p q r s.places.list t.places.list u.places.list f.handles d.0);
    notice = d.1 ∙ f.notice;
  },
  tt,
)

pub steps_at_first : (head : Head) (v : ℕ) (steps : List ConnStep) (p : SessionPass) (t : Noted) → StepsFront head v steps steps p p t t
steps_at_first head v steps p t = record { front = []; split = refl; handles = handles_nothing head v p t.places.list; notice = refl }
