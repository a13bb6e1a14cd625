-- The answers of entries that are accepted or refused.
use Rattle.std.proofs.Common.{◌≡◌, List, refl, ap, sym, Some, None}
use Rattle.std.specs.Prelude.{Option, Err}
use Rattle.session_rules.specs.declared.entry.Entry.{Entry}
use Rattle.session_rules.specs.Journal.{Head, Reached, Refusal, refusal_of}
use Rattle.session_rules.specs.Steps.{Answer, entered}
use Rattle.session_rules.specs.Steps.Answer.{Accepted, Refused}
use Rattle.session_rules.specs.Entering.{play_of}
use Rattle.session_core.specs.declared.faults.DrawRefusal.{DrawRefusal}
use Rattle.session_core.specs.declared.faults.DrawRefusal.TheVariants as draw
use Rattle.session_core.specs.declared.faults.InputRefusal.{InputRefusal}
use Rattle.session_core.specs.declared.faults.InputRefusal.TheVariants as input
use Rattle.session_core.specs.Entered.{answer_of_entry, entry_entered}
use Rattle.session_core.specs.Faults.{input_answer, draw_answer}
use Rattle.session_core.specs.Outcomes.{IsAnswered, GoesOn}
use Rattle.session_core.specs.Refusing.{draw_refusal, input_refusal}

-- what comes of an entry that is refused, or accepted
pub record ComesTo (head : Head) (r : Reached) (e : Entry) (answer : Answer) (entry : Option Entry) : Type 0 where
  pub answer_is : answer_of_entry head r e ≡ answer
  pub entry_is : entry_entered head r e ≡ entry

pub refused : (head : Head) (r : Reached) (e : Entry) (why : Refusal) → refusal_of head r e ≡ Some why → ComesTo head r e (Refused why) None
refused head r e why h = record {
  answer_is = ap (λ o. (entered head (play_of head r) e Accepted o).answer) h;
  entry_is = ap (λ o. (entered head (play_of head r) e Accepted o).entry) h;
}

pub accepted : (head : Head) (r : Reached) (e : Entry) → refusal_of head r e ≡ None → ComesTo head r e Accepted (Some e)
accepted head r e h = record {
  answer_is = ap (λ o. (entered head (play_of head r) e Accepted o).answer) h;
  entry_is = ap (λ o. (entered head (play_of head r) e Accepted o).entry) h;
}

-- a refused drawing
pub record IsDrawRefused (head : Head) (r : Reached) (e : Entry) (why : DrawRefusal) : Type 0 where
  pub answer_is : IsAnswered (draw_answer (Err why)) (answer_of_entry head r e)
  pub entry_is : entry_entered head r e ≡ None

pub draw_refused : (head : Head) (r : Reached) (e : Entry) (why : DrawRefusal) → refusal_of head r e ≡ draw_refusal why → (draw_refusal why ≡ None → ⊥) → IsDrawRefused head r e why
draw_refused head r e (draw.NotHolder holder) h ne = let k = refused head r e _ h in record { answer_is = sym k.answer_is; entry_is = k.entry_is }
draw_refused head r e (draw.BadDrawing rule) h ne = let k = refused head r e _ h in record { answer_is = sym k.answer_is; entry_is = k.entry_is }
draw_refused head r e (draw.EmptySlot slot) h ne = let k = refused head r e _ h in record { answer_is = sym k.answer_is; entry_is = k.entry_is }
draw_refused head r e (draw.SlotSize slot) h ne = let k = refused head r e _ h in record { answer_is = sym k.answer_is; entry_is = k.entry_is }
draw_refused head r e draw.JournalFull h ne = let k = refused head r e _ h in record { answer_is = sym k.answer_is; entry_is = k.entry_is }
draw_refused head r e draw.OutOfMemory h ne = absurd (ne refl)

-- a refused drawing changes nothing
pub draw_stays : (why : DrawRefusal) (entry : Option Entry) (j : List Entry) → entry ≡ None → GoesOn (draw_answer (Err why)) entry j j
draw_stays (draw.NotHolder holder) entry j h = (refl, h)
draw_stays (draw.BadDrawing rule) entry j h = (refl, h)
draw_stays (draw.EmptySlot slot) entry j h = (refl, h)
draw_stays (draw.SlotSize slot) entry j h = (refl, h)
draw_stays draw.JournalFull entry j h = (refl, h)
draw_stays draw.OutOfMemory entry j h = refl

-- a refused event
pub record IsEventRefused (head : Head) (r : Reached) (e : Entry) (why : InputRefusal) : Type 0 where
  pub answer_is : IsAnswered (input_answer (Err why)) (answer_of_entry head r e)
  pub entry_is : entry_entered head r e ≡ None

pub event_refused : (head : Head) (r : Reached) (e : Entry) (why : InputRefusal) → refusal_of head r e ≡ input_refusal why → (input_refusal why ≡ None → ⊥) → IsEventRefused head r e why
event_refused head r e (input.NotHolder holder) h ne = let k = refused head r e _ h in record { answer_is = sym k.answer_is; entry_is = k.entry_is }
event_refused head r e input.JournalFull h ne = let k = refused head r e _ h in record { answer_is = sym k.answer_is; entry_is = k.entry_is }
event_refused head r e input.OutOfMemory h ne = absurd (ne refl)

pub event_stays : (why : InputRefusal) (entry : Option Entry) (j : List Entry) → entry ≡ None → GoesOn (input_answer (Err why)) entry j j
event_stays (input.NotHolder holder) entry j h = (refl, h)
event_stays input.JournalFull entry j h = (refl, h)
event_stays input.OutOfMemory entry j h = refl
