-- How far steps of a client's stream were done.
use Rattle.std.specs.Prelude.{◌≡◌, ℕ, ⊤, List, [], ◌∷◌, ◌++◌, Option, option_to_list, Result, Ok, Err}
use Rattle.wire_num.specs.declared.out_of_memory.OutOfMemory.{OutOfMemory}
use Rattle.input_pdu.specs.declared.event.Event.{Event}
use Rattle.session_rules.specs.Journal.{Head}
use Rattle.conn_rules.specs.declared.conn_step.ConnStep.{ConnStep}
use Rattle.serve_rules.specs.Turns.{SessionPass}
use Rattle.serve_rules.specs.Events.{Handles}
use Rattle.serve_rules.specs.Notices.{event_in, events_in, notice_after, notice_after_all, notice_in}
use Rattle.serve_rules.specs.declared.noted.Noted.{Noted}

-- the place of an event's entry was noted, if it has one
abbrev pub NotesPlace : Result (Option ℕ) OutOfMemory → Result (Unit {0}) OutOfMemory → List ℕ → List ℕ → Type 0
NotesPlace (Ok place) noted old new = (noted ≡ Ok tt) × (new ≡ old ++ option_to_list place)
NotesPlace (Err refusal) noted old new = (noted ≡ Err refusal) × (new ≡ old)

-- an event was handled, or it wasn't for want of memory
abbrev pub EventDone : Result (Unit {0}) OutOfMemory → Head → ℕ → Event → SessionPass → SessionPass → List ℕ → List ℕ → Type 0
EventDone (Ok done) head v event before after places_old places_new = Handles head v (event ∷ []) before after places_old places_new
EventDone (Err refusal) head v event before after places_old places_new = Handles head v [] before after places_old places_new

-- a step was done, or nothing of it for want of memory
abbrev pub StepDone : Result (Unit {0}) OutOfMemory → Head → ℕ → ConnStep → SessionPass → SessionPass → Noted → Noted → Type 0
StepDone (Ok done) head v step before after noted_old noted_new =
    Handles head v (event_in step) before after noted_old.places.list noted_new.places.list × (notice_in noted_new ≡ notice_after (notice_in noted_old) step)
StepDone (Err refusal) head v step before after noted_old noted_new =
    Handles head v [] before after noted_old.places.list noted_new.places.list × (notice_in noted_new ≡ notice_in noted_old)

-- the first of some steps were done, and these are left
pub record StepsFront (head : Head) (v : ℕ) (steps left : List ConnStep) (before after : SessionPass) (noted_old noted_new : Noted) : Type 0 where
  pub front : List ConnStep
  pub split : steps ≡ front ++ left
  pub handles : Handles head v (events_in front) before after noted_old.places.list noted_new.places.list
  pub notice : notice_in noted_new ≡ notice_after_all (notice_in noted_old) front

-- none is left, unless memory was wanted
abbrev pub WholeIfOk : Result (Unit {0}) OutOfMemory → List ConnStep → Type 0
WholeIfOk (Ok done) undone = undone ≡ []
WholeIfOk (Err refusal) undone = ⊤
