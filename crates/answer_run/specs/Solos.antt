-- A session with the seat of its one viewer, and which runs it stands for.
use Rattle.std.specs.Prelude.{◌≡◌, ℕ, ◌≤◌, true, false, ⊤, IsTrue, List, length, Option, Some, None, Result, Ok, Err}
use Rattle.caps_sets.specs.declared.confirmed.Confirmed.{Confirmed}
use Rattle.session_rules.specs.Journal.{Head}
use Rattle.session_core.specs.SessionModel.{reached_by, is_here, asked_by, is_suppressed}
use Rattle.session_core.specs.declared.faults.JoinFault.{JoinFault}
use Rattle.session_core.specs.declared.faults.JoinFault.TheVariants as fault
use Rattle.session_core.specs.declared.faults.InputRefusal.{InputRefusal}
use Rattle.session_core.specs.declared.faults.InputRefusal.TheVariants as refusal
use Rattle.frame_rules.specs.Encoder.{Encoder}
use Rattle.viewer_sender.specs.Senders.{IsIdle}
use Rattle.viewer_sender.specs.Seats.{SeatFollows}
use Rattle.script_rules.specs.Script.{Asked, is_invited}
use Rattle.script_rules.specs.CaptureText.{Run, run_at_first, run_after, sent_by, encoder_frames}
use Rattle.answer_run.specs.Asking.{client, asks_to_join, asks_for_frame}
use Rattle.answer_run.specs.declared.solo.Solo.{Solo}

-- the client is present, and all that its seat took was encoded
pub record IsSeated (solo : Solo) : Type 0 where
  pub here : IsTrue (is_here solo.session client)
  pub number : solo.seat.sender.v ≡ client
  pub seen : solo.seat.sender.number ≤ length solo.session.journal
  pub idle : IsIdle solo.seat.sender

-- the run has the session's journal and what it has reached; and of the client what it asked for, whether it is suppressed, what it confirmed, the number
-- of its last frame, and its encoder, with the pointers that it was told
pub record IsRunOf (head : Head) (solo : Solo) (run : Run Encoder) : Type 0 where
  pub of_head : solo.session.head ≡ head
  pub journal : run.journal ≡ solo.session.journal
  pub reached : run.play.reached ≡ reached_by solo.session
  pub asked : run.play.asked client ≡ asked_by solo.session client
  pub suppressed : run.play.suppressed client ≡ is_suppressed solo.session client
  pub confirmed : solo.seat.sender.confirmed ≡ run.confirmed client
  pub taken : run.play.taken client ≡ solo.seat.sender.number
  pub follows : SeatFollows solo.seat (run.encoders client)

-- what is asked for was done
abbrev pub Does : Asked → Solo → Solo → Type 0
Does a old new = (head : Head) (run : Run Encoder) → IsRunOf head old run → IsRunOf head new (run_after encoder_frames head run a)

-- a frame was taken, which is these bytes, behind the packet of its pointer where one is due; none where it has no work
abbrev pub Takes : List ℕ → Solo → Solo → Type 0
Takes bytes old new = (head : Head) (run : Run Encoder) → IsRunOf head old run
    → IsRunOf head new (run_after encoder_frames head run asks_for_frame) × (bytes ≡ sent_by encoder_frames head run asks_for_frame client)

-- the client joined a new session, or no row has its name
abbrev pub Joins : Head → List ℕ → Confirmed → Option Solo → Type 0
Joins head name confirmed (Some solo) = (is_invited name head.rows ≡ true) × IsSeated solo
    × IsRunOf head solo (run_after encoder_frames head (run_at_first encoder_frames head.size) (asks_to_join name confirmed))
Joins head name confirmed None = is_invited name head.rows ≡ false

-- the number of a viewer that joined, none of one that isn't let in; it didn't want memory
abbrev pub IsLetIn : Result ℕ JoinFault → Option ℕ → Type 0
IsLetIn (Ok v) number = number ≡ Some v
IsLetIn (Err fault.NotInvited) number = number ≡ None
IsLetIn (Err fault.RoomFull) number = number ≡ None
IsLetIn (Err fault.JoinsSpent) number = number ≡ None
IsLetIn (Err fault.OutOfMemory) number = ⊥

-- an event was done, or refused; it didn't want memory
abbrev pub IsSettled : Result (Unit {0}) InputRefusal → Type 0
IsSettled (Ok x) = ⊤
IsSettled (Err (refusal.NotHolder holder)) = ⊤
IsSettled (Err refusal.JournalFull) = ⊤
IsSettled (Err refusal.OutOfMemory) = ⊥
