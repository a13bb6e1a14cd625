-- Which runs a script's run in code stands for.
use Rattle.std.specs.Prelude.{◌≡◌, ℕ, ◌≤◌, ◌<◌, false, IsTrue, List, length, Some, None}
use Rattle.px_core.specs.Tiles.{no_tiles}
use Rattle.session_rules.specs.Journal.{Head}
use Rattle.session_rules.specs.Steps.{Step}
use Rattle.session_core.specs.SessionModel.{reached_by, is_here, asked_by, is_suppressed}
use Rattle.frame_rules.specs.Encoder.{Encoder, first_encoder}
use Rattle.viewer_sender.specs.Senders.{IsIdle}
use Rattle.viewer_sender.specs.Seats.{SeatModel, SeatFollows}
use Rattle.script_rules.specs.Script.{Asked, without_preset}
use Rattle.script_rules.specs.CaptureText.{Run, run_after, line_in_run, encoder_frames}
use Rattle.script_run.specs.declared.answer.StepAnswer.{StepAnswer}
use Rattle.script_run.specs.Answers.{answer_text, SaysOutcome}
use Rattle.script_run.specs.Hosts.{HostModel, seat_of}

-- of a viewer that is present the run says what the session and the viewer's seat do: what it asked for, whether it is suppressed, what it confirmed, the
-- number of its last frame, which is in the journal, and its encoder, with the pointers that it was told
pub record IsViewerOf (host : HostModel) (v : ℕ) (run : Run Encoder) : Type 0 where
  pub asked : run.play.asked v ≡ asked_by host.session v
  pub suppressed : run.play.suppressed v ≡ is_suppressed host.session v
  pub seat : SeatModel
  pub found : seat_of v host.seats ≡ Some seat
  pub number : seat.sender.v ≡ v
  pub confirmed : seat.sender.confirmed ≡ run.confirmed v
  pub taken : run.play.taken v ≡ seat.sender.number
  pub seen : seat.sender.number ≤ length host.session.journal
  pub idle : IsIdle seat.sender
  pub follows : SeatFollows seat (run.encoders v)

-- of a viewer that is yet to come it says what it says of all at first
pub record IsYetToCome (host : HostModel) (v : ℕ) (run : Run Encoder) : Type 0 where
  pub asked : run.play.asked v ≡ no_tiles
  pub suppressed : run.play.suppressed v ≡ false
  pub taken : run.play.taken v ≡ 0
  pub encoder : run.encoders v ≡ first_encoder
  pub nobody : seat_of v host.seats ≡ None

-- the run has the session's journal and what it has reached, and says that of each viewer; of one that left, whose number isn't given again, nothing is asked
pub record IsRunOf (host : HostModel) (run : Run Encoder) : Type 0 where
  pub journal : run.journal ≡ host.session.journal
  pub reached : run.play.reached ≡ reached_by host.session
  pub present : (v : ℕ) → IsTrue (is_here host.session v) → IsViewerOf host v run
  pub later : (v : ℕ) → (reached_by host.session).joins < v → IsYetToCome host v run

-- there is such a run
pub record IsInCourse (host : HostModel) : Type 0 where
  pub run : Run Encoder
  pub is_run : IsRunOf host run

-- what is asked has its line, and the run goes on to the one after it
pub record Advances (head : Head) (run : Run Encoder) (a : Asked) (text : List ℕ) (new : HostModel) : Type 0 where
  pub line : text ≡ line_in_run encoder_frames head run a
  pub is_run : IsRunOf new (run_after encoder_frames head run a)

-- a viewer's step was done in each run that the host stands for, with this answer
abbrev pub DoesOwn : HostModel → HostModel → ℕ → Step → StepAnswer → Type 0
DoesOwn old new v step answer = (run : Run Encoder) (preset : List (List ℕ)) → IsRunOf old run
    → Advances old.session.head run (without_preset step) (answer_text old.session.head.size v preset answer) new

-- the answer says what the step comes to in each of them
abbrev pub SaysOwn : HostModel → Step → StepAnswer → Type 0
SaysOwn old step answer = (run : Run Encoder) → IsRunOf old run → SaysOutcome old.session.head run step answer
