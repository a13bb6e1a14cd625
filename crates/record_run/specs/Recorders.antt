-- What contracts see of a session that is recorded, and of the reading of a script that it stands for.
use Rattle.std.specs.Prelude.{◌≡◌, ℕ, List, ◌++◌, Bool, true, false, IsTrue, Option, Some, None, option_to_list, ⊤}
use Rattle.px_core.specs.Rectangle.{is_session_size}
use Rattle.session_rules.specs.Journal.{Head}
use Rattle.session_rules.specs.Steps.{Step}
use Rattle.session_rules.specs.Entering.{entry_of_step}
use Rattle.session_core.specs.SessionModel.{SessionModel, new_session, reached_by, is_here, AreInvited}
use Rattle.script_rules.specs.Script.{ScriptReading, after_step}
use Rattle.record_rules.specs.Tables.{entries_bytes, are_named}
use Rattle.script_run.specs.Standing.{Seen}
use Rattle.record_run.specs.Recording.{step_text}

-- ---- a session

-- a session goes on by what a step appends
pub record Enters (step : Step) (old new : SessionModel) : Type 0 where
  pub head : new.head ≡ old.head
  pub journal : new.journal ≡ old.journal ++ option_to_list (entry_of_step old.head (reached_by old) step)

-- and that is written
pub record Records (step : Step) (old new : SessionModel) (before now : List ℕ) : Type 0 where
  pub enters : Enters step old new
  pub written : now ≡ before ++ entries_bytes (option_to_list (entry_of_step old.head (reached_by old) step))

-- ---- a session in the course of a script

-- whether a step was asked for, and the session
pub record RecorderModel : Type 0 where
  pub begun : Bool
  pub session : SessionModel

-- before the first step the session is new
abbrev pub recorder_of : Head → Option SessionModel → RecorderModel
recorder_of head None = record { begun = false; session = new_session head }
recorder_of head (Some session) = record { begun = true; session = session }

abbrev pub HasHead : Head → Option SessionModel → Type 0
HasHead head None = ⊤
HasHead head (Some session) = session.head ≡ head

-- what holds of every such session
pub record IsRecorder (head : Head) (session : Option SessionModel) : Type 0 where
  pub size : IsTrue (is_session_size head.size.w head.size.h)
  pub rows : AreInvited head.rows
  pub named : IsTrue (are_named head.rows)
  pub same : HasHead head session

-- what is seen of it
abbrev pub seen_of : RecorderModel → Seen
seen_of m = record { head = m.session.head; begun = m.begun; here = is_here m.session }

-- it stands for this reading of a script: they have one head, have begun or not, and what the journal has reached
pub record Keeps (m : RecorderModel) (r : ScriptReading) : Type 0 where
  pub head : r.head ≡ m.session.head
  pub begun : r.begun ≡ m.begun
  pub reached : r.play.reached ≡ reached_by m.session

-- a step was done, and what it writes was appended
pub record DoesStep (r : ScriptReading) (step : Step) (m : RecorderModel) (before now : List ℕ) : Type 0 where
  pub keeps : Keeps m (after_step r step)
  pub written : now ≡ before ++ step_text r step
