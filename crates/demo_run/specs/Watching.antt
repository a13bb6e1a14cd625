-- What a watcher makes of a frame.
use Rattle.std.specs.Prelude.{◌≡◌, ℕ, ◌+◌, List, length, slice_get, slice_set, Some, Result, Ok, ⊤}
use Rattle.px_core.specs.declared.surface.Size.{Size}
use Rattle.caps_sets.specs.declared.confirmed.Confirmed.{Confirmed}
use Rattle.order_means.specs.FrameMarks.{ClientReading, Refusal, first_reading, read_on}
use Rattle.client_view.specs.Clients.{IsReading}
use Rattle.client_view.specs.Views.{SameViewer}
use Rattle.demo_run.specs.Counts.{kept}
use Rattle.script_run.specs.declared.answer.StepAnswer.{StepAnswer}
use Rattle.script_run.specs.declared.answer.StepAnswer.TheVariants as says
use Rattle.demo_run.specs.declared.watcher.Watcher.{Watcher}

-- what the meaning makes of a frame behind a reading
abbrev pub read_behind : Watcher → ClientReading → List ℕ → Result ClientReading Refusal
read_behind w r frame = read_on w.client.viewer.confirmed w.client.viewer.pictures.size r frame

-- before the first frame
pub record IsNew (confirmed : Confirmed) (size : Size) (w : Watcher) : Type 0 where
  pub client : IsReading (first_reading confirmed size) w.client
  pub confirmed_is : w.client.viewer.confirmed ≡ confirmed
  pub size_is : w.client.viewer.pictures.size ≡ size
  pub takes : w.takes ≡ 0
  pub bytes : w.bytes ≡ 0

-- a reading for which the client stands isn't refused by the frame
pub record IsAccepted (w : Watcher) (frame : List ℕ) : Type 0 where
  pub reading : ClientReading
  pub stands : IsReading reading w.client
  pub next : ClientReading
  pub accepts : read_behind w reading frame ≡ Ok next

-- the frame is read and counted
pub record ReadsOn (old : Watcher) (frame : List ℕ) (new : Watcher) : Type 0 where
  pub reads : (r : ClientReading) → IsReading r old.client → (s : ClientReading) × (read_behind old r frame ≡ Ok s) × IsReading s new.client
  pub same : SameViewer old.client.viewer new.client.viewer
  pub takes : new.takes ≡ kept (old.takes + 1)
  pub bytes : new.bytes ≡ kept (old.bytes + length frame)

-- what an answer counts as a refusal
abbrev pub refusals_in : StepAnswer → ℕ
refusals_in (says.Joined u) = 0
refusals_in says.Left = 0
refusals_in says.Accepted = 0
refusals_in (says.Refused cause) = 1
refusals_in says.Nothing = 0
refusals_in (says.Frame bytes) = 0

-- the watcher at a place doesn't refuse the frame of an answer that is one
abbrev pub IsAcceptedAt : ℕ → StepAnswer → List Watcher → Type 0
IsAcceptedAt i (says.Joined u) ws = ⊤
IsAcceptedAt i says.Left ws = ⊤
IsAcceptedAt i says.Accepted ws = ⊤
IsAcceptedAt i (says.Refused cause) ws = ⊤
IsAcceptedAt i says.Nothing ws = ⊤
IsAcceptedAt i (says.Frame bytes) ws = (w : Watcher) → slice_get ws i ≡ Some w → IsAccepted w bytes.items

-- the watcher at a place has read the frame
pub record ReadsAt (i : ℕ) (frame : List ℕ) (old new : List Watcher) : Type 0 where
  pub before : Watcher
  pub after : Watcher
  pub found : slice_get old i ≡ Some before
  pub changed : new ≡ slice_set old i after
  pub reads : ReadsOn before frame after

-- it has read the frame of an answer that is one; after another answer all watchers stay
abbrev pub IsNoted : ℕ → StepAnswer → List Watcher → List Watcher → Type 0
IsNoted i (says.Joined u) old new = new ≡ old
IsNoted i says.Left old new = new ≡ old
IsNoted i says.Accepted old new = new ≡ old
IsNoted i (says.Refused cause) old new = new ≡ old
IsNoted i says.Nothing old new = new ≡ old
IsNoted i (says.Frame bytes) old new = ReadsAt i bytes.items old new
