-- What a capture's lines rest on: the bytes that are sent are bytes, and preset words confirm what they say.
use Rattle.std.specs.Prelude.{◌≡◌, ℕ, ◌<◌, List, [], ◌∷◌, ⊤, All, Some}
use Rattle.caps_sets.specs.declared.confirmed.Confirmed.{Confirmed}
use Rattle.session_rules.specs.Journal.{Head}
use Rattle.session_rules.specs.Steps.{Step}
use Rattle.session_rules.specs.Steps.Step.{JoinStep, LeaveStep, InputStep, DrawStep, RefreshStep, SuppressStep, TakeStep}
use Rattle.frame_rules.specs.Encoder.{Encoder}
use Rattle.caps_sets.specs.Presets.{presets, confirmed_by}
use Rattle.script_rules.specs.Script.{Asked, Script}
use Rattle.script_rules.specs.CaptureText.{Run, run_at_first, run_after_all, sent_from, encoder_frames}
use Rattle.headline.specs.Headline.{EveryViewerOfSteps}

-- each is below 256
abbrev pub AreBytes : List ℕ → Type 0
AreBytes bytes = All (λ b. b < 256) bytes

-- the run after all that is asked of a new session
abbrev pub run_of : Head → List Asked → Run Encoder
run_of head asked = run_after_all encoder_frames head (run_at_first encoder_frames head.size) asked

-- the bytes that a viewer is sent for all that is asked
abbrev pub sent_to : Head → List Asked → ℕ → List ℕ
sent_to head asked v = sent_from encoder_frames head (run_at_first encoder_frames head.size) asked v

-- what each viewer is sent is bytes
abbrev pub SendsBytes : Head → List Asked → Type 0
SendsBytes head asked = (v : ℕ) → AreBytes (sent_to head asked v)

-- the preset words of a join confirm this; other steps have none
abbrev pub PresetConfirms : Step → List (List ℕ) → Confirmed → Type 0
PresetConfirms (JoinStep name) preset c = confirmed_by presets preset ≡ Some c
PresetConfirms (LeaveStep v) preset c = ⊤
PresetConfirms (InputStep v event) preset c = ⊤
PresetConfirms (DrawStep v d) preset c = ⊤
PresetConfirms (RefreshStep v rect) preset c = ⊤
PresetConfirms (SuppressStep v stop) preset c = ⊤
PresetConfirms (TakeStep v) preset c = ⊤

-- the preset words of each join confirm what its viewer confirmed
abbrev pub PresetsConfirm : List Asked → Type 0
PresetsConfirm [] = ⊤
PresetsConfirm (a ∷ rest) = PresetConfirms a.step a.preset a.confirmed × PresetsConfirm rest

-- every viewer of a script's steps sees the journal in what the encoder sends, which is bytes
abbrev pub EveryViewerIsSentTheJournal : Script → Type 0
EveryViewerIsSentTheJournal s = EveryViewerOfSteps s.head s.asked × SendsBytes s.head s.asked
