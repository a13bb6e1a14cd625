-- What each viewer is sent in the course of steps of several viewers, frame by frame.
use Rattle.std.specs.Prelude.{ℕ, List, [], ◌∷◌, ◌++◌, map}
use Rattle.session_rules.specs.Journal.{Head}
use Rattle.session_rules.specs.Steps.{effect_of, take_in}
use Rattle.frame_rules.specs.Encoder.{Encoder, pointed_bytes}
use Rattle.script_rules.specs.Script.{Asked}
use Rattle.script_rules.specs.CaptureText.{Run, run_after, encoder_frames}

-- the bytes of a viewer's frame, where a step is its take with work
abbrev pub frames_in : Head → Run Encoder → ℕ → Asked → List (List ℕ)
frames_in head run v a = map (λ t. pointed_bytes head.size (run.confirmed v) run.journal (run.encoders v) t)
    (take_in v run.play (effect_of head run.play a.step))

-- the bytes of a viewer's frames in the course of steps, in order
abbrev pub frames_from : Head → Run Encoder → ℕ → List Asked → List (List ℕ)
frames_from head run v [] = []
frames_from head run v (a ∷ more) = frames_in head run v a ++ frames_from head (run_after encoder_frames head run a) v more
