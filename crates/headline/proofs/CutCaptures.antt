-- What was written of a script's capture shows each viewer its first takes.
use Rattle.std.proofs.Common.{ℕ, List, [], ◌∷◌, ◌++◌, ap, sym, subst, ◌∙◌}
use Rattle.session_rules.specs.Journal.{Head}
use Rattle.session_rules.specs.Steps.{Play, play_at_first, outcome}
use Rattle.script_rules.specs.Script.{Asked, Script, Opening, opening_of}
use Rattle.script_rules.specs.Script.Opening.{NoSize, Unended, Opened}
use Rattle.script_rules.specs.Capture.{written_bytes}
use Rattle.script_rules.specs.CaptureText.{run_at_first, sent_from, encoder_frames}
use Rattle.headline.specs.Headline.{AreByPresentFrom, IfOpened}
use Rattle.headline.proofs.StepsOfScripts.{HasPremises, scripts_have}
use Rattle.headline.specs.Sent.{sent_to, run_of, PresetsConfirm}
use Rattle.headline.specs.Fronts.{IsFront, script_of, IsCutCapture, IsSentWhatIsWritten, EveryViewerOfFront, EveryViewerOfOpeningFront}
use Rattle.headline.proofs.LineRuns.{capture_is_read}
use Rattle.headline.proofs.CapturesOfScripts.{scripts_confirm}
use Rattle.headline.proofs.StreamFronts.{front_of_front}
use Rattle.headline.proofs.TextFronts.{bytes_in_front}
use Rattle.headline.proofs.PointedFronts.{fronts_see}
use Rattle.headline.proofs.LinesGoOn.{sent_goes_on}

-- the premises hold of the first steps
present_at_first : (head : Head) (p : Play) (xs ys : List Asked) → AreByPresentFrom head p (xs ++ ys) → AreByPresentFrom head p xs
present_at_first head p [] ys h = tt
present_at_first head p (a ∷ xs) ys h = (h.0, present_at_first head (outcome head p a.step).play xs ys h.1)

confirm_at_first : (xs ys : List Asked) → PresetsConfirm (xs ++ ys) → PresetsConfirm xs
confirm_at_first [] ys h = tt
confirm_at_first (a ∷ xs) ys h = (h.0, confirm_at_first xs ys h.1)

-- a viewer's bytes in what was written are the first ones that all steps send it
cut_bytes_are_first : (s : Script) (front : List ℕ) → HasPremises s → PresetsConfirm s.asked → (cut : IsCutCapture s front) → (v : ℕ)
    → IsFront (written_bytes v front) (sent_to s.head s.asked v)
cut_bytes_are_first s front has confirms cut v =
    let first = script_of s.head cut.steps cut.refusal in
    let present = present_at_first s.head (play_at_first s.head.size) cut.steps cut.later
    (subst (AreByPresentFrom s.head (play_at_first s.head.size)) cut.are_first has.present) in
    let presets = confirm_at_first cut.steps cut.later (subst PresetsConfirm cut.are_first confirms) in
    let read = ap (written_bytes v) (sym cut.written) ∙ capture_is_read first present presets cut.sends_bytes v in
    let later = sent_from encoder_frames s.head (run_of s.head cut.steps) cut.later v in
    let goes = ap (λ asked. sent_to s.head asked v) cut.are_first
    ∙ sent_goes_on encoder_frames s.head (run_at_first encoder_frames s.head.size) cut.steps cut.later v in
    front_of_front (written_bytes v front) (sent_to s.head cut.steps v) (sent_to s.head s.asked v)
    (subst (IsFront (written_bytes v front)) read (bytes_in_front v front cut.rest))
    (record { rest = later; joined = goes })

script_cut_shows : (s : Script) (front : List ℕ) → HasPremises s → PresetsConfirm s.asked → IsSentWhatIsWritten s front → EveryViewerOfFront s front
script_cut_shows s front has confirms sends =
    fronts_see s.head s.asked (sent_to s.head s.asked) (λ v. written_bytes v front) (sends.0 has.size has.present has.caches)
    (cut_bytes_are_first s front has confirms sends.1)

opening_cut_shows : (o : Opening) (front : List ℕ) → IfOpened o HasPremises → IfOpened o (λ s. PresetsConfirm s.asked)
    → IfOpened o (λ s. IsSentWhatIsWritten s front) → EveryViewerOfOpeningFront o front
opening_cut_shows NoSize front has confirms sends = tt
opening_cut_shows Unended front has confirms sends = tt
opening_cut_shows (Opened s) front has confirms sends = script_cut_shows s front has confirms sends

pub cut_shows : (bytes front : List ℕ) → IfOpened (opening_of bytes) (λ s. IsSentWhatIsWritten s front) → EveryViewerOfOpeningFront (opening_of bytes) front
cut_shows bytes front sends = opening_cut_shows (opening_of bytes) front (scripts_have bytes) (scripts_confirm bytes) sends
