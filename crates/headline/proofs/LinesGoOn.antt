-- Runs, lines and what is sent go on over further steps.
use Rattle.std.proofs.Common.{◌≡◌, ℕ, List, [], ◌∷◌, ◌++◌, ◌<◌, refl, ap, sym, subst, ◌∙◌, Bool, true, false, append_assoc}
use Rattle.std.specs.Prelude.{◌==◌, if◌then◌else◌}
use Rattle.std.proofs.lemmas.List.{append-nil}
use Rattle.std.proofs.lemmas.List.Elements.{All-nil, All-append}
use Rattle.session_rules.specs.Journal.{Head}
use Rattle.session_rules.specs.Steps.{outcome}
use Rattle.script_rules.specs.Script.{Asked}
use Rattle.script_rules.specs.Capture.{viewer_of}
use Rattle.script_rules.specs.CaptureText.{FrameText, Run, run_at_first, bytes_of_answer, run_after, run_after_all, line_in_run, lines_from, sent_by, sent_from, encoder_frames}
use Rattle.headline.specs.Sent.{AreBytes, run_of, SendsBytes}

pub run_goes_on : {E : Type 0} (frames : FrameText E) (head : Head) (run : Run E) (xs ys : List Asked)
    → run_after_all frames head run (xs ++ ys) ≡ run_after_all frames head (run_after_all frames head run xs) ys
run_goes_on frames head run [] ys = refl
run_goes_on frames head run (a ∷ xs) ys = run_goes_on frames head (run_after frames head run a) xs ys

pub lines_go_on : {E : Type 0} (frames : FrameText E) (head : Head) (run : Run E) (xs ys : List Asked)
    → lines_from frames head run (xs ++ ys) ≡ lines_from frames head run xs ++ lines_from frames head (run_after_all frames head run xs) ys
lines_go_on frames head run [] ys = refl
lines_go_on frames head run (a ∷ xs) ys =
    let next = run_after frames head run a in
    let line = line_in_run frames head run a in
    ap (λ lines. line ++ lines) (lines_go_on frames head next xs ys)
    ∙ sym (append_assoc line (lines_from frames head next xs) (lines_from frames head (run_after_all frames head next xs) ys))

pub sent_goes_on : {E : Type 0} (frames : FrameText E) (head : Head) (run : Run E) (xs ys : List Asked) (v : ℕ)
    → sent_from frames head run (xs ++ ys) v ≡ sent_from frames head run xs v ++ sent_from frames head (run_after_all frames head run xs) ys v
sent_goes_on frames head run [] ys v = refl
sent_goes_on frames head run (a ∷ xs) ys v =
    let next = run_after frames head run a in
    let bytes = sent_by frames head run a v in
    ap (λ more. bytes ++ more) (sent_goes_on frames head next xs ys v)
    ∙ sym (append_assoc bytes (sent_from frames head next xs v) (sent_from frames head (run_after_all frames head next xs) ys v))

-- ---- bytes

pub sends_nothing : (head : Head) → SendsBytes head []
sends_nothing head v = All-nil (λ b. b < 256)

pub bytes_or_none : (b : Bool) (bytes : List ℕ) → AreBytes bytes → AreBytes (if b then bytes else [])
bytes_or_none true bytes h = h
bytes_or_none false bytes h = All-nil (λ b. b < 256)

pub sends_more : (head : Head) (asked : List Asked) (a : Asked) → SendsBytes head asked
    → AreBytes (bytes_of_answer encoder_frames head.size (run_of head asked) (viewer_of a.step) (outcome head (run_of head asked).play a.step).answer)
    → SendsBytes head (asked ++ a ∷ [])
sends_more head asked a before now v =
    let first = run_at_first encoder_frames head.size in
    let run = run_of head asked in
    let frame = bytes_of_answer encoder_frames head.size run (viewer_of a.step) (outcome head run.play a.step).answer in
    let last = sent_by encoder_frames head run a v in
    subst AreBytes (sym (sent_goes_on encoder_frames head first asked (a ∷ []) v))
    (All-append (λ b. b < 256) (sent_from encoder_frames head first asked v) (last ++ []) (before v)
    (subst AreBytes (sym (append-nil last)) (bytes_or_none (viewer_of a.step == v) frame now)))
