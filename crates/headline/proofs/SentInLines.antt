-- What steps send is bytes, where the orders of each frame fit into bytes.
use Rattle.std.proofs.Common.{ℕ, List, [], ◌∷◌}
use Rattle.std.specs.Prelude.{◌==◌}
use Rattle.px_core.specs.declared.surface.Size.{Size}
use Rattle.session_rules.specs.Journal.{Head}
use Rattle.session_rules.specs.Steps.{Answer, outcome}
use Rattle.session_rules.specs.Steps.Answer.{Joined, Left, Accepted, Refused, Nothing, Frame}
use Rattle.frame_rules.specs.Encoder.{Encoder, encoder_frame, take_bytes}
use Rattle.frame_rules.specs.Told.{key_at, pointer_bytes}
use Rattle.script_rules.specs.Script.{Asked}
use Rattle.script_rules.specs.Capture.{viewer_of}
use Rattle.script_rules.specs.CaptureText.{Run, run_at_first, bytes_of_answer, run_after, sent_by, sent_from, encoder_frames}
use Rattle.headline.specs.Sent.{AreBytes, run_of, SendsBytes}
use Rattle.headline.specs.OrderBytes.{AnswerHoldsBytes, FramesHoldBytes}
use Rattle.headline.proofs.OrderBytes.{bytes_nil, bytes_append}
use Rattle.headline.proofs.FrameBytes.{frame_are_bytes}
use Rattle.headline.proofs.PointerBytes.{pointer_are_bytes}
use Rattle.headline.proofs.LinesGoOn.{bytes_or_none}

answer_are_bytes : (size : Size) (run : Run Encoder) (v : ℕ) (answer : Answer) → AnswerHoldsBytes size run v answer
    → AreBytes (bytes_of_answer encoder_frames size run v answer)
answer_are_bytes size run v (Joined u) h = bytes_nil
answer_are_bytes size run v Left h = bytes_nil
answer_are_bytes size run v Accepted h = bytes_nil
answer_are_bytes size run v (Refused refusal) h = bytes_nil
answer_are_bytes size run v Nothing h = bytes_nil
answer_are_bytes size run v (Frame take) h =
    let e = run.encoders v in
    let c = run.confirmed v in
    let key = key_at size run.journal take.number in
    bytes_append (pointer_bytes c e.told key) (take_bytes size c run.journal e take) (pointer_are_bytes c e.told key)
    (frame_are_bytes size c e.registers e.uses (encoder_frame size c run.journal e take) h)

run_sends_bytes : (head : Head) (run : Run Encoder) (asked : List Asked) → FramesHoldBytes head run asked → (v : ℕ)
    → AreBytes (sent_from encoder_frames head run asked v)
run_sends_bytes head run [] h v = bytes_nil
run_sends_bytes head run (a ∷ rest) h v =
    let u = viewer_of a.step in
    let next = run_after encoder_frames head run a in
    let answer = (outcome head run.play a.step).answer in
    bytes_append (sent_by encoder_frames head run a v) (sent_from encoder_frames head next rest v)
    (bytes_or_none (u == v) (bytes_of_answer encoder_frames head.size run u answer) (answer_are_bytes head.size run u answer h.0))
    (run_sends_bytes head next rest h.1 v)

pub steps_send_bytes : (head : Head) (asked : List Asked) → FramesHoldBytes head (run_of head []) asked → SendsBytes head asked
steps_send_bytes head asked h v = run_sends_bytes head (run_at_first encoder_frames head.size) asked h v
