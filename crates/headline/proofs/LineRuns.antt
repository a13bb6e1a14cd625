-- The bytes of each viewer in the lines of a run.
use Rattle.std.proofs.Common.{◌≡◌, ℕ, ◌+◌, ◌<◌, ◌≤◌, List, [], ◌∷◌, ◌++◌, length, refl, ap, sym, subst, ◌∙◌, arith, Some, None, Bool, true, false, append_assoc}
use Rattle.std.proofs.Common.{length-append}
use Rattle.std.specs.Prelude.{Option, IsTrue, is_some, ⊤, ◌==◌, if◌then◌else◌, flat_map}
use Rattle.std.proofs.lemmas.Bool.Decides.{nat_tests}
use Rattle.std.proofs.lemmas.List.{append-nil}
use Rattle.std.proofs.lemmas.List.Elements.{All-nil, All-cons, All-head, All-tail}
use Rattle.px_core.specs.declared.surface.Size.{Size}
use Rattle.caps_sets.specs.declared.confirmed.Confirmed.{Confirmed}
use Rattle.caps_sets.specs.Confirmed.{takes_fast}
use Rattle.line_text.specs.Lines.{lines_of}
use Rattle.session_rules.specs.declared.entry.Role.{Role}
use Rattle.session_rules.specs.declared.entry.Entry.{Entry}
use Rattle.session_rules.specs.declared.entry.Entry.TheVariants.{Join, Leave, Give, Input, Draw}
use Rattle.input_pdu.specs.declared.event.Event.{Event}
use Rattle.session_rules.specs.Journal.{Head, Refusal, refusal_of, is_f12}
use Rattle.session_rules.specs.Steps.{Step, Answer, TakeOf, entered, outcome_of, outcome, join_effect, row_role, input_effect, is_release, receiver_of}
use Rattle.session_rules.specs.Steps.{has_work, take_effect, take_of}
use Rattle.session_rules.specs.Steps.Step.{JoinStep, LeaveStep, InputStep, DrawStep, RefreshStep, SuppressStep, TakeStep}
use Rattle.session_rules.specs.Steps.Answer.{Joined, Left, Accepted, Refused, Nothing, Frame}
use Rattle.session_rules.specs.Steps.Effect.{Enters, Answers}
use Rattle.frame_rules.specs.FrameOrders.{orders_before_tiles}
use Rattle.fast_path.specs.Written.{fast_headers}
use Rattle.frame_rules.specs.FrameBytes.{bytes_of_orders, updates_of, tile_bytes, mark_bytes}
use Rattle.frame_rules.specs.Encoder.{Encoder, encoder_frame, take_bytes, pointed_bytes}
use Rattle.frame_rules.specs.Told.{key_at, pointer_bytes}
use Rattle.script_rules.specs.Script.{Asked, Script, viewer_limit}
use Rattle.script_rules.specs.Capture.{viewer_of, written_bytes, bytes_of_lines, last_line}
use Rattle.script_rules.specs.CaptureText.{FrameText, Run, run_at_first, bytes_of_answer, run_after, line_by, line_in_run, lines_from, sent_by, sent_from, capture_of_script, encoder_frames}
use Rattle.headline.specs.Headline.{is_by_present_viewer, AreByPresentFrom, AreByPresentViewers}
use Rattle.headline.specs.Sent.{AreBytes, SendsBytes, sent_to, PresetConfirms, PresetsConfirm}
use Rattle.headline.proofs.Lines.{AreOneLine, left_line, nothing_line, refusal_is_silent, joined_line_is_silent, bytes_line, last_line_is_silent}
use Rattle.headline.proofs.PresetWords.{preset_is_one_line}
use Rattle.headline.proofs.NumberedLines.{IsNumbered, numbered_at_first, present_is_numbered, step_keeps_numbers}

-- ---- bytes of joined lists

first_are_bytes : (xs ys : List ℕ) → AreBytes (xs ++ ys) → AreBytes xs
first_are_bytes [] ys h = All-nil (λ b. b < 256)
first_are_bytes (x ∷ xs) ys h =
    All-cons (λ b. b < 256) x xs (All-head (λ b. b < 256) x (xs ++ ys) h) (first_are_bytes xs ys (All-tail (λ b. b < 256) x (xs ++ ys) h))

rest_are_bytes : (xs ys : List ℕ) → AreBytes (xs ++ ys) → AreBytes ys
rest_are_bytes [] ys h = h
rest_are_bytes (x ∷ xs) ys h = rest_are_bytes xs ys (All-tail (λ b. b < 256) x (xs ++ ys) h)

-- ---- an answer

-- a frame of a viewer that can be read back
record IsFrameOf (u : ℕ) (bytes : List ℕ) : Type 0 where
  first : 0 < u
  most : u ≤ viewer_limit
  some : 0 < length bytes
  are : AreBytes bytes

-- an answer to a viewer that can be read back, with a frame's bytes
abbrev IsReadable : List (List ℕ) → ℕ → Answer → List ℕ → Type 0
IsReadable preset u (Joined w) frame = AreOneLine preset
IsReadable preset u Left frame = ⊤
IsReadable preset u Accepted frame = ⊤
IsReadable preset u (Refused refusal) frame = ⊤
IsReadable preset u Nothing frame = ⊤
IsReadable preset u (Frame take) frame = IsFrameOf u frame

nothing_is_sent : (b : Bool) (more : List ℕ) → let none : List ℕ = [] in more ≡ (if b then none else none) ++ more
nothing_is_sent true more = refl
nothing_is_sent false more = refl

module _ {E : Type 0} (frames : FrameText E) (never_empty : (size : Size) (c : Confirmed) (j : List Entry) (e : E) (take : TakeOf)
    → 0 < length (frames.bytes size c j e take)) where
  answer_is_read : (size : Size) (run : Run E) (v : ℕ) (a : Asked) (answer : Answer) (more : List ℕ)
      → IsReadable a.preset (viewer_of a.step) answer (bytes_of_answer frames size run (viewer_of a.step) answer)
      → bytes_of_lines v (lines_of (line_by frames size run a answer ++ more))
      ≡ (if viewer_of a.step == v then bytes_of_answer frames size run (viewer_of a.step) answer else []) ++ bytes_of_lines v (lines_of more)
  answer_is_read size run v a (Joined u) more h =
      joined_line_is_silent v u size a.preset more h ∙ nothing_is_sent (viewer_of a.step == v) (bytes_of_lines v (lines_of more))
  answer_is_read size run v a Left more h = left_line v (viewer_of a.step) more ∙ nothing_is_sent (viewer_of a.step == v) (bytes_of_lines v (lines_of more))
  answer_is_read size run v a Accepted more h = nothing_is_sent (viewer_of a.step == v) (bytes_of_lines v (lines_of more))
  answer_is_read size run v a (Refused refusal) more h =
      refusal_is_silent v (viewer_of a.step) refusal more ∙ nothing_is_sent (viewer_of a.step == v) (bytes_of_lines v (lines_of more))
  answer_is_read size run v a Nothing more h = nothing_line v (viewer_of a.step) more
      ∙ nothing_is_sent (viewer_of a.step == v) (bytes_of_lines v (lines_of more))
  answer_is_read size run v a (Frame take) more h =
      bytes_line v (viewer_of a.step) (frames.bytes size (run.confirmed (viewer_of a.step)) run.journal (run.encoders (viewer_of a.step)) take) more
      h.first h.most h.some h.are

  -- an entry is answered as it is, or refused
  entry_is_readable : (head : Head) (run : Run E) (preset : List (List ℕ)) (u : ℕ) (e : Entry) (answer : Answer)
      → IsReadable preset u answer (bytes_of_answer frames head.size run u answer) → (r : Option Refusal)
      → IsReadable preset u (entered head run.play e answer r).answer (bytes_of_answer frames head.size run u (entered head run.play e answer r).answer)
  entry_is_readable head run preset u e answer h None = h
  entry_is_readable head run preset u e answer h (Some r) = tt

  join_is_readable : (head : Head) (run : Run E) (preset : List (List ℕ)) (o : Option Role) → AreOneLine preset
      → IsReadable preset 0 (outcome_of head run.play (join_effect run.play o)).answer
      (bytes_of_answer frames head.size run 0 (outcome_of head run.play (join_effect run.play o)).answer)
  join_is_readable head run preset None h = tt
  join_is_readable head run preset (Some role) h =
      entry_is_readable head run preset 0 (Join (run.play.reached.joins + 1) role) (Joined (run.play.reached.joins + 1)) h
      (refusal_of head run.play.reached (Join (run.play.reached.joins + 1) role))

  input_is_readable : (head : Head) (run : Run E) (preset : List (List ℕ)) (u : ℕ) (e : Event)
      → IsReadable preset u (outcome_of head run.play (input_effect run.play u e)).answer
      (bytes_of_answer frames head.size run u (outcome_of head run.play (input_effect run.play u e)).answer)
  input_is_readable head run preset u e = by (is_f12 e) (is_release e)
    where
      by : (b r : Bool) → let o = outcome_of head run.play
          (if b then (if r then Answers Accepted else Enters (Give u (receiver_of run.play.reached u)) Accepted) else Enters (Input u e) Accepted) in
          IsReadable preset u o.answer (bytes_of_answer frames head.size run u o.answer)
      by true true = tt
      by true false =
          entry_is_readable head run preset u (Give u (receiver_of run.play.reached u)) Accepted tt
          (refusal_of head run.play.reached (Give u (receiver_of run.play.reached u)))
      by false r = entry_is_readable head run preset u (Input u e) Accepted tt (refusal_of head run.play.reached (Input u e))

  take_is_readable : (head : Head) (run : Run E) (preset : List (List ℕ)) (u : ℕ) (b : Bool) → 0 < u → u ≤ viewer_limit
      → AreBytes (bytes_of_answer frames head.size run u (outcome_of head run.play (take_effect b u)).answer)
      → IsReadable preset u (outcome_of head run.play (take_effect b u)).answer
      (bytes_of_answer frames head.size run u (outcome_of head run.play (take_effect b u)).answer)
  take_is_readable head run preset u true first most are = record {
    first = first;
    most = most;
    some = never_empty head.size (run.confirmed u) run.journal (run.encoders u) (take_of run.play u);
    are = are;
  }
  take_is_readable head run preset u false first most are = tt

  step_is_readable : (head : Head) (run : Run E) (preset : List (List ℕ)) (c : Confirmed) (step : Step) → IsNumbered run.play.reached
      → IsTrue (is_by_present_viewer run.play step) → PresetConfirms step preset c
      → AreBytes (bytes_of_answer frames head.size run (viewer_of step) (outcome head run.play step).answer)
      → IsReadable preset (viewer_of step) (outcome head run.play step).answer
      (bytes_of_answer frames head.size run (viewer_of step) (outcome head run.play step).answer)
  step_is_readable head run preset c (JoinStep name) numbered present confirms are =
      join_is_readable head run preset (row_role name head.rows) (preset_is_one_line preset (ap is_some confirms))
  step_is_readable head run preset c (LeaveStep u) numbered present confirms are =
      entry_is_readable head run preset u (Leave u) Left tt (refusal_of head run.play.reached (Leave u))
  step_is_readable head run preset c (InputStep u e) numbered present confirms are = input_is_readable head run preset u e
  step_is_readable head run preset c (DrawStep u d) numbered present confirms are =
      entry_is_readable head run preset u (Draw u d) Accepted tt (refusal_of head run.play.reached (Draw u d))
  step_is_readable head run preset c (RefreshStep u r) numbered present confirms are = tt
  step_is_readable head run preset c (SuppressStep u stop) numbered present confirms are = tt
  step_is_readable head run preset c (TakeStep u) numbered present confirms are =
      let number = present_is_numbered u run.play.reached.viewers numbered.viewers present in
      take_is_readable head run preset u (has_work head.size run.play u) number.0 number.1 are

  -- ---- a run

  same_viewer : (u : ℕ) → (u == u) ≡ true
  same_viewer u = grind (arith, nat_tests)

  -- what is sent for a step is its answer's
  answer_are_bytes : (head : Head) (run : Run E) (a : Asked) (rest : List Asked) → ((v : ℕ) → AreBytes (sent_from frames head run (a ∷ rest) v))
      → AreBytes (bytes_of_answer frames head.size run (viewer_of a.step) (outcome head run.play a.step).answer)
  answer_are_bytes head run a rest are =
      let u = viewer_of a.step in
      let bytes = bytes_of_answer frames head.size run u (outcome head run.play a.step).answer in
      subst (λ b. AreBytes (if b then bytes else [])) (same_viewer u)
      (first_are_bytes (sent_by frames head run a u) (sent_from frames head (run_after frames head run a) rest u) (are u))

  pub run_is_read : (head : Head) (run : Run E) (asked : List Asked) (more : List ℕ) (v : ℕ) → IsNumbered run.play.reached
      → AreByPresentFrom head run.play asked
      → PresetsConfirm asked → ((w : ℕ) → AreBytes (sent_from frames head run asked w))
      → bytes_of_lines v (lines_of (lines_from frames head run asked ++ more)) ≡ sent_from frames head run asked v ++ bytes_of_lines v (lines_of more)
  run_is_read head run [] more v numbered present confirms are = refl
  run_is_read head run (a ∷ rest) more v numbered present confirms are =
      let next = run_after frames head run a in
      let answer = (outcome head run.play a.step).answer in
      let later = lines_from frames head next rest in
      ap (λ text. bytes_of_lines v (lines_of text)) (append_assoc (line_in_run frames head run a) later more)
      ∙ answer_is_read head.size run v a answer (later ++ more)
      (step_is_readable head run a.preset a.confirmed a.step numbered present.0 confirms.0 (answer_are_bytes head run a rest are))
      ∙ ap (λ bytes. sent_by frames head run a v ++ bytes)
      (run_is_read head next rest more v (step_keeps_numbers head run.play numbered a.step) present.1 confirms.1
      (λ w. rest_are_bytes (sent_by frames head run a w) (sent_from frames head next rest w) (are w)))
      ∙ sym (append_assoc (sent_by frames head run a v) (sent_from frames head next rest v) (bytes_of_lines v (lines_of more)))

-- ---- the encoder's frames

mark_has_bytes : (fast b : Bool) → 0 < length (mark_bytes fast b)
unfolding fast_headers
mark_has_bytes false true = omega arith
mark_has_bytes false false = omega arith
mark_has_bytes true true = omega arith
mark_has_bytes true false = omega arith

-- a frame has its mark at least
frame_has_bytes : (size : Size) (c : Confirmed) (j : List Entry) (e : Encoder) (take : TakeOf) → 0 < length (take_bytes size c j e take)
frame_has_bytes size c j e take =
    let f = encoder_frame size c j e take in
    let orders = updates_of (takes_fast c) (bytes_of_orders c e.registers (orders_before_tiles size c e.uses f)) in
    let tiles = flat_map (tile_bytes size c f.picture) f.tiles in
    omega (arith, mark_has_bytes (takes_fast c) c.marker, length-append tiles (mark_bytes (takes_fast c) c.marker), length-append orders (tiles ++ mark_bytes (takes_fast c) c.marker))

take_has_bytes : (size : Size) (c : Confirmed) (j : List Entry) (e : Encoder) (take : TakeOf) → 0 < length (pointed_bytes size c j e take)
take_has_bytes size c j e take =
    let some = frame_has_bytes size c j e take in
    omega (arith, some, length-append (pointer_bytes c e.told (key_at size j take.number)) (take_bytes size c j e take))

-- ---- the capture of steps

pub capture_is_read : (s : Script) → AreByPresentViewers s.head s.asked → PresetsConfirm s.asked → SendsBytes s.head s.asked
    → (v : ℕ) → written_bytes v (capture_of_script encoder_frames s) ≡ sent_to s.head s.asked v
capture_is_read s present confirms are v =
    run_is_read encoder_frames take_has_bytes s.head (run_at_first encoder_frames s.head.size) s.asked (last_line s.refusal) v
    (numbered_at_first s.head.size) present confirms are
    ∙ ap (λ bytes. sent_to s.head s.asked v ++ bytes) (last_line_is_silent v s.refusal) ∙ append-nil (sent_to s.head s.asked v)
