-- The bytes that a viewer is sent are those of its frames, one after the other.
use Rattle.std.proofs.Common.{◌≡◌, ℕ, ◌+◌, List, [], ◌∷◌, ◌++◌, map, refl, arith, ap, sym, ◌∙◌, append-nil, append_assoc, Some, None}
use Rattle.std.specs.Prelude.{Bool, true, false, ◌==◌, ⊤, Option, if◌then◌else◌}
use Rattle.std.proofs.lemmas.Bool.Decides.{nat_tests}
use Rattle.caps_sets.specs.declared.confirmed.Confirmed.{Confirmed}
use Rattle.session_rules.specs.declared.entry.Entry.{Entry}
use Rattle.session_rules.specs.declared.entry.Entry.TheVariants.{Join, Leave, Give, Input, Draw}
use Rattle.session_rules.specs.declared.entry.Role.{Role}
use Rattle.input_pdu.specs.declared.event.Event.{Event}
use Rattle.session_rules.specs.Journal.{Head, Refusal, refusal_of, is_f12}
use Rattle.session_rules.specs.Steps.{Step, Answer, TakeOf, entered, outcome_of, outcome, join_effect, row_role, input_effect, is_release}
use Rattle.session_rules.specs.Steps.{receiver_of, has_work, take_effect, take_in, take_of}
use Rattle.session_rules.specs.Steps.Step.{JoinStep, LeaveStep, InputStep, DrawStep, RefreshStep, SuppressStep, TakeStep}
use Rattle.session_rules.specs.Steps.Answer.{Joined, Left, Accepted, Refused, Nothing, Frame}
use Rattle.session_rules.specs.Steps.Effect.{Enters, Answers}
use Rattle.frame_rules.specs.FrameBytes.{joined_bytes}
use Rattle.frame_rules.specs.Encoder.{Encoder, pointed_bytes}
use Rattle.script_rules.specs.Script.{Asked}
use Rattle.script_rules.specs.CaptureText.{Run, run_after, bytes_of_answer, sent_by, sent_from, encoder_frames}
use Rattle.headline.specs.Interleaving.{frames_in, frames_from}
use Rattle.headline.proofs.NumberedSteps.{no_take, input_takes_none}

pub joined-append : (xs ys : List (List ℕ)) → joined_bytes (xs ++ ys) ≡ joined_bytes xs ++ joined_bytes ys
joined-append [] ys = refl
joined-append (x ∷ xs) ys = ap (λ bs. x ++ bs) (joined-append xs ys) ∙ sym (append_assoc x (joined_bytes xs) (joined_bytes ys))

-- an answer that is no frame
abbrev NoFrame : Answer → Type 0
NoFrame (Joined u) = ⊤
NoFrame Left = ⊤
NoFrame Accepted = ⊤
NoFrame (Refused refusal) = ⊤
NoFrame Nothing = ⊤
NoFrame (Frame take) = ⊥

same_number : (m n : ℕ) → (m == n) ≡ true → m ≡ n
same_number m n h = grind (arith, nat_tests, h)

module _ (head : Head) (v : ℕ) (run : Run Encoder) where
  -- no frame has no bytes, whoever it is for
  no_bytes : (own : Bool) (u : ℕ) (answer : Answer) → NoFrame answer → (if own then bytes_of_answer encoder_frames head.size run u answer else []) ≡ []
  no_bytes false u answer h = refl
  no_bytes true u (Joined w) h = refl
  no_bytes true u Left h = refl
  no_bytes true u Accepted h = refl
  no_bytes true u (Refused refusal) h = refl
  no_bytes true u Nothing h = refl
  no_bytes true u (Frame take) h = absurd h

  abbrev bytes_of : TakeOf → List ℕ
  bytes_of t = pointed_bytes head.size (run.confirmed v) run.journal (run.encoders v) t

  -- a step that takes nothing
  sent_nothing : (u : ℕ) (answer : Answer) (takes : List TakeOf) → NoFrame answer → takes ≡ []
      → (if u == v then bytes_of_answer encoder_frames head.size run u answer else []) ≡ joined_bytes (map bytes_of takes)
  sent_nothing u answer takes h none = no_bytes (u == v) u answer h ∙ ap (λ ts. joined_bytes (map bytes_of ts)) (sym none)

  entered_no_frame : (e : Entry) (answer : Answer) → NoFrame answer → (r : Option Refusal) → NoFrame (entered head run.play e answer r).answer
  entered_no_frame e answer h None = h
  entered_no_frame e answer h (Some q) = tt

  join_no_frame : (o : Option Role) → NoFrame (outcome_of head run.play (join_effect run.play o)).answer
  join_no_frame None = tt
  join_no_frame (Some role) =
      entered_no_frame (Join (run.play.reached.joins + 1) role) (Joined (run.play.reached.joins + 1)) tt
      (refusal_of head run.play.reached (Join (run.play.reached.joins + 1) role))

  input_no_frame : (u : ℕ) (e : Event) → NoFrame (outcome_of head run.play (input_effect run.play u e)).answer
  input_no_frame u e = by (is_f12 e) (is_release e)
    where
      by : (b r : Bool)
          → NoFrame (outcome_of head run.play
          (if b then (if r then Answers Accepted else Enters (Give u (receiver_of run.play.reached u)) Accepted) else Enters (Input u e) Accepted)).answer
      by true true = tt
      by true false = entered_no_frame (Give u (receiver_of run.play.reached u)) Accepted tt
          (refusal_of head run.play.reached (Give u (receiver_of run.play.reached u)))
      by false r = entered_no_frame (Input u e) Accepted tt (refusal_of head run.play.reached (Input u e))

  -- a take, by whether it has work
  take_sent : (u : ℕ) (work : Bool)
      → (if u == v then bytes_of_answer encoder_frames head.size run u (outcome_of head run.play (take_effect work u)).answer else [])
      ≡ joined_bytes (map bytes_of (take_in v run.play (take_effect work u)))
  take_sent u false = sent_nothing u Nothing [] tt refl
  take_sent u true = by (u == v) refl
    where
      by : (own : Bool) → (u == v) ≡ own → (if own then pointed_bytes head.size (run.confirmed u) run.journal (run.encoders u) (take_of run.play u) else [])
          ≡ joined_bytes (map bytes_of (if own then take_of run.play v ∷ [] else []))
      by true e = ap (λ n. pointed_bytes head.size (run.confirmed n) run.journal (run.encoders n) (take_of run.play n)) (same_number u v e)
          ∙ sym (append-nil (bytes_of (take_of run.play v)))
      by false e = refl

  -- a step by its kind
  sent_is : (preset : List (List ℕ)) (c : Confirmed) (s : Step)
      → sent_by encoder_frames head run (record { step = s; preset = preset; confirmed = c }) v ≡ joined_bytes
      (frames_in head run v (record { step = s; preset = preset; confirmed = c }))
  sent_is preset c (JoinStep name) = sent_nothing 0 (outcome head run.play (JoinStep name)).answer _ (join_no_frame (row_role name head.rows))
      (no_take head run.play v (row_role name head.rows))
  sent_is preset c (LeaveStep u) = sent_nothing u (outcome head run.play (LeaveStep u)).answer []
      (entered_no_frame (Leave u) Left tt (refusal_of head run.play.reached (Leave u))) refl
  sent_is preset c (InputStep u e) = sent_nothing u (outcome head run.play (InputStep u e)).answer _ (input_no_frame u e) (input_takes_none run.play v u e)
  sent_is preset c (DrawStep u d) = sent_nothing u (outcome head run.play (DrawStep u d)).answer []
      (entered_no_frame (Draw u d) Accepted tt (refusal_of head run.play.reached (Draw u d))) refl
  sent_is preset c (RefreshStep u r) = sent_nothing u Accepted [] tt refl
  sent_is preset c (SuppressStep u stop) = sent_nothing u Accepted [] tt refl
  sent_is preset c (TakeStep u) = take_sent u (has_work head.size run.play u)

pub sent_are_frames : (head : Head) (v : ℕ) (asked : List Asked) (run : Run Encoder)
    → sent_from encoder_frames head run asked v ≡ joined_bytes (frames_from head run v asked)
sent_are_frames head v [] run = refl
sent_are_frames head v (a ∷ more) run =
    let next = run_after encoder_frames head run a in
    ap (λ bs. bs ++ sent_from encoder_frames head next more v) (sent_is head v run a.preset a.confirmed a.step)
    ∙ (ap (λ bs. joined_bytes (frames_in head run v a) ++ bs) (sent_are_frames head v more next)
    ∙ sym (joined-append (frames_in head run v a) (frames_from head next v more)))
