-- What was asked, and one thing more.
use Rattle.std.proofs.Common.{◌≡◌, ℕ, ◌+◌, List, [], ◌∷◌, ◌++◌, length, map, refl, ap, sym, ◌∙◌, subst, arith, append_assoc, append-nil, length-append}
use Rattle.std.specs.Prelude.{IsTrue, option_to_list}
use Rattle.session_rules.specs.Journal.{Head}
use Rattle.session_rules.specs.Steps.{Step, Answer, Play, play_at_first, effect_of, outcome, take_in, takes_from, entries_from, answers_from, session_after}
use Rattle.session_rules.specs.Steps.Answer.{Joined, Left, Accepted, Refused, Nothing, Frame}
use Rattle.session_rules.proofs.Journals.{answers_from-append}
use Rattle.session_rules.proofs.Takes.{takes_from-append}
use Rattle.frame_rules.specs.Describes.{HasAllCaches}
use Rattle.frame_rules.specs.Encoder.{Encoder}
use Rattle.script_rules.specs.Script.{Asked}
use Rattle.script_rules.specs.CaptureText.{Run, run_after, run_after_all, sent_by, sent_from, encoder_frames}
use Rattle.headline.specs.Headline.{steps_of, is_by_present_viewer, AreByPresentFrom, ConfirmAllCaches}
use Rattle.demo_run.specs.Counts.{refused_count}

pub steps-append : (xs ys : List Asked) → steps_of (xs ++ ys) ≡ steps_of xs ++ steps_of ys
steps-append [] ys = refl
steps-append (x ∷ xs) ys = ap (λ ss. x.step ∷ ss) (steps-append xs ys)

module _ (head : Head) where
  pub run_more : (run : Run Encoder) (xs : List Asked) (a : Asked)
      → run_after_all encoder_frames head run (xs ++ a ∷ []) ≡ run_after encoder_frames head (run_after_all encoder_frames head run xs) a
  run_more run [] a = refl
  run_more run (x ∷ xs) a = run_more (run_after encoder_frames head run x) xs a

  pub sent_more : (run : Run Encoder) (xs : List Asked) (a : Asked) (v : ℕ)
      → sent_from encoder_frames head run (xs ++ a ∷ []) v
      ≡ sent_from encoder_frames head run xs v ++ sent_by encoder_frames head (run_after_all encoder_frames head run xs) a v
  sent_more run [] a v = append-nil (sent_by encoder_frames head run a v)
  sent_more run (x ∷ xs) a v =
      let next = run_after encoder_frames head run x in
      ap (λ bs. sent_by encoder_frames head run x v ++ bs) (sent_more next xs a v)
      ∙ sym (append_assoc (sent_by encoder_frames head run x v) (sent_from encoder_frames head next xs v) (sent_by encoder_frames head (run_after_all encoder_frames head next xs) a v))

  pub play_is : (run : Run Encoder) (xs : List Asked) → (run_after_all encoder_frames head run xs).play ≡ session_after head run.play (steps_of xs)
  play_is run [] = refl
  play_is run (x ∷ xs) = play_is (run_after encoder_frames head run x) xs

  pub journal_is : (run : Run Encoder) (xs : List Asked) → (run_after_all encoder_frames head run xs).journal ≡ run.journal ++ entries_from head run.play (steps_of xs)
  journal_is run [] = sym (append-nil run.journal)
  journal_is run (x ∷ xs) =
      let o = outcome head run.play x.step in
      journal_is (run_after encoder_frames head run x) xs ∙ append_assoc run.journal (option_to_list o.entry) (entries_from head o.play (steps_of xs))

  pub takes_more : (p : Play) (v : ℕ) (xs : List Asked) (a : Asked)
      → length (takes_from head p v (steps_of (xs ++ a ∷ [])))
      ≡ length (takes_from head p v (steps_of xs)) + length (take_in v (session_after head p (steps_of xs)) (effect_of head (session_after head p (steps_of xs)) a.step))
  takes_more p v xs a =
      let old = takes_from head p v (steps_of xs) in
      let q = session_after head p (steps_of xs) in
      let one = take_in v q (effect_of head q a.step) in
      ap (λ ss. length (takes_from head p v ss)) (steps-append xs (a ∷ []))
      ∙ (ap length (takes_from-append head p v (steps_of xs) (a.step ∷ []))
      ∙ (length-append old (one ++ []) ∙ ap (λ l. length old + length l) (append-nil one)))

  pub present_more : (p : Play) (xs : List Asked) (a : Asked) → AreByPresentFrom head p xs
      → IsTrue (is_by_present_viewer (session_after head p (steps_of xs)) a.step) → AreByPresentFrom head p (xs ++ a ∷ [])
  present_more p [] a h k = (k, tt)
  present_more p (x ∷ xs) a h k = (h.0, present_more (outcome head p x.step).play xs a h.1 k)

  refused_append : (xs ys : List Answer) → refused_count (xs ++ ys) ≡ refused_count xs + refused_count ys
  refused_append [] ys = omega arith
  refused_append (Joined v ∷ xs) ys = refused_append xs ys
  refused_append (Left ∷ xs) ys = refused_append xs ys
  refused_append (Accepted ∷ xs) ys = refused_append xs ys
  refused_append (Refused why ∷ xs) ys = let rest = refused_append xs ys in omega (arith, rest)
  refused_append (Nothing ∷ xs) ys = refused_append xs ys
  refused_append (Frame take ∷ xs) ys = refused_append xs ys

  pub refused_more : (p : Play) (xs : List Asked) (a : Asked)
      → refused_count (answers_from head p (steps_of (xs ++ a ∷ [])))
      ≡ refused_count (answers_from head p (steps_of xs)) + refused_count ((outcome head (session_after head p (steps_of xs)) a.step).answer ∷ [])
  refused_more p xs a =
      ap (λ ss. refused_count (answers_from head p ss)) (steps-append xs (a ∷ []))
      ∙ (ap refused_count (answers_from-append head p (steps_of xs) (a.step ∷ []))
      ∙ refused_append (answers_from head p (steps_of xs)) ((outcome head (session_after head p (steps_of xs)) a.step).answer ∷ []))

pub caches_more : (xs : List Asked) (a : Asked) → ConfirmAllCaches xs → HasAllCaches a.confirmed → ConfirmAllCaches (xs ++ a ∷ [])
caches_more [] a h k = (k, tt)
caches_more (x ∷ xs) a h k = (h.0, caches_more xs a h.1 k)
