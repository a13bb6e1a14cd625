-- The line of a step is that of its answer.
use Rattle.std.proofs.Common.{◌≡◌, ℕ, List, ◌++◌, refl, ap, sym, ◌∙◌, subst, append-nil}
use Rattle.std.specs.Prelude.{Option, Some, option_to_list}
use Rattle.px_core.specs.declared.surface.Size.{Size}
use Rattle.session_rules.specs.declared.entry.Entry.{Entry}
use Rattle.session_rules.specs.Steps.{Answer}
use Rattle.session_rules.specs.Steps.Answer.{Joined, Left, Accepted, Refused, Nothing}
use Rattle.session_core.specs.Outcomes.{IsAnswered, GoesOn}
use Rattle.script_rules.specs.Script.{Asked}
use Rattle.script_rules.specs.Capture.{answer_line, viewer_of}
use Rattle.script_lines.specs.Answers.{refusal_of}
use Rattle.script_run.specs.declared.answer.StepAnswer.{StepAnswer}
use Rattle.script_run.specs.declared.answer.StepAnswer.TheVariants as says
use Rattle.script_run.specs.Answers.{answer_text, answer_of, IsVerdict, Says}

-- the answer's text is the line of the session's answer
pub line_plain : (size : Size) (a : Asked) (s : StepAnswer) (answer : Answer) (frame : List ℕ) → answer_of s ≡ Some answer
    → answer_text size (viewer_of a.step) a.preset s ≡ answer_line size a answer frame
line_plain size a s answer frame h = by s h
  where
    by : (s : StepAnswer) → answer_of s ≡ Some answer → answer_text size (viewer_of a.step) a.preset s ≡ answer_line size a answer frame
    by (says.Joined u) k = let is : Joined u ≡ answer = cc k in ap (λ x. answer_line size a x frame) is
    by says.Left k = let is : Left ≡ answer = cc k in ap (λ x. answer_line size a x frame) is
    by says.Accepted k = let is : Accepted ≡ answer = cc k in ap (λ x. answer_line size a x frame) is
    by (says.Refused cause) k = let is : Refused (refusal_of cause) ≡ answer = cc k in ap (λ x. answer_line size a x frame) is
    by says.Nothing k = let is : Nothing ≡ answer = cc k in ap (λ x. answer_line size a x frame) is
    by (says.Frame bytes) k = absurd (cc k)

-- an answer that is no frame says the session's answer
pub plain_says : (s : StepAnswer) (answer : Answer) (frame : List ℕ) → answer_of s ≡ Some answer → Says s answer frame
plain_says (says.Joined u) answer frame k = let is : Joined u ≡ answer = cc k in sym is
plain_says says.Left answer frame k = let is : Left ≡ answer = cc k in sym is
plain_says says.Accepted answer frame k = let is : Accepted ≡ answer = cc k in sym is
plain_says (says.Refused cause) answer frame k = let is : Refused (refusal_of cause) ≡ answer = cc k in sym is
plain_says says.Nothing answer frame k = let is : Nothing ≡ answer = cc k in sym is
plain_says (says.Frame bytes) answer frame k = absurd (cc k)

-- a verdict has no preset words
pub verdict_text : (size : Size) (v : ℕ) (preset other : List (List ℕ)) (s : StepAnswer) → IsVerdict s → answer_text size v preset s ≡ answer_text size v other s
verdict_text size v preset other (says.Joined u) h = absurd h
verdict_text size v preset other says.Left h = absurd h
verdict_text size v preset other says.Accepted h = refl
verdict_text size v preset other (says.Refused cause) h = refl
verdict_text size v preset other says.Nothing h = absurd h
verdict_text size v preset other (says.Frame bytes) h = absurd h

-- after a verdict the journal has the step's entry, if it has one
pub verdict_journal : (s : StepAnswer) (given : Option Answer) (entry : Option Entry) (old new : List Entry) → IsVerdict s → answer_of s ≡ given → GoesOn given entry old new
    → new ≡ old ++ option_to_list entry
verdict_journal s given entry old new plain is h = by s plain (subst (λ g. GoesOn g entry old new) (sym is) h)
  where
    by : (s : StepAnswer) → IsVerdict s → GoesOn (answer_of s) entry old new → new ≡ old ++ option_to_list entry
    by (says.Joined u) p k = absurd p
    by says.Left p k = absurd p
    by says.Accepted p k = k
    by (says.Refused cause) p k = k.0 ∙ sym (append-nil old) ∙ ap (λ o. old ++ option_to_list o) (sym k.1)
    by says.Nothing p k = absurd p
    by (says.Frame bytes) p k = absurd p

-- what is answered, where something is
pub answered : (s : StepAnswer) (given : Option Answer) (answer : Answer) → IsVerdict s → answer_of s ≡ given → IsAnswered given answer → answer_of s ≡ Some answer
answered s given answer plain is h = by s plain (subst (λ g. IsAnswered g answer) (sym is) h)
  where
    by : (s : StepAnswer) → IsVerdict s → IsAnswered (answer_of s) answer → answer_of s ≡ Some answer
    by (says.Joined u) p k = absurd p
    by says.Left p k = absurd p
    by says.Accepted p k = ap Some k
    by (says.Refused cause) p k = ap Some k
    by says.Nothing p k = absurd p
    by (says.Frame bytes) p k = absurd p
