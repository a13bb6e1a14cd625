-- A packet is answered by what is read of it.
use Rattle.std.proofs.Common.{◌≡◌, ℕ, List, ap, sym, subst}
use Rattle.std.specs.Prelude.{Result, Ok, Err, None, []}
use Rattle.wire_num.specs.Field.{Read, place_in}
use Rattle.wire_num.specs.FieldValue.{placed}
use Rattle.viewer_rules.specs.declared.stage.Stage.{Stage}
use Rattle.viewer_rules.specs.ViewerHandshake.{Answered, answering, by}
use Rattle.viewer_wire.specs.declared.answer.Answer.{Answer}
use Rattle.viewer_wire.specs.declared.answer.AnswerFault.{AnswerFault}
use Rattle.viewer_wire.specs.declared.answer.AnswerFault.TheVariants.{Refused}
use Rattle.viewer_wire.specs.Reads.{with_text, Answers}

by_ok : (p : List ℕ) (r : Read (List ℕ)) (f : List ℕ → Answered) (vs : List ℕ) → placed (λ at. at) p r ≡ Ok vs → by p r f ≡ Ok (f vs)
by_ok p (Ok v) f vs e = let same : v.0 ≡ vs = cc in ap (λ (xs : List ℕ). Ok (f xs)) same
by_ok p (Err left) f vs e = absurd (let h : ⊥ = cc in h)

by_err : (p : List ℕ) (r : Read (List ℕ)) (f : List ℕ → Answered) (n : ℕ) → placed (λ at. at) p r ≡ Err n → by p r f ≡ Err n
by_err p (Ok v) f n e = absurd (let h : ⊥ = cc in h)
by_err p (Err left) f n e = let same : place_in p left ≡ n = cc in ap Err same

pub answered_ok : (p : List ℕ) (r : Read (List ℕ)) (f : List ℕ → Answered) (vs : List ℕ) (result : Result Answer AnswerFault) (text : List ℕ) → placed (λ at. at) p r ≡ Ok vs
    → Answers result text (Ok (f vs)) → Answers result text (by p r f)
answered_ok p r f vs result text e h = subst (Answers result text) (sym (by_ok p r f vs e)) h

pub answered_err : (p : List ℕ) (r : Read (List ℕ)) (f : List ℕ → Answered) (n : ℕ) (text : List ℕ) → placed (λ at. at) p r ≡ Err n → Answers (Err (Refused n)) text (by p r f)
answered_err p r f n text e = by_err p r f n e

abbrev pub awaits : Stage → Answer
awaits next = record { next = next; size = None }

-- nothing is sent
pub quiet : (next : Stage) (a : Answer) → a ≡ awaits next → Answers (Ok a) [] (Ok (answering [] next))
quiet next a e =
    let same : answering [] next ≡ with_text [] a = ap (λ (x : Answer). with_text [] x) (sym e) in
    ap Ok same
