-- Journals of steps: they are legal, and go on as their steps go on.
use Rattle.std.proofs.Common.{◌≡◌, ℕ, ◌+◌, ◌≤◌, List, [], ◌∷◌, ◌++◌, refl, ap, sym, ◌∙◌, Some, None, length, append_assoc, arith}
use Rattle.std.proofs.lemmas.List.{take-append-le}
use Rattle.std.specs.Prelude.{Bool, true, false, ◌&&◌, is_none, Option, IsTrue, option_to_list}
use Rattle.std.proofs.lemmas.Bool.{and_from}
use Rattle.px_core.specs.declared.surface.Size.{Size}
use Rattle.session_rules.specs.declared.entry.Entry.{Entry}
use Rattle.session_rules.specs.Journal.{Head, Reached, Refusal, reached_at_first, reached_after_entry, reached_after, reached_at, are_legal_after, IsLegalJournal, refusal_of}
use Rattle.session_rules.specs.Steps.{Step, Answer, Play, Effect, play_at_first, entered, outcome_of, effect_of, outcome, session_after, entries_from, answers_from, journal_of_steps}
use Rattle.session_rules.specs.Steps.Effect.{Enters, Asks, Suppresses, Takes, Answers}

pub reached_after-append : (size : Size) (r : Reached) (xs ys : List Entry) → reached_after size r (xs ++ ys) ≡ reached_after size (reached_after size r xs) ys
reached_after-append size r [] ys = refl
reached_after-append size r (x ∷ xs) ys = reached_after-append size (reached_after_entry size r x) xs ys

pub length-reached_after : (size : Size) (r : Reached) (es : List Entry) → (reached_after size r es).length ≡ r.length + length es
length-reached_after size r [] = omega arith
length-reached_after size r (e ∷ es) = length-reached_after size (reached_after_entry size r e) es ∙ omega arith

-- ---- the journal of any steps is legal

legal_entered : (head : Head) (p : Play) (e : Entry) (a : Answer) (o : Option Refusal) (rest : List Entry) → refusal_of head p.reached e ≡ o
    → IsTrue (are_legal_after head (entered head p e a o).play.reached rest) → IsTrue (are_legal_after head p.reached (option_to_list (entered head p e a o).entry ++ rest))
legal_entered head p e a None rest eq h = and_from _ _ (ap is_none eq) h
legal_entered head p e a (Some q) rest eq h = h

legal_effect : (head : Head) (p : Play) (f : Effect) (rest : List Entry)
    → IsTrue (are_legal_after head (outcome_of head p f).play.reached rest) → IsTrue (are_legal_after head p.reached (option_to_list (outcome_of head p f).entry ++ rest))
legal_effect head p (Enters e a) rest h = legal_entered head p e a (refusal_of head p.reached e) rest refl h
legal_effect head p (Asks v t) rest h = h
legal_effect head p (Suppresses v b) rest h = h
legal_effect head p (Takes v) rest h = h
legal_effect head p (Answers a) rest h = h

pub are_legal_after-entries_from : (head : Head) (p : Play) (steps : List Step) → IsTrue (are_legal_after head p.reached (entries_from head p steps))
are_legal_after-entries_from head p [] = refl
are_legal_after-entries_from head p (s ∷ ss) =
    legal_effect head p (effect_of head p s) (entries_from head (outcome head p s).play ss) (are_legal_after-entries_from head (outcome head p s).play ss)

pub IsLegalJournal-journal_of_steps : (head : Head) (steps : List Step) → IsLegalJournal head (journal_of_steps head steps)
IsLegalJournal-journal_of_steps head steps = are_legal_after-entries_from head (play_at_first head.size) steps

-- ---- what a session has reached is what its journal reaches

reached-outcome_of : (head : Head) (p : Play) (f : Effect) → (outcome_of head p f).play.reached ≡ reached_after head.size p.reached (option_to_list (outcome_of head p f).entry)
reached-outcome_of head p (Enters e a) = by (refusal_of head p.reached e)
  where
    by : (o : Option Refusal) → (entered head p e a o).play.reached ≡ reached_after head.size p.reached (option_to_list (entered head p e a o).entry)
    by None = refl
    by (Some q) = refl
reached-outcome_of head p (Asks v t) = refl
reached-outcome_of head p (Suppresses v b) = refl
reached-outcome_of head p (Takes v) = refl
reached-outcome_of head p (Answers a) = refl

pub reached-session_after : (head : Head) (p : Play) (steps : List Step) → (session_after head p steps).reached ≡ reached_after head.size p.reached (entries_from head p steps)
reached-session_after head p [] = refl
reached-session_after head p (s ∷ ss) = reached-session_after head (outcome head p s).play ss
    ∙ ap (λ r. reached_after head.size r (entries_from head (outcome head p s).play ss)) (reached-outcome_of head p (effect_of head p s))
    ∙ sym (reached_after-append head.size p.reached (option_to_list (outcome head p s).entry) (entries_from head (outcome head p s).play ss))

-- ---- steps after steps

pub session_after-append : (head : Head) (p : Play) (xs ys : List Step) → session_after head p (xs ++ ys) ≡ session_after head (session_after head p xs) ys
session_after-append head p [] ys = refl
session_after-append head p (x ∷ xs) ys = session_after-append head (outcome head p x).play xs ys

pub entries_from-append : (head : Head) (p : Play) (xs ys : List Step) → entries_from head p (xs ++ ys) ≡ entries_from head p xs ++ entries_from head (session_after head p xs) ys
entries_from-append head p [] ys = refl
entries_from-append head p (x ∷ xs) ys = ap (λ es. option_to_list (outcome head p x).entry ++ es) (entries_from-append head (outcome head p x).play xs ys)
    ∙ sym (append_assoc (option_to_list (outcome head p x).entry) _ _)

pub answers_from-append : (head : Head) (p : Play) (xs ys : List Step) → answers_from head p (xs ++ ys) ≡ answers_from head p xs ++ answers_from head (session_after head p xs) ys
answers_from-append head p [] ys = refl
answers_from-append head p (x ∷ xs) ys = ap (λ rest. (outcome head p x).answer ∷ rest) (answers_from-append head (outcome head p x).play xs ys)

-- ---- a journal that goes on

pub reached_at-append : (size : Size) (j more : List Entry) (n : ℕ) → n ≤ length j → reached_at size (j ++ more) n ≡ reached_at size j n
reached_at-append size j more n below = ap (reached_after size (reached_at_first size)) (take-append-le n j more below)

and_mapped : (a b c : Bool) → IsTrue (a && b) → (IsTrue b → IsTrue c) → IsTrue (a && c)
and_mapped true b c h f = f h
and_mapped false b c h f = h

are_legal_after-front : (head : Head) (r : Reached) (xs ys : List Entry) → IsTrue (are_legal_after head r (xs ++ ys)) → IsTrue (are_legal_after head r xs)
are_legal_after-front head r [] ys h = refl
are_legal_after-front head r (x ∷ xs) ys h = and_mapped (is_none (refusal_of head r x)) _ _ h (are_legal_after-front head (reached_after_entry head.size r x) xs ys)

-- the front of a legal journal is legal
pub IsLegalJournal-front : (head : Head) (j more : List Entry) → IsLegalJournal head (j ++ more) → IsLegalJournal head j
IsLegalJournal-front head j more h = are_legal_after-front head (reached_at_first head.size) j more h

are_legal_after-append : (head : Head) (r : Reached) (xs ys : List Entry)
    → IsTrue (are_legal_after head r xs) → IsTrue (are_legal_after head (reached_after head.size r xs) ys) → IsTrue (are_legal_after head r (xs ++ ys))
are_legal_after-append head r [] ys h k = k
are_legal_after-append head r (x ∷ xs) ys h k =
    and_mapped (is_none (refusal_of head r x)) _ _ h (λ m. are_legal_after-append head (reached_after_entry head.size r x) xs ys m k)

-- a legal journal and an entry that is legal after it are a legal journal
pub IsLegalJournal-push : (head : Head) (j : List Entry) (e : Entry) → IsLegalJournal head j → refusal_of head (reached_after head.size (reached_at_first head.size) j) e ≡ None → IsLegalJournal head (j ++ e ∷ [])
IsLegalJournal-push head j e h k = are_legal_after-append head (reached_at_first head.size) j (e ∷ []) h (and_from _ _ (ap is_none k) refl)
