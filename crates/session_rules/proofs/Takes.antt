-- The takes of a viewer follow each other, and none passes the journal.
use Rattle.std.proofs.Common.{◌≡◌, ℕ, ◌≤◌, List, [], ◌∷◌, ◌++◌, refl, ap, sym, ◌∙◌, Some, None, length, append_assoc, arith}
use Rattle.std.specs.Prelude.{Bool, true, false, ◌==◌, if◌then◌else◌, Option}
use Rattle.session_rules.specs.Journal.{Head, Refusal, reached_at_first, refusal_of}
use Rattle.session_rules.specs.Steps.{Step, TakeOf, Play, Effect, play_at_first, entered, outcome_of, effect_of, outcome, session_after, takes_from, takes_of, take_in, take_of, journal_of_steps, TakesFollow}
use Rattle.session_rules.specs.Steps.Effect.{Enters, Asks, Suppresses, Takes, Answers}
use Rattle.session_rules.proofs.Journals.{reached-session_after, length-reached_after}

pub takes_from-append : (head : Head) (p : Play) (v : ℕ) (xs ys : List Step) → takes_from head p v (xs ++ ys) ≡ takes_from head p v xs ++ takes_from head (session_after head p xs) v ys
takes_from-append head p v [] ys = refl
takes_from-append head p v (x ∷ xs) ys = ap (λ ts. take_in v p (effect_of head p x) ++ ts) (takes_from-append head (outcome head p x).play v xs ys)
    ∙ sym (append_assoc (take_in v p (effect_of head p x)) _ _)

pub TakesFollow-append : (a b c : ℕ) (xs ys : List TakeOf) → TakesFollow a xs b → TakesFollow b ys c → TakesFollow a (xs ++ ys) c
TakesFollow-append a b c [] ys h k = rw h k
TakesFollow-append a b c (t ∷ ts) ys h k = (h.0, h.1, TakesFollow-append t.number b c ts ys h.2 k)

-- numbers never fall
pub TakesFollow-≤ : (a b : ℕ) (ts : List TakeOf) → TakesFollow a ts b → a ≤ b
TakesFollow-≤ a b [] h = omega (arith, h)
TakesFollow-≤ a b (t ∷ ts) h = omega (arith, h.1, TakesFollow-≤ t.number b ts h.2)

-- no viewer's last take is past the journal
abbrev pub IsBehind : Play → Type 0
IsBehind p = (v : ℕ) → p.taken v ≤ p.reached.length

chosen-≤ : (b : Bool) (n m : ℕ) → m ≤ n → (if b then n else m) ≤ n
chosen-≤ true n m h = omega arith
chosen-≤ false n m h = h

IsBehind-outcome_of : (head : Head) (p : Play) (f : Effect) → IsBehind p → IsBehind (outcome_of head p f).play
IsBehind-outcome_of head p (Enters e a) h v = by (refusal_of head p.reached e)
  where
    by : (o : Option Refusal) → (entered head p e a o).play.taken v ≤ (entered head p e a o).play.reached.length
    by None = omega (arith, h v)
    by (Some q) = h v
IsBehind-outcome_of head p (Asks w t) h v = h v
IsBehind-outcome_of head p (Suppresses w b) h v = h v
IsBehind-outcome_of head p (Takes w) h v = chosen-≤ (w == v) p.reached.length (p.taken v) (h v)
IsBehind-outcome_of head p (Answers a) h v = h v

follow_take : (b : Bool) (p : Play) (v : ℕ) → p.taken v ≤ p.reached.length
    → TakesFollow (p.taken v) (if b then take_of p v ∷ [] else []) (if b then p.reached.length else p.taken v)
follow_take true p v h = (refl, h, refl)
follow_take false p v h = refl

follow_effect : (head : Head) (p : Play) (v : ℕ) (f : Effect) → IsBehind p → TakesFollow (p.taken v) (take_in v p f) ((outcome_of head p f).play.taken v)
follow_effect head p v (Enters e a) h = by (refusal_of head p.reached e)
  where
    by : (o : Option Refusal) → p.taken v ≡ (entered head p e a o).play.taken v
    by None = refl
    by (Some q) = refl
follow_effect head p v (Asks w t) h = refl
follow_effect head p v (Suppresses w b) h = refl
follow_effect head p v (Takes w) h = follow_take (w == v) p v (h v)
follow_effect head p v (Answers a) h = refl

pub IsBehind-session_after : (head : Head) (p : Play) (steps : List Step) → IsBehind p → IsBehind (session_after head p steps)
IsBehind-session_after head p [] h = h
IsBehind-session_after head p (s ∷ ss) h = IsBehind-session_after head (outcome head p s).play ss (IsBehind-outcome_of head p (effect_of head p s) h)

pub TakesFollow-takes_from : (head : Head) (p : Play) (v : ℕ) (steps : List Step) → IsBehind p → TakesFollow (p.taken v) (takes_from head p v steps) ((session_after head p steps).taken v)
TakesFollow-takes_from head p v [] h = refl
TakesFollow-takes_from head p v (s ∷ ss) h =
    TakesFollow-append (p.taken v) ((outcome head p s).play.taken v) _ (take_in v p (effect_of head p s)) _ (follow_effect head p v (effect_of head p s) h)
    (TakesFollow-takes_from head (outcome head p s).play v ss (IsBehind-outcome_of head p (effect_of head p s) h))

-- the takes of a viewer over a whole run
pub TakesFollow-takes_of : (head : Head) (steps : List Step) (v : ℕ) → TakesFollow 0 (takes_of head steps v) ((session_after head (play_at_first head.size) steps).taken v)
TakesFollow-takes_of head steps v = TakesFollow-takes_from head (play_at_first head.size) v steps (λ u. omega arith)

pub taken-≤ : (head : Head) (steps : List Step) (v : ℕ) → (session_after head (play_at_first head.size) steps).taken v ≤ length (journal_of_steps head steps)
taken-≤ head steps v =
    let below = IsBehind-session_after head (play_at_first head.size) steps (λ u. omega arith) v in
    let count = ap (λ r. r.length) (reached-session_after head (play_at_first head.size) steps) ∙ length-reached_after head.size (reached_at_first head.size) (journal_of_steps head steps) in
    omega (arith, below, count)
