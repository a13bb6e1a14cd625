-- Viewers are numbered by their joins: those who are present have numbers from 1 to the count of joins, and no one has the number of a later join.
use Rattle.std.proofs.Common.{◌≡◌, ℕ, ◌+◌, ◌<◌, ◌≤◌, List, [], ◌∷◌, ◌++◌, refl, ap, sym, subst, arith, Some, None}
use Rattle.std.specs.Prelude.{Bool, true, false, ◌==◌, ⊤, Option, is_some, option_map, find, if◌then◌else◌}
use Rattle.std.proofs.lemmas.Bool.Decides.{nat_tests}
use Rattle.session_rules.specs.declared.entry.Role.{Role}
use Rattle.session_rules.specs.declared.entry.Entry.{Entry}
use Rattle.session_rules.specs.declared.entry.Entry.TheVariants.{Join, Leave, Give, Input, Draw}
use Rattle.input_pdu.specs.declared.event.Event.{Event}
use Rattle.session_rules.specs.Journal.{Head, Viewer, Reached, Refusal, is_present, without_viewer, viewers_after, reached_after_entry, refusal_of, is_f12}
use Rattle.session_rules.specs.Steps.{Step, Answer, Play, Effect, Outcome, entered, outcome_of, effect_of, outcome, join_effect, row_role, input_effect}
use Rattle.session_rules.specs.Steps.{is_release, receiver_of, has_work, take_effect, take_in, take_of}
use Rattle.session_rules.specs.Steps.Step.{JoinStep, LeaveStep, InputStep, DrawStep, RefreshStep, SuppressStep, TakeStep}
use Rattle.session_rules.specs.Steps.Answer.{Joined, Left, Accepted}
use Rattle.session_rules.specs.Steps.Effect.{Enters, Asks, Suppresses, Takes, Answers}
use Rattle.headline.specs.Headline.{is_by_present_viewer}

-- numbers from 1 up to one
abbrev pub AreNumbered : ℕ → List Viewer → Type 0
AreNumbered n [] = ⊤
AreNumbered n (x ∷ xs) = (0 < x.number) × (x.number ≤ n) × AreNumbered n xs

numbered_more : (m n : ℕ) (xs : List Viewer) → m ≤ n → AreNumbered m xs → AreNumbered n xs
numbered_more m n [] up h = tt
numbered_more m n (x ∷ xs) up h = let below = h.1 in (h.0, omega (arith, below, up), numbered_more m n xs up h.2)

numbered_append : (n : ℕ) (xs ys : List Viewer) → AreNumbered n xs → AreNumbered n ys → AreNumbered n (xs ++ ys)
numbered_append n [] ys h k = k
numbered_append n (x ∷ xs) ys h k = (h.0, h.1, numbered_append n xs ys h.2 k)

numbered_without : (n v : ℕ) (xs : List Viewer) → AreNumbered n xs → AreNumbered n (without_viewer v xs)
numbered_without n v [] h = tt
numbered_without n v (x ∷ xs) h = by (x.number == v) (numbered_without n v xs h.2)
  where
    by : (b : Bool) → AreNumbered n (without_viewer v xs) → AreNumbered n (if b then xs else x ∷ without_viewer v xs)
    by true rest = h.2
    by false rest = (h.0, h.1, rest)

same_number : (a b : ℕ) → (a == b) ≡ true → a ≡ b
same_number a b h = grind (arith, nat_tests, h)

-- a present viewer's number
pub present_numbered : (n u : ℕ) (xs : List Viewer) → AreNumbered n xs → is_present u xs ≡ true → (0 < u) × (u ≤ n)
present_numbered n u [] h p = absurd (cc p)
present_numbered n u (x ∷ xs) h p = by (x.number == u) refl p (λ q. present_numbered n u xs h.2 q)
  where
    by : (b : Bool) → (x.number == u) ≡ b → is_some (option_map (λ y. y.role) (if b then Some x else find (λ y. y.number == u) xs)) ≡ true
        → (is_some (option_map (λ y. y.role) (find (λ y. y.number == u) xs)) ≡ true → (0 < u) × (u ≤ n)) → (0 < u) × (u ≤ n)
    by true e q rest = let same = same_number x.number u e in let some = h.0 in let most = h.1 in (omega (arith, same, some), omega (arith, same, most))
    by false e q rest = rest q

-- ---- the count of joins

-- what a step leaves: viewers numbered by the count of joins, which never falls
pub record Joins (p : Play) (o : Outcome) : Type 0 where
  pub numbered : AreNumbered o.play.reached.joins o.play.reached.viewers
  pub more : p.reached.joins ≤ o.play.reached.joins

module _ (head : Head) (p : Play) (h : AreNumbered p.reached.joins p.reached.viewers) where
  same_joins : (o : Outcome) → o.play.reached ≡ p.reached → Joins p o
  same_joins o e = record {
    numbered = subst (λ (r : Reached). AreNumbered r.joins r.viewers) (sym e) h;
    more = let n = ap (λ (r : Reached). r.joins) e in omega
        (arith, n);
  }

  -- an entry that is no join
  kept : (answer : Answer) (e : Entry) → (reached_after_entry head.size p.reached e).joins ≡ p.reached.joins
      → AreNumbered p.reached.joins (viewers_after p.reached.viewers e) → (r : Option Refusal) → Joins p (entered head p e answer r)
  kept answer e count viewers None = record {
    numbered = subst (λ n. AreNumbered n (viewers_after p.reached.viewers e)) (sym count) viewers;
    more = omega
        (arith, count);
  }
  kept answer e count viewers (Some q) = record { numbered = h; more = omega arith }

  -- a join has the next number
  next_join : (role : Role) (r : Option Refusal) → Joins p (entered head p (Join (p.reached.joins + 1) role) (Joined (p.reached.joins + 1)) r)
  next_join role None = record {
    numbered = numbered_append (p.reached.joins + 1) p.reached.viewers (record { number = p.reached.joins + 1; role = role } ∷ [])
        (numbered_more p.reached.joins (p.reached.joins + 1) p.reached.viewers (omega arith) h)
        (omega arith, omega arith, tt);
    more = omega arith;
  }
  next_join role (Some q) = record { numbered = h; more = omega arith }

  no_change : (count : ℕ) → count + 0 ≡ count
  no_change count = omega arith

  input_joins : (u : ℕ) (e : Event) → Joins p (outcome_of head p (input_effect p u e))
  input_joins u e = by (is_f12 e) (is_release e)
    where
      by : (b r : Bool) → Joins p (outcome_of head p
          (if b then (if r then Answers Accepted else Enters (Give u (receiver_of p.reached u)) Accepted) else Enters (Input u e) Accepted))
      by true true = same_joins _ refl
      by true false = kept Accepted (Give u (receiver_of p.reached u)) (no_change p.reached.joins) h
          (refusal_of head p.reached (Give u (receiver_of p.reached u)))
      by false r = kept Accepted (Input u e) (no_change p.reached.joins) h (refusal_of head p.reached (Input u e))

  join_joins : (o : Option Role) → Joins p (outcome_of head p (join_effect p o))
  join_joins None = same_joins _ refl
  join_joins (Some role) = next_join role (refusal_of head p.reached (Join (p.reached.joins + 1) role))

  take_joins : (b : Bool) (u : ℕ) → Joins p (outcome_of head p (take_effect b u))
  take_joins true u = same_joins _ refl
  take_joins false u = same_joins _ refl

  pub step_joins : (s : Step) → Joins p (outcome head p s)
  step_joins (JoinStep name) = join_joins (row_role name head.rows)
  step_joins (LeaveStep u) = kept Left (Leave u) (no_change p.reached.joins) (numbered_without p.reached.joins u p.reached.viewers h)
      (refusal_of head p.reached (Leave u))
  step_joins (InputStep u e) = input_joins u e
  step_joins (DrawStep u d) = kept Accepted (Draw u d) (no_change p.reached.joins) h (refusal_of head p.reached (Draw u d))
  step_joins (RefreshStep u r) = same_joins _ refl
  step_joins (SuppressStep u stop) = same_joins _ refl
  step_joins (TakeStep u) = take_joins (has_work head.size p u) u

-- ---- who takes

pub no_take : (head : Head) (p : Play) (v : ℕ) (o : Option Role) → take_in v p (join_effect p o) ≡ []
no_take head p v None = refl
no_take head p v (Some role) = refl

pub input_takes_none : (p : Play) (v u : ℕ) (e : Event) → take_in v p (input_effect p u e) ≡ []
input_takes_none p v u e = by (is_f12 e) (is_release e)
  where
    by : (b r : Bool) → take_in v p (if b then (if r then Answers Accepted else Enters (Give u (receiver_of p.reached u)) Accepted) else Enters
        (Input u e) Accepted) ≡ []
    by true true = refl
    by true false = refl
    by false r = refl

others_take : (p : Play) (v u : ℕ) (b : Bool) → (u == v) ≡ false → take_in v p (take_effect b u) ≡ []
others_take p v u true e = ap (λ t. if t then take_of p v ∷ [] else []) e
others_take p v u false e = refl

-- a number that no present viewer has takes nothing
pub takes_none : (head : Head) (p : Play) (v : ℕ) (s : Step) → ((u : ℕ) → is_present u p.reached.viewers ≡ true → (u == v) ≡ false)
    → is_by_present_viewer p s ≡ true
    → take_in v p (effect_of head p s) ≡ []
takes_none head p v (JoinStep name) apart by = no_take head p v (row_role name head.rows)
takes_none head p v (LeaveStep u) apart by = refl
takes_none head p v (InputStep u e) apart by = input_takes_none p v u e
takes_none head p v (DrawStep u d) apart by = refl
takes_none head p v (RefreshStep u r) apart by = refl
takes_none head p v (SuppressStep u stop) apart by = refl
takes_none head p v (TakeStep u) apart by = others_take p v u (has_work head.size p u) (apart u by)

-- where a viewer takes nothing, its number stays
pub taken_stays : (head : Head) (p : Play) (v : ℕ) (f : Effect) → take_in v p f ≡ [] → (outcome_of head p f).play.taken v ≡ p.taken v
taken_stays head p v (Enters e a) none = by (refusal_of head p.reached e)
  where
    by : (o : Option Refusal) → (entered head p e a o).play.taken v ≡ p.taken v
    by None = refl
    by (Some q) = refl
taken_stays head p v (Asks u tiles) none = refl
taken_stays head p v (Suppresses u stop) none = refl
taken_stays head p v (Takes u) none = by (u == v) none
  where
    by : (b : Bool) → (if b then take_of p v ∷ [] else []) ≡ [] → (if b then p.reached.length else p.taken v) ≡ p.taken v
    by true h = absurd (cc h)
    by false h = refl
taken_stays head p v (Answers a) none = refl
