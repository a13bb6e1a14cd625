-- Viewers are numbered by their joins, of which a session has at most 65,535.
use Rattle.std.proofs.Common.{◌≡◌, ℕ, ◌+◌, ◌<◌, ◌≤◌, List, [], ◌∷◌, ◌++◌, refl, arith, Some, None, Bool, true, false}
use Rattle.std.specs.Prelude.{◌==◌, nat_lt, ⊤, ◌&&◌, Option, is_some, option_map, find, length, if◌then◌else◌}
use Rattle.std.proofs.lemmas.Bool.Decides.{nat_tests}
use Rattle.px_core.specs.declared.surface.Size.{Size}
use Rattle.draw_ops.specs.Fits.{first_some}
use Rattle.session_rules.specs.declared.entry.Role.{Role}
use Rattle.session_rules.specs.declared.entry.Entry.{Entry}
use Rattle.session_rules.specs.declared.entry.Entry.TheVariants.{Join, Leave, Give, Input, Draw}
use Rattle.input_pdu.specs.declared.event.Event.{Event}
use Rattle.session_rules.specs.Journal.{Head, Viewer, Reached, Refusal, is_present, without_viewer, viewers_after, reached_at_first, reached_after_entry}
use Rattle.session_rules.specs.Journal.{refusal_of, is_f12, has_role, unless, is_entry_in_range, most_viewers, most_joins}
use Rattle.session_rules.specs.Journal.Refusal.{RoomFull, JoinsSpent, Unfit}
use Rattle.session_rules.specs.Steps.{Step, Answer, Play, entered, outcome_of, outcome, join_effect, row_role, input_effect, is_release, receiver_of, has_work}
use Rattle.session_rules.specs.Steps.{take_effect}
use Rattle.session_rules.specs.Steps.Step.{JoinStep, LeaveStep, InputStep, DrawStep, RefreshStep, SuppressStep, TakeStep}
use Rattle.session_rules.specs.Steps.Answer.{Joined, Left, Accepted}
use Rattle.session_rules.specs.Steps.Effect.{Enters, Answers}

-- numbers from 1 to the most joins
abbrev pub AreNumbered : List Viewer → Type 0
AreNumbered [] = ⊤
AreNumbered (x ∷ xs) = (0 < x.number) × (x.number ≤ most_joins) × AreNumbered xs

numbered_append : (xs ys : List Viewer) → AreNumbered xs → AreNumbered ys → AreNumbered (xs ++ ys)
numbered_append [] ys h k = k
numbered_append (x ∷ xs) ys h k = (h.0, h.1, numbered_append xs ys h.2 k)

numbered_without : (v : ℕ) (xs : List Viewer) → AreNumbered xs → AreNumbered (without_viewer v xs)
numbered_without v [] h = tt
numbered_without v (x ∷ xs) h = by (x.number == v) (numbered_without v xs h.2)
  where
    by : (b : Bool) → AreNumbered (without_viewer v xs) → AreNumbered (if b then xs else x ∷ without_viewer v xs)
    by true rest = h.2
    by false rest = (h.0, h.1, rest)

same_number : (a b : ℕ) → (a == b) ≡ true → a ≡ b
same_number a b h = grind (arith, nat_tests, h)

-- a present viewer's number
pub present_is_numbered : (u : ℕ) (xs : List Viewer) → AreNumbered xs → is_present u xs ≡ true → (0 < u) × (u ≤ most_joins)
present_is_numbered u [] h p = absurd (cc p)
present_is_numbered u (x ∷ xs) h p = by (x.number == u) refl p (λ q. present_is_numbered u xs h.2 q)
  where
    by : (b : Bool) → (x.number == u) ≡ b → is_some (option_map (λ y. y.role) (if b then Some x else find (λ y. y.number == u) xs)) ≡ true
        → (is_some (option_map (λ y. y.role) (find (λ y. y.number == u) xs)) ≡ true → (0 < u) × (u ≤ most_joins)) → (0 < u) × (u ≤ most_joins)
    by true e q rest =
        let same = same_number x.number u e in
        let some = h.0 in
        let most = h.1 in
        (omega (arith, same, some), omega (arith, same, most))
    by false e q rest = rest q

-- ---- a session's viewers

pub record IsNumbered (r : Reached) : Type 0 where
  pub viewers : AreNumbered r.viewers
  pub joins : r.joins ≤ most_joins

pub numbered_at_first : (size : Size) → IsNumbered (reached_at_first size)
numbered_at_first size = record { viewers = tt; joins = omega arith }

-- what the tests of a join leave
room_for_joins : (a b c d : Bool) → first_some (unless a Unfit ∷ unless b Unfit ∷ unless c RoomFull ∷ unless d JoinsSpent ∷ []) ≡ None → d ≡ true
room_for_joins a b c true e = refl
room_for_joins true true true false e = absurd (cc e)
room_for_joins true true false false e = absurd (cc e)
room_for_joins true false c false e = absurd (cc e)
room_for_joins false b c false e = absurd (cc e)

module _ (head : Head) (p : Play) (h : IsNumbered p.reached) where
  fewer_joins : (role : Role) → refusal_of head p.reached (Join (p.reached.joins + 1) role) ≡ None → p.reached.joins < most_joins
  fewer_joins role e =
      let room = room_for_joins (is_entry_in_range (Join (p.reached.joins + 1) role)) (has_role role head.rows && (p.reached.joins + 1 == p.reached.joins + 1))
      (nat_lt (length p.reached.viewers) most_viewers) (nat_lt p.reached.joins most_joins) e in
      grind (arith, nat_tests, room)

  -- an entry that is no join
  kept : (answer : Answer) (e : Entry) → AreNumbered (viewers_after p.reached.viewers e)
      → (reached_after_entry head.size p.reached e).joins ≡ p.reached.joins + 0
      → (r : Option Refusal) → IsNumbered (entered head p e answer r).play.reached
  kept answer e viewers count None = record { viewers = viewers; joins = let most = h.joins in omega (arith, count, most) }
  kept answer e viewers count (Some q) = h

  next_join : (role : Role) (r : Option Refusal) → refusal_of head p.reached (Join (p.reached.joins + 1) role) ≡ r
      → IsNumbered (entered head p (Join (p.reached.joins + 1) role) (Joined (p.reached.joins + 1)) r).play.reached
  next_join role None e = let fewer = fewer_joins role e in record {
    viewers = numbered_append p.reached.viewers (record { number = p.reached.joins + 1; role = role } ∷ []) h.viewers (omega arith, omega (arith, fewer), tt);
    joins = omega (arith, fewer);
  }
  next_join role (Some q) e = h

  input_keeps : (u : ℕ) (e : Event) → IsNumbered (outcome_of head p (input_effect p u e)).play.reached
  input_keeps u e = by (is_f12 e) (is_release e)
    where
      by : (b r : Bool) → IsNumbered (outcome_of head p
          (if b then (if r then Answers Accepted else Enters (Give u (receiver_of p.reached u)) Accepted) else Enters (Input u e) Accepted)).play.reached
      by true true = h
      by true false = kept Accepted (Give u (receiver_of p.reached u)) h.viewers refl (refusal_of head p.reached (Give u (receiver_of p.reached u)))
      by false r = kept Accepted (Input u e) h.viewers refl (refusal_of head p.reached (Input u e))

  join_keeps : (o : Option Role) → IsNumbered (outcome_of head p (join_effect p o)).play.reached
  join_keeps None = h
  join_keeps (Some role) = next_join role (refusal_of head p.reached (Join (p.reached.joins + 1) role)) refl

  take_keeps : (b : Bool) (u : ℕ) → IsNumbered (outcome_of head p (take_effect b u)).play.reached
  take_keeps true u = h
  take_keeps false u = h

  pub step_keeps_numbers : (s : Step) → IsNumbered (outcome head p s).play.reached
  step_keeps_numbers (JoinStep name) = join_keeps (row_role name head.rows)
  step_keeps_numbers (LeaveStep u) = kept Left (Leave u) (numbered_without u p.reached.viewers h.viewers) refl (refusal_of head p.reached (Leave u))
  step_keeps_numbers (InputStep u e) = input_keeps u e
  step_keeps_numbers (DrawStep u d) = kept Accepted (Draw u d) h.viewers refl (refusal_of head p.reached (Draw u d))
  step_keeps_numbers (RefreshStep u r) = h
  step_keeps_numbers (SuppressStep u stop) = h
  step_keeps_numbers (TakeStep u) = take_keeps (has_work head.size p u) u
