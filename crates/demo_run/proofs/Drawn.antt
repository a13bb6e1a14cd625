-- What a step that may be drawn comes to.
use Rattle.std.proofs.Common.{◌≡◌, ℕ, zero, suc, ◌+◌, ◌≤◌, List, [], ◌∷◌, ◌++◌, length, refl, ap, sym, ◌∙◌, subst, arith, Some, None}
use Rattle.std.specs.Prelude.{Bool, ◌&&◌, nat_lt, true, false, ◌==◌, Option, IsTrue, ⊤, find, option_map, if◌then◌else◌}
use Rattle.std.proofs.lemmas.Bool.Decides.{nat_tests}
use Rattle.px_core.specs.Picture.{listed}
use Rattle.caps_sets.specs.declared.confirmed.Confirmed.{Confirmed}
use Rattle.input_pdu.specs.declared.event.Event.{Event}
use Rattle.input_pdu.specs.declared.event.Event.TheVariants.{Scan}
use Rattle.draw_ops.specs.declared.shape.Drawing.{Drawing}
use Rattle.session_rules.specs.declared.entry.Entry.{Entry}
use Rattle.session_rules.specs.declared.entry.Entry.TheVariants.{Give, Draw}
use Rattle.session_rules.specs.Journal.{Head, Viewer, Refusal, least_viewer, first_number, may_hold, next_of, holds, refusal_of, f12}
use Rattle.session_rules.specs.Steps.{Step, Answer, Play, PerViewer, Outcome, TakeOf, entered, outcome_of, outcome, effect_of, take_in, take_of, take_effect, has_work, receiver_of}
use Rattle.session_rules.specs.Steps.Step.{InputStep, DrawStep, TakeStep}
use Rattle.session_rules.specs.Steps.Answer.{Joined, Left, Accepted, Refused, Nothing, Frame}
use Rattle.session_rules.specs.Steps.Effect.{Enters, Takes, Answers}
use Rattle.script_rules.specs.Script.{Asked, without_preset}
use Rattle.script_rules.specs.Capture.{viewer_of}
use Rattle.script_rules.specs.CaptureText.{confirmed_after}
use Rattle.script_lines.specs.declared.step.ViewerStep.{ViewerStep}
use Rattle.script_lines.specs.declared.step.ViewerStep.TheVariants as asks
use Rattle.script_lines.specs.Keywords.{step_of}
use Rattle.demo_run.specs.Scene.{role_of}
use Rattle.demo_run.specs.Asks.{IsViewer, IsDrawn}
use Rattle.demo_run.specs.Standing.{all_viewers}

-- ---- who may hold control next

viewer_at : ℕ → Viewer
viewer_at v = record { number = v; role = role_of v }

abbrev IfFound : Option ℕ → Type 0
IfFound None = ⊤
IfFound (Some v) = IsViewer v

-- whom a test finds among the viewers from a number on is one of them
found : (test : Viewer → Bool) (n i : ℕ) → 1 ≤ i → i + n ≤ 17 → IfFound (least_viewer test (listed n i (λ v. record { number = v; role = role_of v })))
found test zero i low high = tt
found test (suc n) i low high = by (test (record { number = i; role = role_of i })) (found test n (i + 1) (omega (arith, low)) (omega (arith, high)))
  where
    by : (b : Bool) → IfFound (least_viewer test (listed n (i + 1) (λ v. record { number = v; role = role_of v }))) → IfFound (option_map (λ x. x.number) (if b then Some (record { number = i; role = role_of i }) else find test (listed n (i + 1) (λ v. record { number = v; role = role_of v }))))
    by true rest = (low, omega (arith, high))
    by false rest = rest

first_found : (o : Option ℕ) → IfFound o → IsViewer (first_number (o ∷ Some 1 ∷ []))
first_found None h = (omega arith, omega arith)
first_found (Some v) h = h

pub next_is_viewer : (holder : ℕ) → IsViewer (next_of all_viewers holder)
next_is_viewer holder =
    let test : Viewer → Bool = λ x. may_hold x.role && nat_lt holder x.number in
    first_found (least_viewer test all_viewers) (found test 16 1 (omega arith) (omega arith))

-- ---- what a drawn step comes to

-- a frame's worth of an answer
abbrev pub frames_in : Answer → ℕ
frames_in (Joined u) = 0
frames_in Left = 0
frames_in Accepted = 0
frames_in (Refused why) = 0
frames_in Nothing = 0
frames_in (Frame take) = 1

-- the viewers stay, and what they confirmed; one of them holds control; a frame is a take of its viewer
pub record Comes (head : Head) (p : Play) (s : Step) (o : Outcome) : Type 0 where
  pub seated : o.play.reached.viewers ≡ p.reached.viewers
  pub holder : IsViewer o.play.reached.holder
  pub confirmed : (kept : PerViewer Confirmed) (a : Asked) → confirmed_after kept a o.answer ≡ kept
  pub takes : (v : ℕ) → length (take_in v p (effect_of head p s)) ≡ (if viewer_of s == v then frames_in o.answer else 0)

none_or_none : (b : Bool) → ◌≡◌ {A = ℕ} 0 (if b then 0 else 0)
none_or_none true = refl
none_or_none false = refl

module _ (head : Head) (p : Play) where
  give_comes : (v to : ℕ) → effect_of head p (InputStep v (Scan f12 false)) ≡ Enters (Give v to) Accepted → IsViewer p.reached.holder → IsViewer to
      → (r : Option Refusal) → Comes head p (InputStep v (Scan f12 false)) (entered head p (Give v to) Accepted r)
  give_comes v to is holder at None = record { seated = refl; holder = at; confirmed = λ kept a. refl; takes = λ u. none_or_none (v == u) }
  give_comes v to is holder at (Some q) = record { seated = refl; holder = holder; confirmed = λ kept a. refl; takes = λ u. none_or_none (v == u) }

  draw_comes : (v : ℕ) (d : Drawing) → IsViewer p.reached.holder → (r : Option Refusal) → Comes head p (DrawStep v d) (entered head p (Draw v d) Accepted r)
  draw_comes v d holder None = record { seated = refl; holder = holder; confirmed = λ kept a. refl; takes = λ u. none_or_none (v == u) }
  draw_comes v d holder (Some q) = record { seated = refl; holder = holder; confirmed = λ kept a. refl; takes = λ u. none_or_none (v == u) }

  taken : (v u : ℕ) (b : Bool) → length (if b then take_of p u ∷ [] else []) ≡ (if b then 1 else 0)
  taken v u true = refl
  taken v u false = refl

  take_comes : (v : ℕ) → IsViewer p.reached.holder → (work : Bool) → has_work head.size p v ≡ work → Comes head p (TakeStep v) (outcome_of head p (take_effect work v))
  take_comes v holder true e = record {
    seated = refl;
    holder = holder;
    confirmed = λ kept a. refl;
    takes = λ u. ap (λ b. length (take_in u p (take_effect b v))) e ∙ taken v u (v == u);
  }
  take_comes v holder false e = record {
    seated = refl;
    holder = holder;
    confirmed = λ kept a. refl;
    takes = λ u. ap (λ b. length (take_in u p (take_effect b v))) e ∙ none_or_none (v == u);
  }

  received : (v : ℕ) → IsViewer v → p.reached.viewers ≡ all_viewers → IsViewer (receiver_of p.reached v)
  received v at seated = by (holds p.reached v)
    where
      by : (b : Bool) → IsViewer (if b then next_of p.reached.viewers v else v)
      by true = subst (λ vs. IsViewer (next_of vs v)) (sym seated) (next_is_viewer v)
      by false = at

  pub drawn_comes : (v : ℕ) (s : ViewerStep) → IsViewer v → IsDrawn s → p.reached.viewers ≡ all_viewers → IsViewer p.reached.holder
      → Comes head p (step_of v s) (outcome head p (step_of v s))
  drawn_comes v asks.Leave at h seated holder = absurd h
  drawn_comes v asks.Take at h seated holder = take_comes v holder (has_work head.size p v) refl
  drawn_comes v (asks.Suppress stop) at h seated holder = absurd h
  drawn_comes v (asks.Refresh r) at h seated holder = absurd h
  drawn_comes v (asks.Input e) at h seated holder = subst (λ x. Comes head p (InputStep v x) (outcome head p (InputStep v x))) (sym h)
      (give_comes v (receiver_of p.reached v) refl holder (received v at seated) (refusal_of head p.reached (Give v (receiver_of p.reached v))))
  drawn_comes v (asks.Draw d) at h seated holder = draw_comes v d holder (refusal_of head p.reached (Draw v d))
