-- The demonstration in code, over many steps.
use Rattle.std.proofs.Common.{◌≡◌, ℕ, zero, suc, ◌+◌, ◌≤◌, ◌<◌, List, [], ◌∷◌, ◌++◌, length, refl, ap, sym, ◌∙◌, subst, arith, append_assoc, append-nil}
use Rattle.std.specs.Prelude.{Some, None, slice_get}
use Rattle.rand_pcg.specs.Lcg.{Lcg}
use Rattle.px_core.specs.Picture.{listed}
use Rattle.session_rules.specs.Steps.{Step, Play, play_at_first, outcome, session_after}
use Rattle.session_rules.proofs.Journals.{session_after-append}
use Rattle.script_rules.specs.Script.{Asked, without_preset}
use Rattle.script_rules.specs.CaptureText.{run_at_first, encoder_frames}
use Rattle.headline.specs.Headline.{steps_of}
use Rattle.demo_run.specs.Scene.{demo_size, demo_head}
use Rattle.demo_run.specs.Steps.{step_drawn}
use Rattle.demo_run.specs.Load.{play_after, steps_from}
use Rattle.demo_run.specs.declared.demo.Demo.{Demo}
use Rattle.demo_run.specs.Standing.{run_of, Stands, Goes}
use Rattle.demo_run.proofs.Runs.{steps-append, play_is}
use Rattle.demo_run.proofs.Scenes.{listed_more}

-- ---- what is asked one number after the other

-- before the first
pub listed_first : (d : Demo) (f : ℕ → Asked) (i : ℕ) (done : List Asked) → Stands done d → Stands (done ++ listed 0 i f) d
listed_first d f i done s = subst (λ xs. Stands xs d) (sym (append-nil done)) s

-- one more
pub listed_on : (d : Demo) (f : ℕ → Asked) (n i : ℕ) (a : Asked) (done : List Asked) → a ≡ f (i + n) → Stands ((done ++ listed n i f) ++ a ∷ []) d
    → Stands (done ++ listed (n + 1) i f) d
listed_on d f n i a done is s =
    subst (λ xs. Stands xs d) (ap (λ x. (done ++ listed n i f) ++ x ∷ []) is ∙ (append_assoc done (listed n i f) (f (i + n) ∷ []) ∙ ap (λ xs. done ++ xs) (sym (listed_more f n i)))) s

-- so far as it stands for what was asked before, it stands for something
pub goes_on : (old new : Demo) (more : List Asked) → Goes old → ((done : List Asked) → Stands done old → Stands (done ++ more) new) → Goes new
goes_on old new more g so = record { done = g.done ++ more; stands = so g.done g.stands }

-- ---- steps that are drawn

-- what was asked with the steps so far, and the steps ahead
pub record Reaches (done : List Asked) (first : Lcg) (all : ℕ) (left : ℕ) (words : Lcg) (d : Demo) : Type 0 where
  pub now : List Asked
  pub stands : Stands now d
  pub same : done ++ steps_from (play_after done) first all ≡ now ++ steps_from (play_after now) words left

pub reaches_first : (d : Demo) (words : Lcg) (all : ℕ) (done : List Asked) → Stands done d → Reaches done words all all words d
reaches_first d words all done s = record { now = done; stands = s; same = refl }

play_more : (xs : List Asked) (a : Asked) → play_after (xs ++ a ∷ []) ≡ (outcome demo_head (play_after xs) a.step).play
play_more xs a = ap (session_after demo_head (play_at_first demo_size)) (steps-append xs (a ∷ [])) ∙ session_after-append demo_head (play_at_first demo_size) (steps_of xs) (a.step ∷ [])

-- who holds control then
pub holder_then : (now : List Asked) (holder : ℕ) → holder ≡ (run_of now).play.reached.holder → holder ≡ (play_after now).reached.holder
holder_then now holder is = is ∙ ap (λ (p : Play). p.reached.holder) (play_is demo_head (run_at_first encoder_frames demo_size) now)

pub reaches_on : (done : List Asked) (first : Lcg) (all left more : ℕ) (words next : Lcg) (old new : Demo) (holder : ℕ) (step : Step) (r : Reaches done first all left words old)
    → left ≡ more + 1 → holder ≡ (run_of r.now).play.reached.holder → step ≡ (step_drawn holder words).value → next ≡ (step_drawn holder words).after
    → Stands (r.now ++ without_preset step ∷ []) new → Reaches done first all more next new
reaches_on done first all left more words next old new holder step r is holds drawn after s =
    let p = play_after r.now in
    let who = holder_then r.now holder holds in
    let took : step ≡ (step_drawn p.reached.holder words).value = drawn ∙ ap (λ v. (step_drawn v words).value) who in
    let went : next ≡ (step_drawn p.reached.holder words).after = after ∙ ap (λ v. (step_drawn v words).after) who in
    let one_more : left ≡ suc more = omega (arith, is) in
    let here : steps_from p words left ≡ without_preset step ∷ steps_from (play_after (r.now ++ without_preset step ∷ [])) next more =
    ap (steps_from p words) one_more
    ∙ (ap (λ s. without_preset s ∷ steps_from (outcome demo_head p s).play (step_drawn p.reached.holder words).after more) (sym took)
    ∙ (ap (λ g. without_preset step ∷ steps_from (outcome demo_head p step).play g more) (sym went)
    ∙ ap (λ q. without_preset step ∷ steps_from q next more) (sym (play_more r.now (without_preset step))))) in
    record {
      now = r.now ++ without_preset step ∷ [];
      stands = s;
      same = r.same ∙ (ap (λ xs. r.now ++ xs) here
          ∙ sym (append_assoc r.now (without_preset step ∷ []) (steps_from (play_after (r.now ++ without_preset step ∷ [])) next more)));
    }

-- none are left
pub reaches_end : (done : List Asked) (first : Lcg) (all left : ℕ) (words : Lcg) (d : Demo) → left ≡ 0 → Reaches done first all left words d
    → Stands (done ++ steps_from (play_after done) first all) d
reaches_end done first all left words d none r =
    subst (λ xs. Stands xs d) (sym (r.same ∙ (ap (λ n. r.now ++ steps_from (play_after r.now) words n) none ∙ append-nil r.now))) r.stands

-- ---- lists that grow

-- a member of a list with one more at its end
pub pushed_get : {A : Type 0} (xs : List A) (x : A) (P : ℕ → A → Type 0) → ((i : ℕ) (y : A) → slice_get xs i ≡ Some y → P i y) → P (length xs) x
    → (i : ℕ) (y : A) → slice_get (xs ++ x ∷ []) i ≡ Some y → P i y
pushed_get [] x P each last zero y h = let is : x ≡ y = cc h in subst (P 0) is last
pushed_get [] x P each last (suc i) y h = absurd (cc h)
pushed_get (z ∷ xs) x P each last zero y h = each zero y h
pushed_get (z ∷ xs) x P each last (suc i) y h = pushed_get xs x (λ k. P (suc k)) (λ k w e. each (suc k) w e) last i y h
