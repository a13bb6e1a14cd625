-- The demonstration in code, after one step more.
use Rattle.std.proofs.Common.{◌≡◌, ◌≢◌, ℕ, ◌+◌, ◌-◌, ◌≤◌, ◌<◌, List, [], ◌∷◌, ◌++◌, length, refl, ap, sym, ◌∙◌, subst, arith, length-set}
use Rattle.std.specs.Prelude.{true, IsTrue, Some, slice_get, slice_set, OnOk, IfOk}
use Rattle.std.specs.declared.result.Result.{Result}
use Rattle.std.specs.declared.result.Result.TheVariants.{Ok, Err}
use Rattle.caps_sets.specs.Confirmed.{plain}
use Rattle.session_rules.specs.Journal.{Reached, Viewer, is_present}
use Rattle.session_rules.specs.Steps.{Answer, Play, outcome, play_at_first, answers_of_steps, session_after}
use Rattle.session_rules.specs.Steps.Answer.{Joined, Left, Accepted, Refused, Nothing, Frame}
use Rattle.session_core.specs.SessionModel.{is_here, reached_by}
use Rattle.frame_rules.specs.Describes.{HasAllCaches}
use Rattle.frame_rules.specs.Encoder.{Encoder}
use Rattle.script_rules.specs.Script.{Asked, without_preset}
use Rattle.script_rules.specs.Capture.{viewer_of}
use Rattle.script_rules.specs.CaptureText.{Run, run_at_first, run_after, bytes_of_answer, encoder_frames}
use Rattle.headline.specs.Headline.{steps_of, is_by_present_viewer, AreByPresentViewers, ConfirmAllCaches}
use Rattle.script_lines.specs.declared.step.ViewerStep.{ViewerStep}
use Rattle.script_lines.specs.declared.step.ViewerStep.TheVariants as asks
use Rattle.script_lines.specs.Keywords.{step_of}
use Rattle.script_lines.specs.Lines.{IsStepInRange}
use Rattle.script_run.specs.declared.answer.StepAnswer.{StepAnswer}
use Rattle.script_run.specs.declared.answer.StepAnswer.TheVariants as says
use Rattle.script_run.specs.Answers.{Says, SaysOutcome}
use Rattle.script_run.specs.Hosts.{HostModel}
use Rattle.script_run.specs.Runs.{IsRunOf, IsInCourse}
use Rattle.demo_run.specs.Scene.{demo_size, demo_head}
use Rattle.demo_run.specs.Counts.{refused_count, kept}
use Rattle.demo_run.specs.declared.watcher.Watcher.{Watcher}
use Rattle.demo_run.specs.declared.demo.Demo.{Demo}
use Rattle.demo_run.specs.Asks.{IsViewer, IsDrawn}
use Rattle.demo_run.specs.Watching.{refusals_in, IsAcceptedAt, IsNoted, IsAccepted}
use Rattle.demo_run.specs.Standing.{run_of, all_viewers, AreWatching, Stands, Goes}
use Rattle.demo_run.proofs.Runs.{play_is, present_more, caches_more, refused_more}
use Rattle.demo_run.proofs.Drawn.{Comes, frames_in, drawn_comes}
use Rattle.demo_run.proofs.Scenes.{viewer_is_present}
use Rattle.demo_run.proofs.Frames.{kept_more, run_after_more, own_sent, frame_accepted, all_stay, one_shows}

-- ---- before the step

pub step_in_range : (s : ViewerStep) → IsDrawn s → IsStepInRange s
step_in_range asks.Leave h = absurd h
step_in_range asks.Take h = tt
step_in_range (asks.Suppress stop) h = absurd h
step_in_range (asks.Refresh r) h = absurd h
step_in_range (asks.Input e) h = tt
step_in_range (asks.Draw d) h = h

pub viewer_of_step : (v : ℕ) (s : ViewerStep) → IsDrawn s → viewer_of (step_of v s) ≡ v
viewer_of_step v asks.Leave h = absurd h
viewer_of_step v asks.Take h = refl
viewer_of_step v (asks.Suppress stop) h = absurd h
viewer_of_step v (asks.Refresh r) h = absurd h
viewer_of_step v (asks.Input e) h = refl
viewer_of_step v (asks.Draw d) h = refl

by_present : (p : Play) (v : ℕ) (s : ViewerStep) → IsDrawn s → IsTrue (is_present v p.reached.viewers) → IsTrue (is_by_present_viewer p (step_of v s))
by_present p v asks.Leave h k = absurd h
by_present p v asks.Take h k = k
by_present p v (asks.Suppress stop) h k = absurd h
by_present p v (asks.Refresh r) h k = absurd h
by_present p v (asks.Input e) h k = k
by_present p v (asks.Draw d) h k = k

-- each viewer is there
pub viewer_is_here : (d : Demo) (v : ℕ) → Goes d → IsViewer v → IsTrue (is_here d.host.session v)
viewer_is_here d v g at =
    let s = g.stands in
    ap (λ (x : Reached). is_present v x.viewers) (sym s.run.reached) ∙ (ap (is_present v) s.seated ∙ viewer_is_present v at)

pub in_course : (d : Demo) → Goes d → IsInCourse d.host
in_course d g = record { run = run_of g.done; is_run = g.stands.run }

module _ (done : List Asked) (d : Demo) (v : ℕ) (s : ViewerStep) (stands : Stands done d) (at : IsViewer v) (may : IsDrawn s) where
  step : Asked
  step = without_preset (step_of v s)

  comes : Comes demo_head (run_of done).play (step_of v s) (outcome demo_head (run_of done).play (step_of v s))
  comes = drawn_comes demo_head (run_of done).play v s at may stands.seated stands.holder

  present_now : AreByPresentViewers demo_head (done ++ without_preset (step_of v s) ∷ [])
  present_now =
      let play = play_is demo_head (run_at_first encoder_frames demo_size) done in
      let here : IsTrue (is_present v (run_of done).play.reached.viewers) = ap (is_present v) stands.seated ∙ viewer_is_present v at in
      present_more demo_head (play_at_first demo_size) done (without_preset (step_of v s)) stands.present
      (subst (λ p. IsTrue (is_by_present_viewer p (step_of v s))) play (by_present (run_of done).play v s may here))

  caches_now : ConfirmAllCaches (done ++ without_preset (step_of v s) ∷ [])
  caches_now = caches_more done (without_preset (step_of v s)) stands.caches (record { bitmaps = refl; glyphs = refl })

  -- the frame that it may be answered with isn't refused
  pub accepted_at : (i : ℕ) (answer : StepAnswer) → v ≡ i + 1 → SaysOutcome demo_head (run_of done) (step_of v s) answer → IsAcceptedAt i answer d.watchers.items
  accepted_at i (says.Joined u) is told = tt
  accepted_at i says.Left is told = tt
  accepted_at i says.Accepted is told = tt
  accepted_at i (says.Refused cause) is told = tt
  accepted_at i says.Nothing is told = tt
  accepted_at i (says.Frame bytes) is told = λ w found.
      frame_accepted done (without_preset (step_of v s)) comes present_now caches_now (i + 1) w bytes.items
      (own_sent done (without_preset (step_of v s)) (i + 1) (viewer_of_step v s may ∙ is) ∙ sym told.2) (stands.watchers i w found)

  -- ---- after the step

  watch_on : (i : ℕ) (answer : StepAnswer) (new : List Watcher) → v ≡ i + 1 → SaysOutcome demo_head (run_of done) (step_of v s) answer → IsNoted i answer d.watchers.items new
      → AreWatching (done ++ without_preset (step_of v s) ∷ []) new
  watch_on i answer new is told noted = by answer told noted
    where
      quiet : frames_in (outcome demo_head (run_of done).play (step_of v s)).answer ≡ 0 → new ≡ d.watchers.items → AreWatching (done ++ without_preset (step_of v s) ∷ []) new
      quiet none same = subst (AreWatching (done ++ without_preset (step_of v s) ∷ [])) (sym same)
          (all_stay done (without_preset (step_of v s)) comes d.watchers.items none stands.watchers)

      by : (answer : StepAnswer) → SaysOutcome demo_head (run_of done) (step_of v s) answer → IsNoted i answer d.watchers.items new
          → AreWatching (done ++ without_preset (step_of v s) ∷ []) new
      by (says.Joined u) told noted = quiet (ap frames_in told) noted
      by says.Left told noted = quiet (ap frames_in told) noted
      by says.Accepted told noted = quiet (ap frames_in told) noted
      by (says.Refused cause) told noted = quiet (ap frames_in told) noted
      by says.Nothing told noted = quiet (ap frames_in told) noted
      by (says.Frame bytes) told noted = subst (AreWatching (done ++ without_preset (step_of v s) ∷ [])) (sym noted.changed)
          (one_shows done (without_preset (step_of v s)) comes d.watchers.items i noted.before noted.after bytes.items (viewer_of_step v s may ∙ is) (sym told.2)
          (ap frames_in told.1) noted.found noted.reads stands.watchers)

  refusals_are : (answer : StepAnswer) (a : Answer) (frame : List ℕ) → Says answer a frame → refused_count (a ∷ []) ≡ refusals_in answer
  refusals_are (says.Joined u) a frame h = rw h refl
  refusals_are says.Left a frame h = rw h refl
  refusals_are says.Accepted a frame h = rw h refl
  refusals_are (says.Refused cause) a frame h = rw h refl
  refusals_are says.Nothing a frame h = rw h refl
  refusals_are (says.Frame bytes) a frame h = rw h.1 refl

  refuse_on : (answer : StepAnswer) (new : ℕ) → SaysOutcome demo_head (run_of done) (step_of v s) answer → new ≡ kept (d.refused + refusals_in answer)
      → new ≡ kept (refused_count (answers_of_steps demo_head (steps_of (done ++ without_preset (step_of v s) ∷ []))))
  refuse_on answer new told is =
      let old = refused_count (answers_of_steps demo_head (steps_of done)) in
      let play = play_is demo_head (run_at_first encoder_frames demo_size) done in
      is ∙ (ap (λ n. kept (n + refusals_in answer)) stands.refused ∙ (kept_more old (refusals_in answer)
      ∙ ap kept (ap (λ n. old + n) (sym (refusals_are answer _ _ told)) ∙ (ap (λ p. old + refused_count ((outcome demo_head p (step_of v s)).answer ∷ [])) play
      ∙ sym (refused_more demo_head (play_at_first demo_size) done (without_preset (step_of v s)))))))

  noted_number : (i : ℕ) (answer : StepAnswer) (old new : List Watcher) → IsNoted i answer old new → length new ≡ length old
  noted_number i (says.Joined u) old new h = ap length h
  noted_number i says.Left old new h = ap length h
  noted_number i says.Accepted old new h = ap length h
  noted_number i (says.Refused cause) old new h = ap length h
  noted_number i says.Nothing old new h = ap length h
  noted_number i (says.Frame bytes) old new h = ap length h.changed ∙ length-set _ _ _

  -- it stands for what was asked with the step
  pub stands_on : (i : ℕ) (answer : StepAnswer) (new : Demo) → v ≡ i + 1 → SaysOutcome demo_head (run_of done) (step_of v s) answer
      → new.host.session.head ≡ d.host.session.head
      → IsRunOf new.host (run_after encoder_frames demo_head (run_of done) (without_preset (step_of v s)))
      → IsNoted i answer d.watchers.items new.watchers.items → new.refused ≡ kept (d.refused + refusals_in answer)
      → Stands (done ++ without_preset (step_of v s) ∷ []) new
  stands_on i answer new is told head run noted refused =
      let next = sym (run_after_more done (without_preset (step_of v s))) in
      record {
        head = head ∙ stands.head;
        run = subst (IsRunOf new.host) next run;
        present = present_now;
        caches = caches_now;
        seated = ap (λ (r : Run Encoder). r.play.reached.viewers) (sym next) ∙ (comes.seated ∙ stands.seated);
        holder = subst (λ (r : Run Encoder). IsViewer r.play.reached.holder) next comes.holder;
        number = noted_number i answer d.watchers.items new.watchers.items noted ∙ stands.number;
        watchers = watch_on i answer new.watchers.items is told noted;
        refused = refuse_on answer new.refused told refused;
      }

-- what follows where it ended well
pub on_ok : {T E : Type 0} {A B : Type 0} (r : Result T E) → (A → B) → OnOk r A → OnOk r B
on_ok (Ok x) f h = f h
on_ok (Err e) f h = h

pub if_ok : {T E : Type 0} {P Q : T → Type 0} (r : Result T E) → ((x : T) → P x → Q x) → IfOk r P → IfOk r Q
if_ok (Ok x) f h = f x h
if_ok (Err e) f h = h
