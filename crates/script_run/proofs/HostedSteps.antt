-- The host in code stands for the readings of a script and the runs that its lines come to.
use Rattle.std.proofs.Common.{◌≡◌, ℕ, List, [], ◌∷◌, ◌++◌, refl, ap, sym, ◌∙◌, subst, Bool, true, false}
use Rattle.std.specs.Prelude.{IsTrue}
use Rattle.px_core.specs.declared.surface.Size.{Size}
use Rattle.session_rules.specs.Journal.{Head, Row, Reached, is_present}
use Rattle.session_rules.specs.Steps.{Play, outcome}
use Rattle.session_core.specs.SessionModel.{is_here}
use Rattle.frame_rules.specs.Encoder.{Encoder}
use Rattle.script_rules.specs.Script.{ScriptReading, Asked, opened_reading, with_row, after_step}
use Rattle.script_rules.specs.CaptureText.{Run, run_after, line_in_run, encoder_frames}
use Rattle.script_run.specs.declared.answer.StepAnswer.{StepAnswer}
use Rattle.script_run.specs.Answers.{answer_text}
use Rattle.script_run.specs.Hosts.{HostModel, with_invited}
use Rattle.script_run.specs.Runs.{IsRunOf, Advances}
use Rattle.script_run.specs.Solo.{first_run}
use Rattle.script_run.specs.Standing.{Stands, DoesStep}
use Rattle.script_run.specs.Captures.{captures}
use Rattle.script_run.specs.Hosted.{seen_of, IsRunOfReading}

abbrev pub StandsOf : HostModel → ScriptReading → Run Encoder → Type 0
StandsOf host = Stands (seen_of host) (IsRunOfReading host)

-- who is present in the reading is in the session
here_is : (host : HostModel) (r : ScriptReading) (run : Run Encoder) (v : ℕ) → IsRunOf host run → r.play ≡ run.play → is_present v r.play.reached.viewers ≡ is_here host.session v
here_is host r run v is play = ap (λ (p : Play). is_present v p.reached.viewers) play ∙ ap (λ (x : Reached). is_present v x.viewers) is.reached

pub first_stands : (host : HostModel) (size : Size) → host.begun ≡ false → host.session.head ≡ record { size = size; rows = [] } → IsRunOf host (first_run size)
    → StandsOf host (opened_reading size []) (first_run size)
first_stands host size begun head is = record {
  head = sym head;
  begun = sym begun;
  here = λ v. here_is host (opened_reading size []) (first_run size) v is refl;
  kept = record { is_run = is; play = refl; early = λ e. refl };
}

pub row_stands : (old new : HostModel) (row : Row) → new.begun ≡ old.begun → new.session.head ≡ with_invited old.session.head row
    → ((run : Run Encoder) → IsRunOf old run → IsRunOf new run) → (r : ScriptReading) (run : Run Encoder) → StandsOf old r run → StandsOf new (with_row r row) run
row_stands old new row begun head goes_on r run s =
    let is = goes_on run s.kept.is_run in
    record {
      head = ap (λ (h : Head). with_invited h row) s.head ∙ sym head;
      begun = s.begun ∙ sym begun;
      here = λ v. here_is new r run v is s.kept.play;
      kept = record { is_run = is; play = s.kept.play; early = s.kept.early };
    }

-- where somebody is present a step has stood
pub has_begun : (host : HostModel) (r : ScriptReading) (run : Run Encoder) (v : ℕ) → StandsOf host r run → is_here host.session v ≡ true → host.begun ≡ true
has_begun host r run v s here = sym s.begun ∙ by r.begun refl
  where
    by : (b : Bool) → r.begun ≡ b → r.begun ≡ true
    by true e = e
    by false e =
        let nobody : is_present v r.play.reached.viewers ≡ false = ap (is_present v) (s.kept.early e) in
        absurd (cc (sym nobody ∙ (s.here v ∙ here)))

-- a step was done, and its line was appended
pub step_stands : (old new : HostModel) (a : Asked) (v : ℕ) (preset : List (List ℕ)) (answer : StepAnswer) (size : Size) (before now : List ℕ)
    → new.begun ≡ true → new.session.head ≡ old.session.head → size ≡ new.session.head.size → now ≡ before ++ answer_text size v preset answer
    → ((run : Run Encoder) → IsRunOf old run → Advances old.session.head run a (answer_text old.session.head.size v preset answer) new)
    → (r : ScriptReading) (run : Run Encoder) → StandsOf old r run → DoesStep captures (StandsOf new) r run a before now
step_stands old new a v preset answer size before now begun head same line advances r run s =
    let adv = advances run s.kept.is_run in
    let is : IsRunOf new (run_after encoder_frames r.head run a) = subst (λ (h : Head). IsRunOf new (run_after encoder_frames h run a)) (sym s.head) adv.is_run in
    let play : (after_step r a.step).play ≡ (run_after encoder_frames r.head run a).play = ap (λ (p : Play). (outcome r.head p a.step).play) s.kept.play in
    record {
      standing = record {
        head = s.head ∙ sym head;
        begun = sym begun;
        here = λ u. here_is new (after_step r a.step) (run_after encoder_frames r.head run a) u is play;
        kept = record { is_run = is; play = play; early = λ e. absurd (cc e) };
      };
      written = line ∙ ap (λ z. before ++ answer_text z v preset answer) (same ∙ ap (λ (h : Head). h.size) head) ∙ ap (λ t. before ++ t) adv.line
          ∙ ap (λ (h : Head). before ++ line_in_run encoder_frames h run a) (sym s.head);
    }
