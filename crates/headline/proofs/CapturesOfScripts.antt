-- Scripts: the preset words of joins confirm what their viewers confirmed, and captures show the journal.
use Rattle.std.proofs.Common.{◌≡◌, ℕ, ◌+◌, Bool, true, false, List, [], ◌∷◌, length, refl, sym, subst, Some, None}
use Rattle.std.specs.Prelude.{Option, IfSome, ⊤, not, if◌then◌else◌}
use Rattle.px_core.specs.declared.surface.Size.{Size}
use Rattle.caps_sets.specs.declared.confirmed.Confirmed.{Confirmed}
use Rattle.caps_sets.specs.Confirmed.{plain}
use Rattle.line_text.specs.Lines.{Line, line_bytes, lines_of}
use Rattle.line_text.specs.Words.{words_of}
use Rattle.session_rules.specs.Steps.{Step, journal_of_steps, frame_numbers}
use Rattle.session_rules.specs.Steps.Step.{JoinStep, LeaveStep, InputStep, DrawStep, RefreshStep, SuppressStep, TakeStep}
use Rattle.caps_sets.specs.Presets.{presets, confirmed_by}
use Rattle.script_rules.specs.Script.{Script, ScriptReading, LineForm, LineOutcome, Opening, without_preset, broken_if}
use Rattle.script_rules.specs.Script.{unless_broken, join_outcome, form_outcome, line_outcome, line_form, is_name, name_rule, text_rule, breaks_text_rule}
use Rattle.script_rules.specs.Script.{with_row, after_step, proceeding, script_from, size_of_words, opened_reading, begins_with_invite, solo_rows, solo_join}
use Rattle.script_rules.specs.Script.{invited_script, solo_script, script_after, opening_by, opening_of_lines, opening_of}
use Rattle.script_rules.specs.Script.LineForm.{InviteForm, JoinForm, StepForm}
use Rattle.script_rules.specs.Script.LineOutcome.{Breaks, Invites, Asks}
use Rattle.script_rules.specs.Script.Opening.{NoSize, Unended, Opened}
use Rattle.script_rules.specs.CaptureText.{capture_of_opening, capture_of_script, encoder_frames}
use Rattle.order_means.specs.Packets.{without_pointers}
use Rattle.headline.specs.Headline.{IfOpened, SeesJournal, confirmed_in, steps_of, EveryViewerOfScript, EveryViewerOfOpening}
use Rattle.headline.specs.Pointed.{SeesPointers}
use Rattle.script_rules.proofs.FormsOfViewers.{IsStepOf, IsFormOfItsViewer, line_form_is}
use Rattle.headline.proofs.StepsOfScripts.{HasPremises, scripts_have}
use Rattle.headline.specs.Sent.{PresetConfirms, PresetsConfirm, EveryViewerIsSentTheJournal}
use Rattle.headline.proofs.LineRuns.{capture_is_read}

-- ---- a line

abbrev Confirms : LineOutcome → Type 0
Confirms (Breaks rule) = ⊤
Confirms (Invites row) = ⊤
Confirms (Asks a) = PresetConfirms a.step a.preset a.confirmed

step_has_no_preset : (v : ℕ) (step : Step) → IsStepOf v step → PresetConfirms step [] plain
step_has_no_preset v (JoinStep name) of = absurd of
step_has_no_preset v (LeaveStep u) of = tt
step_has_no_preset v (InputStep u event) of = tt
step_has_no_preset v (DrawStep u d) of = tt
step_has_no_preset v (RefreshStep u rect) of = tt
step_has_no_preset v (SuppressStep u stop) of = tt
step_has_no_preset v (TakeStep u) of = tt

join_confirms : (name : List ℕ) (words : List (List ℕ)) (o : Option Confirmed) → confirmed_by presets words ≡ o → Confirms (join_outcome name words o)
join_confirms name words None e = tt
join_confirms name words (Some c) e = e

unless_confirms : (o : Option ℕ) (outcome : LineOutcome) → Confirms outcome → Confirms (unless_broken o outcome)
unless_confirms None outcome h = h
unless_confirms (Some rule) outcome h = tt

form_confirms : (r : ScriptReading) (o : Option LineForm) → IfSome o IsFormOfItsViewer → Confirms (form_outcome r o)
form_confirms r None is = tt
form_confirms r (Some (InviteForm name role)) is = unless_confirms _ (Invites (record { name = name; role = role })) tt
form_confirms r (Some (JoinForm name words)) is =
    unless_confirms (broken_if (not (is_name name)) name_rule) (join_outcome name words (confirmed_by presets words))
    (join_confirms name words (confirmed_by presets words) refl)
form_confirms r (Some (StepForm v step)) is =
    unless_confirms _ (Asks (without_preset step)) (step_has_no_preset v step is)

line_confirms : (at : ℕ) (r : ScriptReading) (line : Line) → Confirms (line_outcome at r line)
line_confirms at r line =
    unless_confirms (broken_if (breaks_text_rule at line) text_rule) (form_outcome r (line_form (words_of line.text)))
    (form_confirms r (line_form (words_of line.text)) (line_form_is (words_of line.text)))

-- ---- the lines of a script

outcome_confirms : (r : ScriptReading) (k : ℕ) (o : LineOutcome) (others : ScriptReading → Script) → Confirms o → ((next : ScriptReading) → PresetsConfirm (others next).asked)
    → PresetsConfirm (proceeding r k o others).asked
outcome_confirms r k (Breaks rule) others h rest = tt
outcome_confirms r k (Invites row) others h rest = rest (with_row r row)
outcome_confirms r k (Asks a) others h rest = (h, rest (after_step r a.step))

lines_confirm : (k at : ℕ) (r : ScriptReading) (lines : List Line) → PresetsConfirm (script_from k at r lines).asked
lines_confirm k at r [] = tt
lines_confirm k at r (line ∷ lines) =
    outcome_confirms r k (line_outcome at r line) (λ next. script_from (k + 1) (at + length (line_bytes line)) next lines) (line_confirms at r line)
    (λ next. lines_confirm (k + 1) (at + length (line_bytes line)) next lines)

after_confirms : (at : ℕ) (size : Size) (lines : List Line) → PresetsConfirm (script_after at size lines).asked
after_confirms at size lines = by (begins_with_invite at lines)
  where
    by : (b : Bool) → PresetsConfirm (if b then invited_script at size lines else solo_script at size lines).asked
    by true = lines_confirm 2 at (opened_reading size []) lines
    by false = (refl, lines_confirm 2 at (after_step (opened_reading size solo_rows) solo_join.step) lines)

opened_confirms : (line : Line) (o : Option Size) (lines : List Line) → IfOpened (opening_by line o lines) (λ s. PresetsConfirm s.asked)
opened_confirms line None lines = tt
opened_confirms line (Some size) lines = by line.ended
  where
    by : (b : Bool) → IfOpened (if b then Opened (script_after (length (line_bytes line)) size lines) else Unended) (λ s. PresetsConfirm s.asked)
    by true = after_confirms (length (line_bytes line)) size lines
    by false = tt

opening_confirms : (lines : List Line) → IfOpened (opening_of_lines lines) (λ s. PresetsConfirm s.asked)
opening_confirms [] = tt
opening_confirms (line ∷ lines) = opened_confirms line (size_of_words (words_of line.text)) lines

pub scripts_confirm : (bytes : List ℕ) → IfOpened (opening_of bytes) (λ s. PresetsConfirm s.asked)
scripts_confirm bytes = opening_confirms (lines_of bytes)

-- ---- captures

-- a script's viewers see the journal in its capture
script_shows : (s : Script) → HasPremises s → PresetsConfirm s.asked → EveryViewerIsSentTheJournal s
    → EveryViewerOfScript s (capture_of_script encoder_frames s)
script_shows s has confirms sends =
    let sees = sends.0 has.size has.present has.caches in
    record {
      viewers = λ v. subst
          (λ written. SeesJournal s.head.size (confirmed_in s.head s.asked v) (journal_of_steps s.head (steps_of s.asked)) (frame_numbers s.head (steps_of s.asked) v)
          (without_pointers written))
          (sym (capture_is_read s has.present confirms sends.1 v)) (sees.viewers v);
      pointers = λ v. subst
          (SeesPointers s.head.size (confirmed_in s.head s.asked v) (journal_of_steps s.head (steps_of s.asked)) (frame_numbers s.head (steps_of s.asked) v))
          (sym (capture_is_read s has.present confirms sends.1 v)) (sees.pointers v);
      journal_is_legal = sees.journal_is_legal;
      changes_are_the_holders = sees.changes_are_the_holders;
    }

opening_shows : (o : Opening) → IfOpened o HasPremises → IfOpened o (λ s. PresetsConfirm s.asked) → IfOpened o EveryViewerIsSentTheJournal
    → EveryViewerOfOpening o (capture_of_opening encoder_frames o)
opening_shows NoSize has confirms sends = tt
opening_shows Unended has confirms sends = tt
opening_shows (Opened s) has confirms sends = script_shows s has confirms sends

pub captures_show : (bytes : List ℕ) → IfOpened (opening_of bytes) EveryViewerIsSentTheJournal
    → EveryViewerOfOpening (opening_of bytes) (capture_of_opening encoder_frames (opening_of bytes))
captures_show bytes sends = opening_shows (opening_of bytes) (scripts_have bytes) (scripts_confirm bytes) sends
