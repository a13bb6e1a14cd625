-- Lines that follow each other.
use Rattle.std.proofs.Common.{◌≡◌, ℕ, ◌+◌, List, [], ◌∷◌, ◌++◌, length, refl, ap, sym, ◌∙◌, None, Some, Bool, true, false, append_assoc}
use Rattle.std.specs.Prelude.{Option, ⊤, ◌||◌, not, nat_le, if◌then◌else◌}
use Rattle.px_core.specs.declared.surface.Size.{Size}
use Rattle.draw_ops.specs.Fits.{first_some}
use Rattle.line_text.specs.Lines.{Line, line_bytes}
use Rattle.line_text.specs.Words.{words_of}
use Rattle.session_rules.specs.Journal.{is_present}
use Rattle.caps_sets.specs.declared.confirmed.Confirmed.{Confirmed}
use Rattle.caps_sets.specs.Presets.{presets, confirmed_by}
use Rattle.script_rules.specs.Script.{ScriptReading, Script, LineForm, LineOutcome, line_form, form_outcome, line_outcome, join_outcome, unless_broken}
use Rattle.script_rules.specs.Script.{broken_if, is_name, is_invited, row_limit, order_rule, name_rule, presence_rule, text_rule, breaks_text_rule, without_preset}
use Rattle.script_rules.specs.Script.{with_row, after_step, proceeding, script_from, script_after, begins_with_invite, invited_script, solo_script}
use Rattle.script_rules.specs.Script.LineForm.{InviteForm, JoinForm, StepForm}
use Rattle.script_rules.specs.Script.LineOutcome.{Breaks, Invites, Asks}
use Rattle.script_run.specs.Outcomes.{reading_by, BreaksNone}
use Rattle.script_run.specs.Writing.{ByLines, Follows, with_next}

-- ---- lines that follow each other

pub follows_none : (whole : ByLines) → Follows whole [] [] whole
follows_none whole = record { writes = λ more. refl; so_far = λ more. refl; refuses = λ more. refl }

pub follows_on : (whole rest last : ByLines) (lines later : List Line) (text more : List ℕ) → Follows whole lines text rest → Follows rest later more last
    → Follows whole (lines ++ later) (text ++ more) last
follows_on whole rest last lines later text more f g = record {
  writes = λ ls. ap whole.writes (append_assoc lines later ls) ∙ f.writes (later ++ ls) ∙ ap (λ t. text ++ t) (g.writes ls)
      ∙ sym (append_assoc text more (last.writes ls));
  so_far = λ ls. ap whole.so_far (append_assoc lines later ls) ∙ f.so_far (later ++ ls) ∙ ap (λ t. text ++ t) (g.so_far ls)
      ∙ sym (append_assoc text more (last.so_far ls));
  refuses = λ ls. ap whole.refuses (append_assoc lines later ls) ∙ f.refuses (later ++ ls) ∙ g.refuses ls;
}

-- what was done with the next line, behind lines that were done
pub next_behind : (whole rest : ByLines) (lines done more : List Line) (text : List ℕ) → Follows whole lines text rest
    → with_next whole (lines ++ done) more ≡ text ++ with_next rest done more
next_behind whole rest lines done [] text f = f.writes done
next_behind whole rest lines done (next ∷ more) text f = ap whole.so_far (append_assoc lines done (next ∷ [])) ∙ f.so_far (done ++ next ∷ [])

-- ---- the head of a script behind its first step

abbrev RowsComeFirst : (r : ScriptReading) (o : LineOutcome) → Type 0
RowsComeFirst r (Breaks rule) = ⊤
RowsComeFirst r (Invites row) = r.begun ≡ false
RowsComeFirst r (Asks a) = ⊤

join_adds_none : (r : ScriptReading) (name : List ℕ) (words : List (List ℕ)) (o : Option Confirmed) → RowsComeFirst r (join_outcome name words o)
join_adds_none r name words None = tt
join_adds_none r name words (Some c) = tt

form_invites : (r : ScriptReading) (o : Option LineForm) → RowsComeFirst r (form_outcome r o)
form_invites r None = tt
form_invites r (Some (InviteForm name role)) =
    by r.begun refl (not (is_name name) || (is_invited name r.head.rows || nat_le row_limit (length r.head.rows)))
  where
    by : (b : Bool) → r.begun ≡ b → (n : Bool)
        → RowsComeFirst r (unless_broken (first_some (broken_if b order_rule ∷ broken_if n name_rule ∷ [])) (Invites (record { name = name; role = role })))
    by true e n = tt
    by false e true = tt
    by false e false = e
form_invites r (Some (JoinForm name words)) = by (not (is_name name))
  where
    by : (n : Bool) → RowsComeFirst r (unless_broken (broken_if n name_rule) (join_outcome name words (confirmed_by presets words)))
    by true = tt
    by false = join_adds_none r name words (confirmed_by presets words)
form_invites r (Some (StepForm v step)) = by (is_present v r.play.reached.viewers)
  where
    by : (p : Bool) → RowsComeFirst r (unless_broken (broken_if (not p) presence_rule) (Asks (without_preset step)))
    by false = tt
    by true = tt

line_invites : (at : ℕ) (r : ScriptReading) (line : Line) → RowsComeFirst r (line_outcome at r line)
line_invites at r line = by (breaks_text_rule at line)
  where
    by : (b : Bool) → RowsComeFirst r (unless_broken (broken_if b text_rule) (form_outcome r (line_form (words_of line.text))))
    by true = tt
    by false = form_invites r (line_form (words_of line.text))

head_by : (r : ScriptReading) (k : ℕ) (o : LineOutcome) (others : ScriptReading → Script) → RowsComeFirst r o
    → ((next : ScriptReading) → next.begun ≡ true → (others next).head ≡ next.head) → r.begun ≡ true → (proceeding r k o others).head ≡ r.head
head_by r k (Breaks rule) others none rest begun = refl
head_by r k (Invites row) others none rest begun = absurd (cc (sym none ∙ begun))
head_by r k (Asks a) others none rest begun = rest (after_step r a.step) refl

-- where a step has stood, no row is added
pub head_stays : (k at : ℕ) (r : ScriptReading) (lines : List Line) → r.begun ≡ true → (script_from k at r lines).head ≡ r.head
head_stays k at r [] begun = refl
head_stays k at r (line ∷ lines) begun =
    head_by r k (line_outcome at r line) (λ next. script_from (k + 1) (at + length (line_bytes line)) next lines) (line_invites at r line)
    (λ next. head_stays (k + 1) (at + length (line_bytes line)) next lines) begun

-- ---- what the lines behind one are refused

pub refused_by : (r : ScriptReading) (k : ℕ) (o : LineOutcome) (others : ScriptReading → Script) → BreaksNone o
    → (proceeding r k o others).refusal ≡ (others (reading_by r o)).refusal
refused_by r k (Breaks rule) others none = absurd none
refused_by r k (Invites row) others none = refl
refused_by r k (Asks a) others none = refl

-- ---- behind the first line

size_by : (r : ScriptReading) (k : ℕ) (o : LineOutcome) (others : ScriptReading → Script) → ((next : ScriptReading) → (others next).head.size ≡ next.head.size)
    → (proceeding r k o others).head.size ≡ r.head.size
size_by r k (Breaks rule) others rest = refl
size_by r k (Invites row) others rest = rest (with_row r row)
size_by r k (Asks a) others rest = rest (after_step r a.step)

pub size_stays : (k at : ℕ) (r : ScriptReading) (lines : List Line) → (script_from k at r lines).head.size ≡ r.head.size
size_stays k at r [] = refl
size_stays k at r (line ∷ lines) = size_by r k (line_outcome at r line) (λ next. script_from (k + 1) (at + length (line_bytes line)) next lines)
    (λ next. size_stays (k + 1) (at + length (line_bytes line)) next lines)

pub by_invite : (size : Size) (at : ℕ) (lines : List Line) (b : Bool) → begins_with_invite at lines ≡ b
    → script_after at size lines ≡ (if b then invited_script at size lines else solo_script at size lines)
by_invite size at lines b is = ap (λ t. if t then invited_script at size lines else solo_script at size lines) is
