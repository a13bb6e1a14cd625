-- Scripts: the rows, the steps and the presets of the lines before the first that breaks a rule, and that line with its least rule.
use Rattle.std.specs.Prelude.{ℕ, ◌+◌, ◌==◌, nat_lt, nat_le, Bool, true, false, ◌&&◌, ◌||◌, not, List, [], ◌∷◌, ◌++◌, length, if◌then◌else◌, codes}
use Rattle.std.specs.declared.option.Option.{Option}
use Rattle.std.specs.declared.option.Option.TheVariants.{Some, None}
use Rattle.std.specs.Option.{option_map, option_and_then}
use Rattle.std.specs.Prelude.{is_some}
use Rattle.std.specs.Bool.{then_some}
use Rattle.std.specs.Char.{is_ascii_digit, is_ascii_alphabetic}
use Rattle.px_core.specs.declared.surface.Size.{Size}
use Rattle.px_core.specs.Rectangle.{is_session_size}
use Rattle.caps_sets.specs.declared.confirmed.Confirmed.{Confirmed}
use Rattle.caps_sets.specs.Confirmed.{plain}
use Rattle.line_text.specs.Lines.{Line, line_bytes, lines_of, is_past_limits}
use Rattle.line_text.specs.Words.{words_of, is_same_word}
use Rattle.line_text.specs.Numbers.{number_of, number_up_to}
use Rattle.session_rules.specs.declared.entry.Role.{Role}
use Rattle.session_rules.specs.declared.entry.Role.TheVariants.{Owner, Control, View}
use Rattle.session_rules.specs.Journal.{Head, Row, is_present}
use Rattle.session_rules.specs.Steps.{Step, Play, play_at_first, outcome, row_role}
use Rattle.session_rules.specs.Steps.Step.{JoinStep}
use Rattle.draw_ops.specs.Fits.{first_some}
use Rattle.script_rules.specs.Forms.{step_forms, step_in}
use Rattle.caps_sets.specs.Presets.{presets, confirmed_by}

-- ---- lines by form

pub data LineForm : Type 0 where
  InviteForm : List ℕ → Role → LineForm
  JoinForm : List ℕ → List (List ℕ) → LineForm
  StepForm : ℕ → Step → LineForm

abbrev pub role_named : List ℕ → Option Role
role_named word = if is_same_word word (codes "owner") then Some Owner
    else (if is_same_word word (codes "control") then Some Control else (if is_same_word word (codes "view") then Some View else None))

-- a word has a byte: two spaces one after the other, or one at a line's edge, leave an empty word, which no form has
abbrev pub is_word : List ℕ → Bool
is_word [] = false
is_word (b ∷ bs) = true

abbrev pub are_words : List (List ℕ) → Bool
are_words [] = true
are_words (word ∷ words) = is_word word && are_words words

abbrev pub invite_form : List (List ℕ) → Option LineForm
invite_form (word ∷ name ∷ role ∷ []) =
    if is_same_word word (codes "invite") && is_word name then option_map (InviteForm name) (role_named role) else None
invite_form words = None

abbrev pub join_form : List (List ℕ) → Option LineForm
join_form (word ∷ name ∷ preset ∷ words) =
    if is_same_word word (codes "join") && are_words (name ∷ preset ∷ words) then Some (JoinForm name (preset ∷ words)) else None
join_form words = None

abbrev pub step_form : ℕ → List (List ℕ) → Option LineForm
step_form v [] = None
step_form v (word ∷ words) = option_map (StepForm v) (step_in step_forms v word words)

-- the greatest number of a viewer
abbrev pub viewer_limit : ℕ
viewer_limit = 65535

-- `@V`
abbrev pub viewer_of_word : List ℕ → Option ℕ
viewer_of_word [] = None
viewer_of_word (b ∷ bs) = if b == 64 then number_up_to viewer_limit bs else None

abbrev pub addressed_form : List (List ℕ) → Option LineForm
addressed_form [] = None
addressed_form (word ∷ words) = option_and_then (λ v. step_form v words) (viewer_of_word word)

-- the form of a line: at most one of these fits, since their first words differ
abbrev pub line_form : List (List ℕ) → Option LineForm
line_form words = first_some (step_form 1 words ∷ invite_form words ∷ join_form words ∷ addressed_form words ∷ [])

-- ---- names

-- an ASCII letter or digit, `.`, `_` or `-`
abbrev pub is_name_byte : ℕ → Bool
is_name_byte b = (is_ascii_digit b || is_ascii_alphabetic b) || ((b == 46) || ((b == 95) || (b == 45)))

abbrev pub all_bytes : (ℕ → Bool) → List ℕ → Bool
all_bytes test [] = true
all_bytes test (b ∷ bs) = test b && all_bytes test bs

-- a name has 1 to 64 such bytes, and doesn't begin with `-`
abbrev pub is_name : List ℕ → Bool
is_name [] = false
is_name (b ∷ bs) = (nat_le (length bs) 63 && all_bytes is_name_byte (b ∷ bs)) && not (b == 45)

-- the most rows
abbrev pub row_limit : ℕ
row_limit = 64

-- ---- what a line asks for

-- a step, and for a join its preset words with what they confirm
pub record Asked : Type 0 where
  pub step : Step
  pub preset : List (List ℕ)
  pub confirmed : Confirmed

-- a step that has no preset
abbrev pub without_preset : Step → Asked
without_preset step = record { step = step; preset = []; confirmed = plain }

-- how far a script has been read: its size and rows, whether a step has stood, and the session after the steps
pub record ScriptReading : Type 0 where
  pub head : Head
  pub begun : Bool
  pub play : Play

-- what a line does: it breaks a rule, adds a row, or asks for a step
pub data LineOutcome : Type 0 where
  Breaks : ℕ → LineOutcome
  Invites : Row → LineOutcome
  Asks : Asked → LineOutcome

-- ---- the rules, the least first

-- 1: the first line isn't a session's size
abbrev pub size_rule : ℕ
size_rule = 1

-- 2: the line is too long, isn't ASCII, isn't ended by a line feed, or lies past the script's limit
abbrev pub text_rule : ℕ
text_rule = 2

-- 3: it is none of the forms
abbrev pub form_rule : ℕ
form_rule = 3

-- 4: an `invite` after a step
abbrev pub order_rule : ℕ
order_rule = 4

-- 5: a name breaks its rule or is invited twice, or a 65th row
abbrev pub name_rule : ℕ
name_rule = 5

-- 6: unknown preset words
abbrev pub preset_rule : ℕ
preset_rule = 6

-- 7: the viewer isn't present
abbrev pub presence_rule : ℕ
presence_rule = 7

abbrev pub broken_if : Bool → ℕ → Option ℕ
broken_if test rule = then_some test rule

abbrev pub unless_broken : Option ℕ → LineOutcome → LineOutcome
unless_broken None outcome = outcome
unless_broken (Some rule) outcome = Breaks rule

abbrev pub is_invited : List ℕ → List Row → Bool
is_invited name rows = is_some (row_role name rows)

abbrev pub join_outcome : List ℕ → List (List ℕ) → Option Confirmed → LineOutcome
join_outcome name words None = Breaks preset_rule
join_outcome name words (Some c) = Asks (record { step = JoinStep name; preset = words; confirmed = c })

abbrev pub form_outcome : ScriptReading → Option LineForm → LineOutcome
form_outcome r None = Breaks form_rule
form_outcome r (Some (InviteForm name role)) = unless_broken (first_some (broken_if r.begun order_rule
    ∷ broken_if (not (is_name name) || (is_invited name r.head.rows || nat_le row_limit (length r.head.rows))) name_rule ∷ []))
    (Invites (record { name = name; role = role }))
form_outcome r (Some (JoinForm name words)) = unless_broken (broken_if (not (is_name name)) name_rule) (join_outcome name words (confirmed_by presets words))
form_outcome r (Some (StepForm v step)) = unless_broken (broken_if (not (is_present v r.play.reached.viewers)) presence_rule) (Asks (without_preset step))

abbrev pub is_ascii : ℕ → Bool
is_ascii b = nat_lt b 128

-- a line that begins at a place of the script breaks rule 2
abbrev pub breaks_text_rule : ℕ → Line → Bool
breaks_text_rule at line = is_past_limits at line || not (line.ended && all_bytes is_ascii line.text)

abbrev pub line_outcome : ℕ → ScriptReading → Line → LineOutcome
line_outcome at r line = unless_broken (broken_if (breaks_text_rule at line) text_rule) (form_outcome r (line_form (words_of line.text)))

-- ---- the lines after the first

-- a line that breaks a rule, by its number from 1, and the least rule that it breaks
pub record LineRefusal : Type 0 where
  pub line : ℕ
  pub rule : ℕ

-- a script's size and rows, what its lines ask for, and the first line that breaks a rule
pub record Script : Type 0 where
  pub head : Head
  pub asked : List Asked
  pub refusal : Option LineRefusal

abbrev pub refused_at : ScriptReading → ℕ → ℕ → Script
refused_at r line rule = record { head = r.head; asked = []; refusal = Some (record { line = line; rule = rule }) }

abbrev pub ended_at : ScriptReading → Script
ended_at r = record { head = r.head; asked = []; refusal = None }

abbrev pub with_asked : Asked → Script → Script
with_asked a s = record s { asked = a ∷ s.asked }

abbrev pub with_row : ScriptReading → Row → ScriptReading
with_row r row = record r { head = record r.head { rows = r.head.rows ++ row ∷ [] } }

abbrev pub after_step : ScriptReading → Step → ScriptReading
after_step r step = record { head = r.head; begun = true; play = (outcome r.head r.play step).play }

-- what a line's outcome makes of the reading, where it goes on
abbrev pub reading_after : ScriptReading → LineOutcome → Option ScriptReading
reading_after r (Breaks rule) = None
reading_after r (Invites row) = Some (with_row r row)
reading_after r (Asks a) = Some (after_step r a.step)

abbrev pub proceeding : ScriptReading → ℕ → LineOutcome → (ScriptReading → Script) → Script
proceeding r k (Breaks rule) others = refused_at r k rule
proceeding r k (Invites row) others = others (with_row r row)
proceeding r k (Asks a) others = with_asked a (others (after_step r a.step))

-- the lines from the k-th on, which begins at a place of the script
abbrev pub script_from : ℕ → ℕ → ScriptReading → List Line → Script
script_from k at r [] = ended_at r
script_from k at r (line ∷ lines) = proceeding r k (line_outcome at r line) (λ next. script_from (k + 1) (at + length (line_bytes line)) next lines)

-- ---- the first line

abbrev pub size_with : ℕ → ℕ → Option Size
size_with w h = then_some (is_session_size w h) (record { w = w; h = h })

abbrev pub size_of_words : List (List ℕ) → Option Size
size_of_words (word ∷ w ∷ h ∷ []) = if is_same_word word (codes "size")
    then option_and_then (λ m. option_and_then (λ n. size_with m n) (number_of h)) (number_of w) else None
size_of_words words = None

-- whether the second line is an invite by its form, so that the script isn't solo. A line that is too long has no form
abbrev pub begins_with_invite : ℕ → List Line → Bool
begins_with_invite at [] = false
begins_with_invite at (line ∷ lines) = not (is_past_limits at line) && is_some (invite_form (words_of line.text))

abbrev pub opened_reading : Size → List Row → ScriptReading
opened_reading size rows = record { head = record { size = size; rows = rows }; begun = false; play = play_at_first size }

-- the one viewer of a solo script
abbrev pub solo_name : List ℕ
solo_name = codes "host"

abbrev pub solo_rows : List Row
solo_rows = record { name = solo_name; role = Owner } ∷ []

abbrev pub solo_join : Asked
solo_join = record { step = JoinStep solo_name; preset = codes "plain" ∷ []; confirmed = plain }

-- a script of several viewers
abbrev pub invited_script : ℕ → Size → List Line → Script
invited_script at size lines = script_from 2 at (opened_reading size []) lines

-- a solo script stands for the same with one row and its join after the first line
abbrev pub solo_script : ℕ → Size → List Line → Script
solo_script at size lines = with_asked solo_join (script_from 2 at (after_step (opened_reading size solo_rows) solo_join.step) lines)

abbrev pub script_after : ℕ → Size → List Line → Script
script_after at size lines = if begins_with_invite at lines then invited_script at size lines else solo_script at size lines

-- the first line: no size breaks rule 1; a size that isn't ended by a line feed breaks rule 2
pub data Opening : Type 0 where
  NoSize : Opening
  Unended : Opening
  Opened : Script → Opening

abbrev pub opening_by : Line → Option Size → List Line → Opening
opening_by line None lines = NoSize
opening_by line (Some size) lines = if line.ended then Opened (script_after (length (line_bytes line)) size lines) else Unended

abbrev pub opening_of_lines : List Line → Opening
opening_of_lines [] = NoSize
opening_of_lines (line ∷ lines) = opening_by line (size_of_words (words_of line.text)) lines

-- what a script's bytes ask for
abbrev pub opening_of : List ℕ → Opening
opening_of bytes = opening_of_lines (lines_of bytes)
