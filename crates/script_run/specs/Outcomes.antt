-- What a line of a script does, by its text alone.
use Rattle.std.specs.Prelude.{ℕ, List, Bool, false, ◌&&◌, not, is_some, ⊤}
use Rattle.std.specs.declared.option.Option.{Option}
use Rattle.std.specs.declared.option.Option.TheVariants.{Some, None}
use Rattle.line_text.specs.Words.{words_of}
use Rattle.edge_io.specs.declared.reader.Found.{Found}
use Rattle.edge_io.specs.declared.reader.Found.TheVariants as found
use Rattle.session_rules.specs.Journal.{Head}
use Rattle.frame_rules.specs.Encoder.{Encoder}
use Rattle.script_rules.specs.Script.{ScriptReading, LineOutcome, line_form, form_outcome, unless_broken, broken_if}
use Rattle.script_rules.specs.Script.{all_bytes, is_ascii, text_rule, invite_form, with_row, after_step}
use Rattle.script_rules.specs.Script.LineOutcome.{Breaks, Invites, Asks}
use Rattle.script_rules.specs.CaptureText.{Run, run_after, encoder_frames}

-- what a line within the limits does
abbrev pub outcome_within : ScriptReading → List ℕ → Bool → LineOutcome
outcome_within r text ended =
    unless_broken (broken_if (not (ended && all_bytes is_ascii text)) text_rule) (form_outcome r (line_form (words_of text)))

-- what that does which was found, where it is a line
abbrev pub found_outcome : Found → ScriptReading → List ℕ → Option LineOutcome
found_outcome (found.Line ended) r text = Some (outcome_within r text ended)
found_outcome found.PastLimits r text = Some (Breaks text_rule)
found_outcome found.End r text = None
found_outcome found.Failed r text = None

-- whether that is an invite by its form
abbrev pub is_invite_found : Found → List ℕ → Bool
is_invite_found (found.Line ended) text = is_some (invite_form (words_of text))
is_invite_found found.PastLimits text = false
is_invite_found found.End text = false
is_invite_found found.Failed text = false

-- how far a script has been read behind a line
abbrev pub reading_by : ScriptReading → LineOutcome → ScriptReading
reading_by r (Breaks rule) = r
reading_by r (Invites row) = with_row r row
reading_by r (Asks a) = after_step r a.step

-- the run behind a line
abbrev pub run_by_outcome : Head → Run Encoder → LineOutcome → Run Encoder
run_by_outcome head run (Breaks rule) = run
run_by_outcome head run (Invites row) = run
run_by_outcome head run (Asks a) = run_after encoder_frames head run a

-- a line breaks no rule
abbrev pub BreaksNone : LineOutcome → Type 0
BreaksNone (Breaks rule) = ⊥
BreaksNone (Invites row) = ⊤
BreaksNone (Asks a) = ⊤
