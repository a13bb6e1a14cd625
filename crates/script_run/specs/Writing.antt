-- What is made of the lines of a script, line by line: its capture, or its record.
use Rattle.std.specs.Prelude.{◌≡◌, ℕ, ◌+◌, List, [], ◌∷◌, ◌++◌, length, true, false}
use Rattle.std.specs.declared.option.Option.{Option}
use Rattle.std.specs.declared.option.Option.TheVariants.{Some, None}
use Rattle.px_core.specs.declared.surface.Size.{Size}
use Rattle.line_text.specs.Lines.{Line, line_bytes}
use Rattle.line_text.specs.Words.{words_of}
use Rattle.frame_rules.specs.Encoder.{Encoder}
use Rattle.script_rules.specs.Script.{ScriptReading, Asked, LineRefusal, LineOutcome, line_outcome, begins_with_invite, opened_reading, solo_rows, solo_join}
use Rattle.script_rules.specs.Script.{size_of_words, size_rule, text_rule}
use Rattle.script_rules.specs.Script.LineOutcome.{Breaks, Invites, Asks}
use Rattle.script_rules.specs.CaptureText.{Run}
use Rattle.headline.specs.Fronts.{IsFront}
use Rattle.script_run.specs.Outcomes.{reading_by, run_by_outcome, BreaksNone}
use Rattle.script_run.specs.Run.{refusal_at}
use Rattle.script_run.specs.Solo.{first_run, solo_reading, solo_run}

-- what lines write, what they have written as long as lines may follow, and the first of them that is refused
pub record ByLines : Type 0 where
  pub writes : List Line → List ℕ
  pub so_far : List Line → List ℕ
  pub refuses : List Line → Option LineRefusal

-- what a step writes, a line that breaks a rule, the end behind the last line, and a first line that breaks a rule; and what all lines of a
-- script give, those behind a first line that gives a size and ends at a place, and those from the k-th on, which begins at a place
pub record Writing : Type 0 where
  pub step : ScriptReading → Run Encoder → Asked → List ℕ
  pub broken : ℕ → ScriptReading → ℕ → List ℕ
  pub end : ScriptReading → List ℕ
  pub first : ℕ → List ℕ
  pub script : ByLines
  pub rest : Size → ℕ → ByLines
  pub from : ℕ → ℕ → ScriptReading → Run Encoder → ByLines

-- what a line writes, as the k-th; a row writes nothing
abbrev pub line_text : Writing → ℕ → ScriptReading → Run Encoder → LineOutcome → List ℕ
line_text w k r run (Breaks rule) = w.broken k r rule
line_text w k r run (Invites row) = []
line_text w k r run (Asks a) = w.step r run a

-- what the join of the one viewer writes of a script whose second line is no invite
abbrev pub joined : Writing → Size → List ℕ
joined w size = w.step (opened_reading size solo_rows) (first_run size) solo_join

-- ---- lines behind each other

-- these lines write this text, whatever lines follow them, and then the rest decides
pub record Follows (whole : ByLines) (lines : List Line) (text : List ℕ) (rest : ByLines) : Type 0 where
  pub writes : (more : List Line) → whole.writes (lines ++ more) ≡ text ++ rest.writes more
  pub so_far : (more : List Line) → whole.so_far (lines ++ more) ≡ text ++ rest.so_far more
  pub refuses : (more : List Line) → whole.refuses (lines ++ more) ≡ rest.refuses more

-- lines give this text, and then what the rest makes of the same lines
pub record Begins (whole : ByLines) (lines : List Line) (text : List ℕ) (rest : ByLines) : Type 0 where
  pub writes : whole.writes lines ≡ text ++ rest.writes lines
  pub so_far : (line : Line) (more : List Line) → lines ≡ line ∷ more → whole.so_far lines ≡ text ++ rest.so_far lines
  pub refuses : whole.refuses lines ≡ rest.refuses lines

-- all lines write this text, and this one of them is refused
pub record Gives (whole : ByLines) (lines : List Line) (text : List ℕ) (refused : Option LineRefusal) : Type 0 where
  pub writes : whole.writes lines ≡ text
  pub refuses : whole.refuses lines ≡ refused

-- and no line that follows them would write more
pub record Ends (whole : ByLines) (lines : List Line) (text : List ℕ) (refused : Option LineRefusal) : Type 0 where
  pub writes : whole.writes lines ≡ text
  pub so_far : whole.so_far lines ≡ text
  pub refuses : whole.refuses lines ≡ refused

-- what lines have written with the next one, or with the end where no line is left
abbrev pub with_next : ByLines → (done rest : List Line) → List ℕ
with_next whole done [] = whole.writes done
with_next whole done (next ∷ lines) = whole.so_far (done ++ next ∷ [])

-- what lines have written is nothing at first, and grows with each
pub record IsSteady (whole : ByLines) : Type 0 where
  pub none : whole.so_far [] ≡ []
  pub grows : (lines more : List Line) → IsFront (whole.so_far lines) (whole.so_far (lines ++ more))
  pub ends : (lines : List Line) → IsFront (whole.so_far lines) (whole.writes lines)

-- a script's lines are refused at the first of them, or since there is none
pub record RefusesFirst (w : Writing) (lines : List Line) (broken : ℕ) : Type 0 where
  pub writes : w.script.writes lines ≡ w.first broken
  pub next : with_next w.script [] lines ≡ w.first broken
  pub refuses : w.script.refuses lines ≡ refusal_at 1 broken

-- ---- what is written is written line by line

pub record IsWriting (w : Writing) : Type 0 where
  -- a line that breaks no rule writes its text, and then those behind it decide
  pub follows : (line : Line) (k at next_at : ℕ) (r : ScriptReading) (run : Run Encoder) (o : LineOutcome) → line_outcome at r line ≡ o → BreaksNone o
      → next_at ≡ at + length (line_bytes line)
      → Follows (w.from k at r run) (line ∷ []) (line_text w k r run o) (w.from (k + 1) next_at (reading_by r o) (run_by_outcome r.head run o))
  -- one that breaks a rule is the last
  pub breaks : (line : Line) (more : List Line) (k at rule : ℕ) (r : ScriptReading) (run : Run Encoder) → line_outcome at r line ≡ Breaks rule
      → Ends (w.from k at r run) (line ∷ more) (w.broken k r rule) (refusal_at k rule)
  -- where no line is left, the end is written, and nothing before any line
  pub ends : (k at : ℕ) (r : ScriptReading) (run : Run Encoder) → Gives (w.from k at r run) [] (w.end r) None
  pub none : (k at : ℕ) (r : ScriptReading) (run : Run Encoder) → (w.from k at r run).so_far [] ≡ []
  -- behind the first line rows follow, or the one viewer joins
  pub invited : (size : Size) (at : ℕ) (lines : List Line) → begins_with_invite at lines ≡ true
      → Begins (w.rest size at) lines [] (w.from 2 at (opened_reading size []) (first_run size))
  pub solo : (size : Size) (at : ℕ) (lines : List Line) → begins_with_invite at lines ≡ false
      → Begins (w.rest size at) lines (joined w size) (w.from 2 at (solo_reading size) (solo_run size))
  pub none_behind : (size : Size) (at : ℕ) → (w.rest size at).so_far [] ≡ []
  -- the first line gives a size and writes nothing, or breaks a rule
  pub opened : (line : Line) (size : Size) (at : ℕ) → size_of_words (words_of line.text) ≡ Some size → line.ended ≡ true → at ≡ length (line_bytes line)
      → Follows w.script (line ∷ []) [] (w.rest size at)
  pub unsized : (line : Line) (more : List Line) → size_of_words (words_of line.text) ≡ None
      → Ends w.script (line ∷ more) (w.first size_rule) (refusal_at 1 size_rule)
  pub unended : (line : Line) (size : Size) (more : List Line) → size_of_words (words_of line.text) ≡ Some size → line.ended ≡ false
      → Ends w.script (line ∷ more) (w.first text_rule) (refusal_at 1 text_rule)
  pub missing : Gives w.script [] (w.first size_rule) (refusal_at 1 size_rule)
  pub none_at_first : w.script.so_far [] ≡ []
