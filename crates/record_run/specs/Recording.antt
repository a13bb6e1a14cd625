-- What a script's run writes of its journal: the record of its size, its rows and its steps.
use Rattle.std.specs.Prelude.{ℕ, List, [], ◌∷◌, ◌++◌, map, Bool, true, false, ◌&&◌, is_none, option_to_list, if◌then◌else◌}
use Rattle.line_text.specs.Lines.{Line}
use Rattle.session_rules.specs.Steps.{Step, outcome, entries_from, journal_of_steps}
use Rattle.script_rules.specs.Script.{ScriptReading, Script, Asked, Opening, opening_of, opening_of_lines}
use Rattle.script_rules.specs.Script.Opening.{NoSize, Unended, Opened}
use Rattle.record_rules.specs.Tables.{head_bytes, entries_bytes, record_bytes}

-- the steps that are asked for
abbrev pub steps_asked : List Asked → List Step
steps_asked asked = map (λ a. a.step) asked

-- ---- whole scripts

-- the record of a script's size, its rows, and the journal that its steps make, up to the line that breaks a rule
abbrev pub record_of_script : Script → List ℕ
record_of_script s = record_bytes s.head (journal_of_steps s.head (steps_asked s.asked))

-- nothing where the first line breaks a rule
abbrev pub record_of_opening : Opening → List ℕ
record_of_opening NoSize = []
record_of_opening Unended = []
record_of_opening (Opened s) = record_of_script s

-- the record of a script's bytes
abbrev pub record_of : List ℕ → List ℕ
record_of script = record_of_opening (opening_of script)

-- of some lines, where they are all lines of a script
abbrev pub record_of_lines : List Line → List ℕ
record_of_lines lines = record_of_opening (opening_of_lines lines)

-- ---- scripts whose lines may go on

abbrev pub is_none_asked : List Asked → Bool
is_none_asked [] = true
is_none_asked (a ∷ asked) = false

-- no step has stood, and no line breaks a rule, so that rows may follow
abbrev pub may_get_rows : Script → Bool
may_get_rows s = is_none_asked s.asked && is_none s.refusal

-- what a script's lines have written as long as lines may follow: as long as rows may follow nothing
abbrev pub written_of_script : Script → List ℕ
written_of_script s = if may_get_rows s then [] else record_of_script s

abbrev pub written_of_opening : Opening → List ℕ
written_of_opening NoSize = []
written_of_opening Unended = []
written_of_opening (Opened s) = written_of_script s

-- what a script's first lines have written: behind the first alone nothing, since the second, or the end, says who joins
abbrev pub written_of_first : List Line → List ℕ
written_of_first [] = []
written_of_first (line ∷ []) = []
written_of_first (line ∷ second ∷ lines) = written_of_opening (opening_of_lines (line ∷ second ∷ lines))

-- what they have written with the next line, or with the script's end where no line is left
abbrev pub written_with_next : (done rest : List Line) → List ℕ
written_with_next done [] = record_of_lines done
written_with_next done (next ∷ lines) = written_of_first (done ++ next ∷ [])

-- ---- line by line

-- the head, where no step has stood
abbrev pub head_text : ScriptReading → List ℕ
head_text r = if r.begun then [] else head_bytes r.head

-- what a step writes: the head, where it is the first, and its entry, where it appends one
abbrev pub step_text : ScriptReading → Step → List ℕ
step_text r step = head_text r ++ entries_bytes (option_to_list (outcome r.head r.play step).entry)

-- what a script writes from a reading on
abbrev pub text_from : ScriptReading → Script → List ℕ
text_from r s = (if r.begun then [] else head_bytes s.head) ++ entries_bytes (entries_from s.head r.play (steps_asked s.asked))

-- and as long as lines may follow
abbrev pub written_from : ScriptReading → Script → List ℕ
written_from r s = if r.begun then text_from r s else (if may_get_rows s then [] else text_from r s)
