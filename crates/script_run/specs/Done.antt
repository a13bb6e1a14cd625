-- What the first lines of a script have written.
use Rattle.std.specs.Prelude.{ℕ, List, [], ◌∷◌, ◌++◌, if◌then◌else◌}
use Rattle.line_text.specs.Lines.{Line, line_bytes}
use Rattle.script_rules.specs.Script.{Opening, opening_of_lines, size_rule, text_rule}
use Rattle.script_rules.specs.Script.Opening.{NoSize, Unended, Opened}
use Rattle.script_rules.specs.Capture.{broken_line}
use Rattle.script_rules.specs.CaptureText.{capture_of_opening, encoder_frames}

-- the capture of some lines, where they are all lines of a script
abbrev pub capture_of_lines : List Line → List ℕ
capture_of_lines lines = capture_of_opening encoder_frames (opening_of_lines lines)

-- what a script's first line has written: its refusal; behind a size nothing, since the second line, or the end, says who joins
abbrev pub text_of_opening : Opening → List ℕ
text_of_opening NoSize = broken_line 1 size_rule
text_of_opening Unended = broken_line 1 text_rule
text_of_opening (Opened script) = []

-- what a script's first lines have written, where lines may follow: from the second line on it is their capture
abbrev pub text_of_first : List Line → List ℕ
text_of_first [] = []
text_of_first (line ∷ []) = text_of_opening (opening_of_lines (line ∷ []))
text_of_first (line ∷ second ∷ lines) = capture_of_lines (line ∷ second ∷ lines)

-- what they have written with the next line, or with the script's end where no line is left
abbrev pub text_with_next : (done rest : List Line) → List ℕ
text_with_next done [] = capture_of_lines done
text_with_next done (next ∷ lines) = text_of_first (done ++ next ∷ [])

-- the lines that a line feed ends
abbrev pub ended_lines : List Line → List Line
ended_lines [] = []
ended_lines (line ∷ lines) = if line.ended then line ∷ ended_lines lines else ended_lines lines

-- the bytes of lines, one after the other
abbrev pub bytes_of_lines : List Line → List ℕ
bytes_of_lines [] = []
bytes_of_lines (line ∷ lines) = line_bytes line ++ bytes_of_lines lines
