-- What a run of a script reads and writes.
use Rattle.std.specs.Prelude.{◌≡◌, ℕ, List, ◌++◌, ⊤}
use Rattle.std.specs.Io.KnownBytes.{Appends, Consumes, IsAtEnd}
use Rattle.std.specs.declared.option.Option.{Option}
use Rattle.std.specs.declared.option.Option.TheVariants.{Some, None}
use Rattle.std.specs.declared.result.Result.{Result}
use Rattle.std.specs.declared.result.Result.TheVariants.{Ok, Err}
use Rattle.edge_io.specs.Faults.{Rose}
use Rattle.line_text.specs.Lines.{Line, lines_of}
use Rattle.script_rules.specs.Script.{LineRefusal, Opening, opening_of, size_rule, text_rule}
use Rattle.script_rules.specs.Script.Opening.{NoSize, Unended, Opened}
use Rattle.script_rules.specs.CaptureText.{capture_of, encoder_frames}
use Rattle.headline.specs.Headline.{EveryViewerOfCapture}
use Rattle.headline.specs.Fronts.{IsFront, EveryViewerOfOpeningFront}
use Rattle.script_run.specs.Done.{text_of_first, text_with_next, ended_lines}
use Rattle.script_run.specs.declared.fault.ScriptFault.{ScriptFault}
use Rattle.script_run.specs.declared.fault.ScriptFault.TheVariants as fault

-- where a source tells its bytes, this is said of them
abbrev pub Tells : Option (List ℕ) → (List ℕ → Type 0) → Type 0
Tells None says = ⊤
Tells (Some bytes) says = says bytes

-- where a source told its bytes, none is left
abbrev pub EndsWhereTold : Option (List ℕ) → Option (List ℕ) → Type 0
EndsWhereTold before now = Tells before (λ bytes. IsAtEnd now)

-- a line that breaks a rule
abbrev pub refusal_at : ℕ → ℕ → Option LineRefusal
refusal_at line rule = Some (record { line = line; rule = rule })

-- the first line of a script that breaks a rule, with the least rule that it breaks
abbrev pub refusal_of : Opening → Option LineRefusal
refusal_of NoSize = refusal_at 1 size_rule
refusal_of Unended = refusal_at 1 text_rule
refusal_of (Opened script) = script.refusal

-- a script's run wrote its capture, in which each viewer's bytes are read whole, and each mark shows the picture, and the pointer where
-- the viewer has pointer cells, after exactly the journal entries that the frame's take found; and this is the first of its lines that
-- breaks a rule
pub record WritesTheCapture (script : List ℕ) (refused : Option LineRefusal) (before now : Option (List ℕ)) : Type 0 where
  pub text : List ℕ
  pub written : Appends before now text
  pub is_capture : text ≡ capture_of encoder_frames script
  pub shows_journal : EveryViewerOfCapture script text
  pub refuses : refusal_of (opening_of script) ≡ refused

-- a text is a front of a script's capture, and shows each viewer its first takes, by their pictures and by their pointers; the journal of all the script's
-- steps is legal, and each change in it was made by the holder of control
pub record IsFrontOfCapture (script text : List ℕ) : Type 0 where
  pub front : IsFront text (capture_of encoder_frames script)
  pub shows_journal : EveryViewerOfOpeningFront (opening_of script) text

-- a script's run wrote what its first lines write, and then a front of what the next line writes, or the script's end where no line is left
pub record WritesFirstLines (script : List ℕ) (before now : Option (List ℕ)) : Type 0 where
  pub done : List Line
  pub rest : List Line
  pub front : List ℕ
  pub are_first : lines_of script ≡ done ++ rest
  pub written : Appends before now (text_of_first done ++ front)
  pub is_front : IsFront (text_of_first done ++ front) (text_with_next done rest)
  pub is_capture : IsFrontOfCapture script (text_of_first done ++ front)

-- a script's run wrote exactly what the whole lines write that the source handed out in it
pub record WritesHandedLines (script : List ℕ) (left before now : Option (List ℕ)) : Type 0 where
  pub handed : List ℕ
  pub is_handed : Consumes (Some script) left handed
  pub written : Appends before now (text_of_first (ended_lines (lines_of handed)))
  pub is_capture : IsFrontOfCapture script (text_of_first (ended_lines (lines_of handed)))

-- a run that was done up to the script's end, or up to the first line that breaks a rule, wrote the capture; it ends with Ok only where
-- no byte is left. After a failed read what the whole lines write stands there that were handed out, and after a failed write, or want
-- of memory, what the first lines write and a front of what the next line, or the script's end, writes
abbrev pub RunsScript : Result (Unit {0}) ScriptFault → (left rest told telling : Option (List ℕ)) → Type 0
RunsScript (Ok x) left rest told telling = Tells left (λ script. WritesTheCapture script None told telling) × EndsWhereTold left rest
RunsScript (Err (fault.Line k rule)) left rest told telling = Tells left (λ script. WritesTheCapture script (refusal_at k rule) told telling)
RunsScript (Err fault.ReadFault) left rest told telling = Tells left (λ script. WritesHandedLines script rest told telling)
RunsScript (Err fault.WriteFault) left rest told telling = Tells left (λ script. WritesFirstLines script told telling)
RunsScript (Err fault.OutOfMemory) left rest told telling = Tells left (λ script. WritesFirstLines script told telling)

-- the count of a source's faults rises in a run that fails to read, and only there
abbrev pub ReadsCause : {T : Type 0} → Result T ScriptFault → ℕ → ℕ → Type 0
ReadsCause (Ok x) before now = now ≡ before
ReadsCause (Err (fault.Line k rule)) before now = now ≡ before
ReadsCause (Err fault.ReadFault) before now = Rose before now
ReadsCause (Err fault.WriteFault) before now = now ≡ before
ReadsCause (Err fault.OutOfMemory) before now = now ≡ before

-- the count of a sink's faults rises in a run that fails to write, and only there
abbrev pub WritesCause : {T : Type 0} → Result T ScriptFault → ℕ → ℕ → Type 0
WritesCause (Ok x) before now = now ≡ before
WritesCause (Err (fault.Line k rule)) before now = now ≡ before
WritesCause (Err fault.ReadFault) before now = now ≡ before
WritesCause (Err fault.WriteFault) before now = Rose before now
WritesCause (Err fault.OutOfMemory) before now = now ≡ before
