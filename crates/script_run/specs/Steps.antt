-- What was done where a line of a script was found.
use Rattle.std.specs.Prelude.{◌≡◌, ℕ, List, [], Bool, true, false, ⊤}
use Rattle.std.specs.Io.KnownBytes.{Appends}
use Rattle.std.specs.declared.option.Option.{Option}
use Rattle.std.specs.declared.option.Option.TheVariants.{Some, None}
use Rattle.std.specs.declared.result.Result.{Result}
use Rattle.std.specs.declared.result.Result.TheVariants.{Ok, Err}
use Rattle.px_core.specs.declared.surface.Size.{Size}
use Rattle.edge_io.specs.Sink.{WritesFront}
use Rattle.edge_io.specs.declared.reader.Found.{Found}
use Rattle.edge_io.specs.declared.reader.Found.TheVariants as found
use Rattle.frame_rules.specs.Encoder.{Encoder}
use Rattle.script_rules.specs.Script.{ScriptReading, LineOutcome, opened_reading, with_row}
use Rattle.script_rules.specs.Script.LineOutcome.{Breaks, Invites, Asks}
use Rattle.script_rules.specs.CaptureText.{Run}
use Rattle.script_lines.specs.Lines.{number_of_rule}
use Rattle.script_lines.specs.declared.rule.LineRule.{LineRule}
use Rattle.script_run.specs.declared.fault.ScriptFault.{ScriptFault}
use Rattle.script_run.specs.declared.fault.ScriptFault.TheVariants as fault
use Rattle.script_run.specs.declared.found.Step.{Step}
use Rattle.script_run.specs.declared.found.Step.TheVariants as step
use Rattle.script_run.specs.Run.{WritesCause}
use Rattle.script_run.specs.Outcomes.{found_outcome, reading_by, run_by_outcome, BreaksNone}
use Rattle.script_run.specs.Standing.{DoesStep}
use Rattle.script_run.specs.Solo.{first_run, solo_reading, solo_run}
use Rattle.script_run.specs.Writing.{Writing, line_text, joined}

-- what was answered of a line: the rule that it breaks, with nothing done, or it was done and what it writes was appended
abbrev pub LineAnswered : Writing → LineOutcome → Option LineRule → ScriptReading → Run Encoder → (ScriptReading → Run Encoder → Type 0)
    → (old new : List ℕ) → Type 0
LineAnswered w (Breaks rule) None r run stands old new = ⊥
LineAnswered w (Breaks rule) (Some broken) r run stands old new = (number_of_rule broken ≡ rule) × (new ≡ old) × stands r run
LineAnswered w (Invites row) None r run stands old new = stands (with_row r row) run × (new ≡ old)
LineAnswered w (Invites row) (Some broken) r run stands old new = ⊥
LineAnswered w (Asks a) None r run stands old new = DoesStep w stands r run a old new
LineAnswered w (Asks a) (Some broken) r run stands old new = ⊥

-- a line was done, and what it writes was written
pub record DoesLine (w : Writing) (says : Option LineOutcome) (k : ℕ) (r : ScriptReading) (run : Run Encoder) (stands : ScriptReading → Run Encoder → Type 0)
    (old new : Option (List ℕ)) : Type 0 where
  pub outcome : LineOutcome
  pub is : says ≡ Some outcome
  pub breaks_none : BreaksNone outcome
  pub standing : stands (reading_by r outcome) (run_by_outcome r.head run outcome)
  pub written : Appends old new (line_text w k r run outcome)

-- what was done where a line was found, as the k-th: it was done; the end was written, since there is none; or what a line writes that breaks a rule
abbrev pub DoesFound : Writing → Step → Found → ℕ → ScriptReading → Run Encoder → (ScriptReading → Run Encoder → Type 0) → List ℕ
    → (old new : Option (List ℕ)) → Type 0
DoesFound w step.Done f k r run stands text old new = DoesLine w (found_outcome f r text) k r run stands old new
DoesFound w step.NoLine f k r run stands text old new = (f ≡ found.End) × Appends old new (w.end r)
DoesFound w (step.Refused rule) f k r run stands text old new =
    (found_outcome f r text ≡ Some (Breaks (number_of_rule rule))) × Appends old new (w.broken k r (number_of_rule rule))

-- what was written before the second line: nothing where it is an invite, else what the join of the one viewer does; and what stands behind it
abbrev pub BeginsLines : Writing → Bool → Size → (ScriptReading → Run Encoder → Type 0) → List ℕ → Type 0
BeginsLines w true size stands text = stands (opened_reading size []) (first_run size) × (text ≡ [])
BeginsLines w false size stands text = stands (solo_reading size) (solo_run size) × (text ≡ joined w size)

-- what is answered of it: whether lines may follow, or the line that is refused
abbrev pub answer_of : ℕ → Step → Result Bool ScriptFault
answer_of k step.Done = Ok true
answer_of k step.NoLine = Ok false
answer_of k (step.Refused rule) = Err (fault.Line k (number_of_rule rule))

-- the causes of a fault
abbrev pub FaultCause : ScriptFault → ℕ → ℕ → Type 0
FaultCause f before now = WritesCause {T = Unit {0}} (Err f) before now

-- a fault of a write
abbrev pub IsWriteFault : ScriptFault → Type 0
IsWriteFault (fault.Line line rule) = ⊥
IsWriteFault fault.ReadFault = ⊥
IsWriteFault fault.WriteFault = ⊤
IsWriteFault fault.OutOfMemory = ⊤

-- a first line was refused and what that writes was written, or a fault of the write is answered and a front of it was
abbrev pub Refuses : Writing → ScriptFault → ℕ → Option (List ℕ) → Option (List ℕ) → Type 0
Refuses w (fault.Line line broken) rule old new = (line ≡ 1) × (broken ≡ rule) × Appends old new (w.first rule)
Refuses w fault.ReadFault rule old new = ⊥
Refuses w fault.WriteFault rule old new = WritesFront old new (w.first rule)
Refuses w fault.OutOfMemory rule old new = WritesFront old new (w.first rule)

-- at a fault of the outside nothing is held back
abbrev pub HoldsNone : {T : Type 0} → Result T ScriptFault → List ℕ → Type 0
HoldsNone (Ok x) held = ⊤
HoldsNone (Err (fault.Line line rule)) held = ⊤
HoldsNone (Err fault.ReadFault) held = held ≡ []
HoldsNone (Err fault.WriteFault) held = held ≡ []
HoldsNone (Err fault.OutOfMemory) held = ⊤
