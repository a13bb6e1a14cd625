-- The next line was found, and what it asks for was done.
use Rattle.std.proofs.Common.{◌≡◌, ℕ, ◌+◌, ◌<◌, ◌≤◌, List, [], ◌∷◌, ◌++◌, length, refl, ap, sym, ◌∙◌, subst, Some, None, Bool, true, false, append_assoc, position}
use Rattle.std.specs.Prelude.{Option, Ok, Err, ◌==◌}
use Rattle.std.specs.Io.KnownBytes.{Appends, Keeps, IsAtEnd, append_known}
use Rattle.std.proofs.KnownBytes.{Appends-trans}
use Rattle.line_text.specs.Lines.{Line, line_bytes, lines_of, is_past_limits, script_limit}
use Rattle.edge_io.specs.Reading.{LineReading}
use Rattle.edge_io.specs.Finding.{Finds, FindsLine, FindCause}
use Rattle.edge_io.specs.declared.reader.Found.{Found}
use Rattle.edge_io.specs.declared.reader.Found.TheVariants as found
use Rattle.frame_rules.specs.Encoder.{Encoder}
use Rattle.script_rules.specs.Script.{ScriptReading, LineOutcome, line_outcome}
use Rattle.script_rules.specs.Script.LineOutcome.{Breaks, Invites, Asks}
use Rattle.script_rules.specs.CaptureText.{Run}
use Rattle.script_run.specs.declared.fault.ScriptFault.{ScriptFault}
use Rattle.script_run.specs.declared.fault.ScriptFault.TheVariants as fault
use Rattle.script_run.specs.declared.found.Step.{Step}
use Rattle.script_run.specs.declared.found.Step.TheVariants as step
use Rattle.script_lines.specs.Lines.{number_of_rule}
use Rattle.script_run.specs.Run.{Tells, EndsWhereTold, refusal_at, ReadsCause, WritesCause}
use Rattle.script_run.specs.Outcomes.{outcome_within, found_outcome, reading_by, run_by_outcome, BreaksNone}
use Rattle.script_run.specs.Steps.{DoesLine, DoesFound, HoldsNone, IsWriteFault, answer_of}
use Rattle.script_run.specs.Writing.{ByLines, Writing, line_text, Follows, IsSteady, IsWriting}
use Rattle.script_run.specs.Reading.{Moment, ahead_of, WroteSomeLines, AllLinesGive, WroteAllLines}
use Rattle.script_run.specs.Reading.{StopsInALine, StopsReading}
use Rattle.script_run.specs.Progress.{NextLineDone, StopsShort}
use Rattle.script_run.proofs.Cut.{lines_stop, all_stop}
use Rattle.script_run.proofs.Held.{appends_behind}
use Rattle.script_run.proofs.Taken.{line_taken, none_taken}
use Rattle.script_run.proofs.Outcomes.{StartAs, outcome_is, done_is_ended, is_longer, is_inside, found_starts, first_does}

-- ---- what lines give that begin as what was found

-- lines that begin so give this text, and then what the lines from here on give
pub record Leads (whole : ByLines) (f : Found) (at : ℕ) (text : List ℕ) (before : List ℕ) (rest : ByLines) : Type 0 where
  pub writes : (lines : List Line) → StartAs f at text lines → whole.writes lines ≡ before ++ rest.writes lines
  pub so_far : (line : Line) (lines : List Line) → StartAs f at text (line ∷ lines) → whole.so_far (line ∷ lines) ≡ before ++ rest.so_far (line ∷ lines)
  pub refuses : (lines : List Line) → StartAs f at text lines → whole.refuses lines ≡ rest.refuses lines
  pub none_yet : whole.so_far [] ≡ []

pub leads_on : (made : Writing) (laws : IsWriting made) → (f : Found) (k at : ℕ) (text : List ℕ) (r : ScriptReading) (run : Run Encoder) → Leads (made.from k at r run) f at text [] (made.from k at r run)
leads_on made laws f k at text r run = record {
  writes = λ lines s. refl;
  so_far = λ line lines s. refl;
  refuses = λ lines s. refl;
  none_yet = laws.none k at r run;
}

-- ---- a line was done

line_leads : (made : Writing) (laws : IsWriting made) → (whole : ByLines) (text before : List ℕ) (k at next_at : ℕ) (r : ScriptReading) (run : Run Encoder) (o : LineOutcome)
    → Leads whole (found.Line true) at text before (made.from k at r run) → line_outcome at r (record { text = text; ended = true }) ≡ o → BreaksNone o
    → next_at ≡ at + length (line_bytes (record { text = text; ended = true }))
    → Follows whole (record { text = text; ended = true } ∷ []) (before ++ line_text made k r run o)
    (made.from (k + 1) next_at (reading_by r o) (run_by_outcome r.head run o))
line_leads made laws whole text before k at next_at r run o leads is none place =
    let line : Line = record { text = text; ended = true } in
    let rest = made.from (k + 1) next_at (reading_by r o) (run_by_outcome r.head run o) in
    let f = laws.follows line k at next_at r run o is none place in
    let t = line_text made k r run o in
    record {
      writes = λ more. leads.writes (line ∷ more) refl ∙ ap (λ u. before ++ u) (f.writes more) ∙ sym (append_assoc before t (rest.writes more));
      so_far = λ more. leads.so_far line more refl ∙ ap (λ u. before ++ u) (f.so_far more) ∙ sym (append_assoc before t (rest.so_far more));
      refuses = λ more. leads.refuses (line ∷ more) refl ∙ f.refuses more;
    }

one_done : (made : Writing) (laws : IsWriting made) → (whole : ByLines) (before : List ℕ) (k : ℕ) (r : ScriptReading) (run : Run Encoder) (o : LineOutcome) (ended : Bool) (m n : Moment) (mid : Option (List ℕ))
    → ended ≡ true → FindsLine m.reading n.reading (ahead_of m) (ahead_of n) (record { text = n.reading.text; ended = ended })
    → Leads whole (found.Line ended) m.reading.at n.reading.text before (made.from k m.reading.at r run) → outcome_within r n.reading.text ended ≡ o → BreaksNone o
    → Appends m.told mid before → Appends mid n.told (line_text made k r run o)
    → (m.reading.at < n.reading.at) × (n.reading.at ≤ script_limit)
    × WroteSomeLines whole (made.from (k + 1) n.reading.at (reading_by r o) (run_by_outcome r.head run o)) m n
one_done made laws whole before k r run o false m n mid e finds leads is none w v = absurd (cc e)
one_done made laws whole before k r run o true m n mid e finds leads is none w v = (
  is_longer m.reading.at n.reading.at n.reading.text finds.at,
  is_inside m.reading.at n.reading.at (record { text = n.reading.text; ended = true }) finds.at finds.within,
  record {
    lines = record { text = n.reading.text; ended = true } ∷ [];
    text = before ++ line_text made k r run o;
    takes = line_taken (ahead_of m) (ahead_of n) n.reading.text finds.takes.consumes finds.takes.hands_out;
    follows = line_leads made laws whole n.reading.text before k m.reading.at n.reading.at r run o leads
        (outcome_is m.reading.at r n.reading.text true finds.within ∙ is) none finds.at;
    written = Appends-trans m.told mid n.told before (line_text made k r run o) w v;
  },
)

some_is : (a b : LineOutcome) → Some a ≡ Some b → a ≡ b
some_is a b e = cc e

past_is_none : (o : LineOutcome) → Some (Breaks 2) ≡ Some o → BreaksNone o → ⊥
past_is_none (Breaks rule) e none = none
past_is_none (Invites row) e none = cc e
past_is_none (Asks a) e none = cc e

line_done : (made : Writing) (laws : IsWriting made) → (f : Found) (whole : ByLines) (before : List ℕ) (k : ℕ) (r : ScriptReading) (run : Run Encoder) (stands : ScriptReading → Run Encoder → Type 0) (m n : Moment) (told mid : Option (List ℕ))
    → Finds f m.reading n.reading (ahead_of m) (ahead_of n) → Leads whole f m.reading.at n.reading.text before (made.from k m.reading.at r run)
    → Appends m.told mid before → DoesLine made (found_outcome f r n.reading.text) k r run stands mid n.told → NextLineDone made (Ok true) whole k stands told m n
line_done made laws (found.Line ended) whole before k r run stands m n told mid finds leads w d =
    let is = some_is (outcome_within r n.reading.text ended) d.outcome d.is in
    let done = one_done made laws whole before k r run d.outcome ended m n mid (done_is_ended r n.reading.text ended d.outcome is d.breaks_none) finds leads is d.breaks_none w
    d.written in
    (done.0, done.1, record { r = reading_by r d.outcome; run = run_by_outcome r.head run d.outcome; standing = d.standing; wrote = done.2 })
line_done made laws found.PastLimits whole before k r run stands m n told mid finds leads w d = absurd (past_is_none d.outcome d.is d.breaks_none)
line_done made laws found.End whole before k r run stands m n told mid finds leads w d = absurd (cc d.is)
line_done made laws found.Failed whole before k r run stands m n told mid finds leads w d = absurd (cc d.is)

-- ---- no line is left

end_gives : (made : Writing) (laws : IsWriting made) → (ahead : Option (List ℕ)) (f : Found) (whole : ByLines) (before text : List ℕ) (k at : ℕ) (r : ScriptReading) (run : Run Encoder) → f ≡ found.End
    → Leads whole f at text before (made.from k at r run) → IsAtEnd ahead → AllLinesGive ahead whole (before ++ made.end r) None
end_gives made laws None f whole before text k at r run is leads end = tt
end_gives made laws (Some bytes) f whole before text k at r run is leads end =
    let starts : StartAs f at text [] = subst (λ x. StartAs x at text []) (sym is) tt in (
      ap (λ b. whole.writes (lines_of b)) end ∙ leads.writes [] starts ∙ ap (λ t. before ++ t) (laws.ends k at r run).writes,
      ap (λ b. whole.refuses (lines_of b)) end ∙ leads.refuses [] starts ∙ (laws.ends k at r run).refuses,
    )

ends_told : (before now : Option (List ℕ)) → Keeps before now → IsAtEnd before → EndsWhereTold before now
ends_told None now keeps end = tt
ends_told (Some bytes) None keeps end = absurd keeps
ends_told (Some bytes) (Some left) keeps end = keeps ∙ end

end_done : (made : Writing) (laws : IsWriting made) → (f : Found) (whole : ByLines) (before : List ℕ) (k : ℕ) (r : ScriptReading) (run : Run Encoder) (m n : Moment) (mid : Option (List ℕ))
    → Finds f m.reading n.reading (ahead_of m) (ahead_of n) → Leads whole f m.reading.at n.reading.text before (made.from k m.reading.at r run)
    → Appends m.told mid before → f ≡ found.End → Appends mid n.told (made.end r) → EndsWhereTold (ahead_of m) (ahead_of n) × WroteAllLines whole None m n
end_done made laws f whole before k r run m n mid finds leads w is v =
    let ends = subst (λ x. Finds x m.reading n.reading (ahead_of m) (ahead_of n)) is finds in (
      ends_told (ahead_of m) (ahead_of n) ends.0.keeps ends.1,
      record {
        text = before ++ made.end r;
        written = Appends-trans m.told mid n.told before (made.end r) w v;
        gives = end_gives made laws (ahead_of m) f whole before n.reading.text k m.reading.at r run is leads ends.1;
      },
    )

-- ---- a line that breaks a rule

abbrev pub IsWithin : Found → ℕ → List ℕ → Type 0
IsWithin f at text = (ended : Bool) → f ≡ found.Line ended → is_past_limits at (record { text = text; ended = ended }) ≡ false

pub within_is : (f : Found) (m n : Moment) → Finds f m.reading n.reading (ahead_of m) (ahead_of n) → IsWithin f m.reading.at n.reading.text
within_is f m n finds = λ ended is. of_line ended (subst (λ x. Finds x m.reading n.reading (ahead_of m) (ahead_of n)) is finds)
  where
    of_line : (ended : Bool) → FindsLine m.reading n.reading (ahead_of m) (ahead_of n) (record { text = n.reading.text; ended = ended })
        → is_past_limits m.reading.at (record { text = n.reading.text; ended = ended }) ≡ false
    of_line ended line = line.within

breaks_first : (made : Writing) (laws : IsWriting made) → (lines : List Line) (f : Found) (whole : ByLines) (before text : List ℕ) (k rule : ℕ) (old : LineReading) (r : ScriptReading) (run : Run Encoder)
    → Leads whole f old.at text before (made.from k old.at r run) → IsWithin f old.at text → found_outcome f r text ≡ Some (Breaks rule) → StartAs f old.at text lines
    → (whole.writes lines ≡ before ++ made.broken k r rule) × (whole.refuses lines ≡ refusal_at k rule)
breaks_first made laws [] (found.Line ended) whole before text k rule old r run leads within is s = absurd s
breaks_first made laws [] found.PastLimits whole before text k rule old r run leads within is s = absurd s
breaks_first made laws [] found.End whole before text k rule old r run leads within is s = absurd (cc is)
breaks_first made laws [] found.Failed whole before text k rule old r run leads within is s = absurd s
breaks_first made laws (line ∷ lines) f whole before text k rule old r run leads within is s =
    let broken = laws.breaks line lines k old.at rule r run (first_does f old text r line lines (Breaks rule) within s is) in
    (leads.writes (line ∷ lines) s ∙ ap (λ t. before ++ t) broken.writes, leads.refuses (line ∷ lines) s ∙ broken.refuses)

breaks_told : (made : Writing) (laws : IsWriting made) → (ahead : Option (List ℕ)) (f : Found) (whole : ByLines) (before text : List ℕ) (k rule : ℕ) (old : LineReading) (r : ScriptReading) (run : Run Encoder)
    → Leads whole f old.at text before (made.from k old.at r run) → IsWithin f old.at text → found_outcome f r text ≡ Some (Breaks rule)
    → Tells ahead (λ bytes. StartAs f old.at text (lines_of bytes)) → AllLinesGive ahead whole (before ++ made.broken k r rule) (refusal_at k rule)
breaks_told made laws None f whole before text k rule old r run leads within is s = tt
breaks_told made laws (Some bytes) f whole before text k rule old r run leads within is s = breaks_first made laws (lines_of bytes) f whole before text k rule old r run leads within is s

not_failed : (f : Found) (r : ScriptReading) (text : List ℕ) (o : LineOutcome) → found_outcome f r text ≡ Some o → f ≡ found.Failed → ⊥
not_failed (found.Line ended) r text o is e = cc e
not_failed found.PastLimits r text o is e = cc e
not_failed found.End r text o is e = cc e
not_failed found.Failed r text o is e = cc is

line_refused : (made : Writing) (laws : IsWriting made) → (f : Found) (whole : ByLines) (before : List ℕ) (k rule : ℕ) (r : ScriptReading) (run : Run Encoder) (m n : Moment) (mid : Option (List ℕ))
    → Finds f m.reading n.reading (ahead_of m) (ahead_of n) → Leads whole f m.reading.at n.reading.text before (made.from k m.reading.at r run)
    → Appends m.told mid before → found_outcome f r n.reading.text ≡ Some (Breaks rule) → Appends mid n.told (made.broken k r rule)
    → WroteAllLines whole (refusal_at k rule) m n
line_refused made laws f whole before k rule r run m n mid finds leads w is v = record {
  text = before ++ made.broken k r rule;
  written = Appends-trans m.told mid n.told before (made.broken k r rule) w v;
  gives = breaks_told made laws (ahead_of m) f whole before n.reading.text k rule m.reading r run leads (within_is f m n finds) is
      (found_starts f m.reading n.reading (ahead_of m) (ahead_of n) finds (not_failed f r n.reading.text (Breaks rule) is));
}

-- ---- a read that failed

pub read_stops : (f : Found) (whole : ByLines) (m n : Moment) → Finds f m.reading n.reading (ahead_of m) (ahead_of n) → whole.so_far [] ≡ [] → f ≡ found.Failed
    → Appends m.told n.told [] → (f ≡ found.Failed → position (λ b. b == 10) n.reading.held ≡ None) → StopsReading whole m n
read_stops f whole m n finds none is nothing part =
    let kept = subst (λ x. Finds x m.reading n.reading (ahead_of m) (ahead_of n)) is finds in
    record {
      lines = [];
      takes = none_taken (ahead_of m) (ahead_of n) kept.keeps;
      written = subst (Appends m.told n.told) (sym none) nothing;
      part = part is;
    }

-- ---- what was done where the k-th line was found

pub step_done : (made : Writing) (laws : IsWriting made) → (step : Step) (f : Found) (whole : ByLines) (before : List ℕ) (k : ℕ) (r : ScriptReading) (run : Run Encoder) (stands : ScriptReading → Run Encoder → Type 0)
    (m n : Moment) (told mid : Option (List ℕ)) → Finds f m.reading n.reading (ahead_of m) (ahead_of n)
    → Leads whole f m.reading.at n.reading.text before (made.from k m.reading.at r run) → Appends m.told mid before
    → DoesFound made step f k r run stands n.reading.text mid n.told → NextLineDone made (answer_of k step) whole k stands told m n
step_done made laws step.Done f whole before k r run stands m n told mid finds leads w d = line_done made laws f whole before k r run stands m n told mid finds leads w d
step_done made laws step.NoLine f whole before k r run stands m n told mid finds leads w d = end_done made laws f whole before k r run m n mid finds leads w d.0 d.1
step_done made laws (step.Refused rule) f whole before k r run stands m n told mid finds leads w d =
    (refl, line_refused made laws f whole before k (number_of_rule rule) r run m n mid finds leads w d.0 d.1)

-- a run that stopped behind it stopped in a line
pub step_stops : (made : Writing) (laws : IsWriting made) → (step : Step) (whole : ByLines) (k : ℕ) (stands : ScriptReading → Run Encoder → Type 0) (told : Option (List ℕ)) (m n : Moment) → IsSteady whole
    → NextLineDone made (answer_of k step) whole k stands told m n → StopsInALine whole m n
step_stops made laws step.Done whole k stands told m n s d = lines_stop whole (made.from (k + 1) n.reading.at d.2.r d.2.run) m n s (laws.none (k + 1) n.reading.at d.2.r d.2.run) d.2.wrote
step_stops made laws step.NoLine whole k stands told m n s d = all_stop whole None m n s d.1
step_stops made laws (step.Refused rule) whole k stands told m n s d = all_stop whole (refusal_at k (number_of_rule rule)) m n s d.1

-- the text of a line was appended to one that stands in memory, and then the two were written
pub step_told : (made : Writing) → (step : Step) (f : Found) (k : ℕ) (r : ScriptReading) (run : Run Encoder) (stands : ScriptReading → Run Encoder → Type 0) (text begun line : List ℕ) (told telling : Option (List ℕ))
    → DoesFound made step f k r run stands text (Some begun) (Some line) → Appends told telling line
    → DoesFound made step f k r run stands text (append_known told begun) telling
step_told made step.Done f k r run stands text begun line told telling d w = record {
  outcome = d.outcome;
  is = d.is;
  breaks_none = d.breaks_none;
  standing = d.standing;
  written = appends_behind told telling begun (line_text made k r run d.outcome) line d.written w;
}
step_told made step.NoLine f k r run stands text begun line told telling d w = (d.0, appends_behind told telling begun (made.end r) line d.1 w)
step_told made (step.Refused rule) f k r run stands text begun line told telling d w =
    (d.0, appends_behind told telling begun (made.broken k r (number_of_rule rule)) line d.1 w)

-- ---- faults of the source

cause_is_same : (f : Found) (reads read : ℕ) → (f ≡ found.Failed → ⊥) → FindCause f reads read → read ≡ reads
cause_is_same (found.Line ended) reads read other cause = cause
cause_is_same found.PastLimits reads read other cause = cause
cause_is_same found.End reads read other cause = cause
cause_is_same found.Failed reads read other cause = absurd (other refl)

-- what was found was read
pub found_reads : (step : Step) (k : ℕ) (f : Found) (reads read : ℕ) → FindCause f reads read → (f ≡ found.Failed → ⊥) → ReadsCause (answer_of k step) reads read
found_reads step.Done k f reads read cause other = cause_is_same f reads read other cause
found_reads step.NoLine k f reads read cause other = cause_is_same f reads read other cause
found_reads (step.Refused rule) k f reads read cause other = cause_is_same f reads read other cause

-- a write failed behind it, or before it was read
pub fault_reads : (answer : ScriptFault) (reads read : ℕ) → IsWriteFault answer → read ≡ reads → ReadsCause {T = Bool} (Err answer) reads read
fault_reads (fault.Line line rule) reads read w same = absurd w
fault_reads fault.ReadFault reads read w same = absurd w
fault_reads fault.WriteFault reads read w same = same
fault_reads fault.OutOfMemory reads read w same = same

pub found_is_same : (f : Found) (reads read : ℕ) → (f ≡ found.Failed → ⊥) → FindCause f reads read → read ≡ reads
found_is_same f reads read other cause = cause_is_same f reads read other cause

-- its answer is of no fault of a write
pub step_writes : (step : Step) (k before now : ℕ) → now ≡ before → WritesCause (answer_of k step) before now
step_writes step.Done k before now same = same
step_writes step.NoLine k before now same = same
step_writes (step.Refused rule) k before now same = same

pub step_holds : (step : Step) (k : ℕ) (held : List ℕ) → HoldsNone (answer_of k step) held
step_holds step.Done k held = tt
step_holds step.NoLine k held = tt
step_holds (step.Refused rule) k held = tt

pub empty_holds : (answer : ScriptFault) (held : List ℕ) → held ≡ [] → HoldsNone {T = Bool} (Err answer) held
empty_holds (fault.Line line rule) held none = tt
empty_holds fault.ReadFault held none = none
empty_holds fault.WriteFault held none = none
empty_holds fault.OutOfMemory held none = tt

-- ---- a stop in the k-th line

-- a front was written of what a run would have come to that stopped so
pub stops_at : (made : Writing) → (answer : ScriptFault) (whole : ByLines) (k : ℕ) (stands : ScriptReading → Run Encoder → Type 0) (told : Option (List ℕ)) (m n : Moment) → IsWriteFault answer
    → StopsShort whole told m n → NextLineDone made (Err answer) whole k stands told m n
stops_at made (fault.Line line rule) whole k stands told m n w d = absurd w
stops_at made fault.ReadFault whole k stands told m n w d = absurd w
stops_at made fault.WriteFault whole k stands told m n w d = d
stops_at made fault.OutOfMemory whole k stands told m n w d = d

-- the cause of a fault, of whatever it is the answer
pub fault_writes : (answer : ScriptFault) (before now : ℕ) → WritesCause {T = Unit {0}} (Err answer) before now → WritesCause {T = Bool} (Err answer) before now
fault_writes (fault.Line line rule) before now cause = cause
fault_writes fault.ReadFault before now cause = cause
fault_writes fault.WriteFault before now cause = cause
fault_writes fault.OutOfMemory before now cause = cause

pub writes_after : (answer : ScriptFault) (first mid now : ℕ) → mid ≡ first → WritesCause {T = Bool} (Err answer) mid now → WritesCause {T = Bool} (Err answer) first now
writes_after answer first mid now same cause = subst (λ n. WritesCause {T = Bool} (Err answer) n now) same cause

-- a read that failed
pub read_cause : (f : Found) (reads read : ℕ) → f ≡ found.Failed → FindCause f reads read → ReadsCause {T = Bool} (Err fault.ReadFault) reads read
read_cause f reads read is cause = subst (λ x. FindCause x reads read) is cause
