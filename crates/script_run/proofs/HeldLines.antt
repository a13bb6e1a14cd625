-- A line was found, and what it writes was held back.
use Rattle.std.proofs.Common.{◌≡◌, ℕ, List, [], ◌++◌, ap, ◌∙◌, Some, None, position}
use Rattle.std.specs.Prelude.{Option, Err, ◌==◌}
use Rattle.std.specs.Io.KnownBytes.{Appends, append_known}
use Rattle.std.proofs.KnownBytes.{Appends-nil, Appends-trans}
use Rattle.edge_io.specs.Sink.{WritesFront}
use Rattle.edge_io.specs.Reading.{LineReading, ahead}
use Rattle.edge_io.specs.Finding.{Finds}
use Rattle.edge_io.specs.declared.reader.Found.{Found}
use Rattle.edge_io.specs.declared.reader.Found.TheVariants as found
use Rattle.frame_rules.specs.Encoder.{Encoder}
use Rattle.script_rules.specs.Script.{ScriptReading}
use Rattle.script_rules.specs.CaptureText.{Run}
use Rattle.script_run.specs.declared.fault.ScriptFault.{ScriptFault}
use Rattle.script_run.specs.declared.found.Step.{Step}
use Rattle.script_run.specs.Held.{Holds}
use Rattle.script_run.specs.Steps.{DoesFound, IsWriteFault, answer_of}
use Rattle.script_run.specs.Reading.{Moment, moment, StopsReading}
use Rattle.script_run.specs.Writing.{ByLines, Writing, IsSteady, IsWriting}
use Rattle.script_run.specs.Progress.{NextLineDone}
use Rattle.script_run.proofs.Held.{append_known-nil, held_told, held_grows, front_known, front_later, front_whole, would_append, appends_first}
use Rattle.script_run.proofs.Cut.{nothing_stops}
use Rattle.script_run.proofs.NextLine.{Leads, step_done, step_stops, step_told, stops_at, read_stops}

-- a moment of a run of which text is held back
abbrev pub holding : LineReading → (left told : Option (List ℕ)) → List ℕ → Moment
holding reading left told held = moment reading left (append_known told held)

-- what was found and done, where the text that stands in memory was written or held back behind what was before
done_of : (made : Writing) (laws : IsWriting made) → (step : Step) (f : Found) (whole : ByLines) (begun : List ℕ) (k : ℕ) (r : ScriptReading) (run : Run Encoder) (stands : ScriptReading → Run Encoder → Type 0)
    (old now : LineReading) (left rest told0 told1 telling : Option (List ℕ)) (page0 page1 line : List ℕ)
    → Finds f old now (ahead old left) (ahead now rest) → Leads whole f old.at now.text begun (made.from k old.at r run) → Holds told0 told1 page0 page1 []
    → Appends (append_known told1 page1) telling line → DoesFound made step f k r run stands now.text (Some begun) (Some line)
    → NextLineDone made (answer_of k step) whole k stands told0 (holding old left told0 page0) (moment now rest telling)
done_of made laws step f whole begun k r run stands old now left rest told0 told1 telling page0 page1 line finds leads h w d =
    let shown = append_known told1 page1 in
    step_done made laws step f whole begun k r run stands (holding old left told0 page0) (moment now rest telling) told0 (append_known shown begun) finds leads
    (Appends-trans (append_known told0 page0) shown (append_known shown begun) [] begun (held_told told0 told1 page0 page1 [] h) (appends_first shown begun))
    (step_told made step f k r run stands now.text begun line shown telling d w)

-- it was held back
pub line_held : (made : Writing) (laws : IsWriting made) → (step : Step) (f : Found) (whole : ByLines) (begun : List ℕ) (k : ℕ) (r : ScriptReading) (run : Run Encoder) (stands : ScriptReading → Run Encoder → Type 0)
    (old now : LineReading) (left rest told0 told1 told2 : Option (List ℕ)) (page0 page1 page2 line : List ℕ)
    → Finds f old now (ahead old left) (ahead now rest) → Leads whole f old.at now.text begun (made.from k old.at r run) → Holds told0 told1 page0 page1 []
    → Holds told1 told2 page1 page2 line → DoesFound made step f k r run stands now.text (Some begun) (Some line)
    → NextLineDone made (answer_of k step) whole k stands told0 (holding old left told0 page0) (holding now rest told2 page2)
line_held made laws step f whole begun k r run stands old now left rest told0 told1 told2 page0 page1 page2 line finds leads h i d =
    done_of made laws step f whole begun k r run stands old now left rest told0 told1 (append_known told2 page2) page0 page1 line finds leads h
    (held_told told1 told2 page1 page2 line i) d

-- a front of it was written
pub line_cut : (made : Writing) (laws : IsWriting made) → (answer : ScriptFault) (step : Step) (f : Found) (whole : ByLines) (begun : List ℕ) (k : ℕ) (r : ScriptReading) (run : Run Encoder) (stands : ScriptReading → Run Encoder → Type 0)
    (old now : LineReading) (left rest told0 told1 told2 : Option (List ℕ)) (page0 page1 page2 line : List ℕ) → IsWriteFault answer → IsSteady whole
    → Finds f old now (ahead old left) (ahead now rest) → Leads whole f old.at now.text begun (made.from k old.at r run) → Holds told0 told1 page0 page1 []
    → WritesFront told1 told2 (page1 ++ line) → page2 ≡ [] → DoesFound made step f k r run stands now.text (Some begun) (Some line)
    → NextLineDone made (Err answer) whole k stands told0 (holding old left told0 page0) (holding now rest told2 page2)
line_cut made laws answer step f whole begun k r run stands old now left rest told0 told1 told2 page0 page1 page2 line w s finds leads h i none d =
    let all = append_known told1 (page1 ++ line) in
    stops_at made answer whole k stands told0 (holding old left told0 page0) (holding now rest told2 page2) w (record {
      text = all;
      stops = step_stops made laws step whole k stands told0 (holding old left told0 page0) (moment now rest all) s
          (done_of made laws step f whole begun k r run stands old now left rest told0 told1 all page0 page1 line finds leads h (would_append told1 page1 line) d);
      front = front_later told0 told1 (append_known told2 page2) all (held_grows told0 told1 page0 page1 [] h) (front_known told1 told2 (page1 ++ line) page2 i none);
    })

-- it wasn't come to, for want of memory
pub line_wanting : (made : Writing) → (answer : ScriptFault) (whole : ByLines) (k : ℕ) (stands : ScriptReading → Run Encoder → Type 0) (old now : LineReading) (left rest told0 told1 : Option (List ℕ)) (page0 page1 : List ℕ)
    → IsWriteFault answer → whole.so_far [] ≡ [] → Holds told0 told1 page0 page1 []
    → NextLineDone made (Err answer) whole k stands told0 (holding old left told0 page0) (holding now rest told1 page1)
line_wanting made answer whole k stands old now left rest told0 told1 page0 page1 w none h =
    stops_at made answer whole k stands told0 (holding old left told0 page0) (holding now rest told1 page1) w (record {
      text = append_known told1 page1;
      stops = nothing_stops (ahead old left) (append_known told0 page0) (append_known told1 page1) whole none (held_told told0 told1 page0 page1 [] h);
      front = front_whole told0 told1 page1 (held_grows told0 told1 page0 page1 [] h);
    })

-- it wasn't found, since what was held back couldn't be written
pub line_unfound : (made : Writing) → (answer : ScriptFault) (whole : ByLines) (k : ℕ) (stands : ScriptReading → Run Encoder → Type 0) (old now : LineReading) (left rest told0 told1 : Option (List ℕ)) (page0 page1 : List ℕ)
    → IsWriteFault answer → whole.so_far [] ≡ [] → WritesFront told0 told1 page0 → page1 ≡ []
    → NextLineDone made (Err answer) whole k stands told0 (holding old left told0 page0) (holding now rest told1 page1)
line_unfound made answer whole k stands old now left rest told0 told1 page0 page1 w none f empty =
    stops_at made answer whole k stands told0 (holding old left told0 page0) (holding now rest told1 page1) w (record {
      text = append_known told0 page0;
      stops = nothing_stops (ahead old left) (append_known told0 page0) (append_known told0 page0) whole none (Appends-nil (append_known told0 page0));
      front = front_known told0 told1 page0 page1 f empty;
    })

-- it couldn't be read
pub line_unread : (f : Found) (whole : ByLines) (old now : LineReading) (left rest told0 told1 : Option (List ℕ)) (page0 page1 : List ℕ)
    → Finds f old now (ahead old left) (ahead now rest) → whole.so_far [] ≡ [] → f ≡ found.Failed → Holds told0 told1 page0 page1 []
    → (f ≡ found.Failed → position (λ b. b == 10) now.held ≡ None) → StopsReading whole (holding old left told0 page0) (holding now rest told1 page1)
line_unread f whole old now left rest told0 told1 page0 page1 finds none is h part =
    read_stops f whole (holding old left told0 page0) (holding now rest told1 page1) finds none is (held_told told0 told1 page0 page1 [] h) part

-- nothing is held back
pub holding_none : (reading : LineReading) (left told : Option (List ℕ)) (held : List ℕ) → held ≡ [] → holding reading left told held ≡ moment reading left told
holding_none reading left told held none = ap (λ h. holding reading left told h) none ∙ ap (moment reading left) (append_known-nil told)
