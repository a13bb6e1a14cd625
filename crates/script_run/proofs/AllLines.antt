-- What a script's lines come to is what all of them write, and what they refuse.
use Rattle.std.proofs.Common.{◌≡◌, ℕ, List, [], ◌∷◌, ◌++◌, refl, ap, sym, ◌∙◌, subst, Some, None, append_assoc, position}
use Rattle.std.specs.Prelude.{Option, Result, Ok, Err, ◌==◌}
use Rattle.std.specs.Io.KnownBytes.{Appends, IsAtEnd, prepend_known}
use Rattle.std.proofs.KnownBytes.{prepend_known-nil, Appends-nil}
use Rattle.edge_io.specs.Sink.{WritesFront}
use Rattle.edge_io.specs.Reading.{LineReading, new_reading, ahead}
use Rattle.px_core.specs.declared.surface.Size.{Size}
use Rattle.line_text.specs.Lines.{Line, lines_of}
use Rattle.script_rules.specs.Script.{LineRefusal}
use Rattle.headline.specs.Fronts.{IsFront}
use Rattle.script_lines.specs.Lines.{number_of_rule}
use Rattle.script_lines.specs.declared.rule.LineRule.{LineRule}
use Rattle.script_run.specs.declared.fault.ScriptFault.{ScriptFault}
use Rattle.script_run.specs.declared.fault.ScriptFault.TheVariants as fault
use Rattle.script_run.specs.declared.opening.FirstLine.{FirstLine}
use Rattle.script_run.specs.declared.opening.FirstLine.TheVariants as first
use Rattle.script_run.specs.Done.{bytes_of_lines}
use Rattle.script_run.specs.Run.{Tells, EndsWhereTold, refusal_at}
use Rattle.script_run.specs.Steps.{Refuses}
use Rattle.script_run.specs.Writing.{ByLines, Writing, RefusesFirst, IsWriting, with_next}
use Rattle.script_run.specs.Reading.{Moment, moment, ahead_of, TakesLines, TakesLinesOf, AllLinesGive, WroteDoneLines, Opens, WroteAll, WroteHandedLines, RunsLines}
use Rattle.script_run.specs.Progress.{AllLinesDone}
use Rattle.script_run.proofs.Fronts.{nothing_is_front}
use Rattle.script_run.proofs.Taken.{lines_are, whole_lines_are}
use Rattle.script_run.proofs.Continued.{tells_of_all}
use Rattle.script_run.proofs.Progressed.{all_after}

-- ---- all lines

told_all : (whole : ByLines) (left told telling : Option (List ℕ)) (refused : Option LineRefusal) (text : List ℕ) → Appends told telling text
    → AllLinesGive left whole text refused → Tells left (λ script. WroteAll whole refused (lines_of script) told telling)
told_all whole None told telling refused text w gives = tt
told_all whole (Some script) told telling refused text w gives = record { written = subst (Appends told telling) (sym gives.0) w; refuses = gives.1 }

nothing_after : (held bytes : List ℕ) → held ++ bytes ≡ [] → bytes ≡ []
nothing_after [] bytes e = e
nothing_after (b ∷ bs) bytes e = absurd (cc e)

held_ends : (held : List ℕ) (rest : Option (List ℕ)) → IsAtEnd (prepend_known held rest) → IsAtEnd rest
held_ends held None end = tt
held_ends held (Some bytes) end = nothing_after held bytes end

source_ends : (left rest : Option (List ℕ)) (held : List ℕ) → EndsWhereTold left (prepend_known held rest) → EndsWhereTold left rest
source_ends None rest held end = tt
source_ends (Some bytes) rest held end = held_ends held rest end

-- ---- the whole lines that were handed out

handed_lines : (whole : ByLines) (script held rest : List ℕ) (lines : List Line) (told telling : Option (List ℕ)) → TakesLinesOf script (held ++ rest) lines
    → position (λ b. b == 10) held ≡ None → Appends told telling (whole.so_far lines) → WroteHandedLines whole script (Some rest) told telling
handed_lines whole script held rest lines told telling t part w = record {
  lines = lines;
  more = lines_of (held ++ rest);
  handed = bytes_of_lines lines ++ held;
  is_handed = t.consumes ∙ sym (append_assoc (bytes_of_lines lines) held rest);
  are_whole = whole_lines_are script (held ++ rest) held lines t part;
  are_first = lines_are script (held ++ rest) lines t;
  written = w;
}

told_handed : (whole : ByLines) (left rest : Option (List ℕ)) (held : List ℕ) (lines : List Line) (told telling : Option (List ℕ)) → TakesLines left (prepend_known held rest) lines
    → position (λ b. b == 10) held ≡ None → Appends told telling (whole.so_far lines) → Tells left (λ script. WroteHandedLines whole script rest told telling)
told_handed whole None rest held lines told telling t part w = tt
told_handed whole (Some script) None held lines told telling t part w = absurd t
told_handed whole (Some script) (Some rest) held lines told telling t part w = handed_lines whole script held rest lines told telling t part w

-- ---- the run

all_run : (whole : ByLines) (result : Result (Unit {0}) ScriptFault) (left rest told telling : Option (List ℕ)) (old now : LineReading) → ahead old left ≡ left
    → AllLinesDone result whole (moment old left told) (moment now rest telling) → RunsLines result whole left rest told telling
all_run whole (Ok x) left rest told telling old now same d = (
  told_all whole left told telling None d.1.text d.1.written (subst (λ b. AllLinesGive b whole d.1.text None) same d.1.gives),
  source_ends left rest now.held (subst (λ b. EndsWhereTold b (ahead now rest)) same d.0),
)
all_run whole (Err (fault.Line line rule)) left rest told telling old now same d =
    told_all whole left told telling (refusal_at line rule) d.text d.written (subst (λ b. AllLinesGive b whole d.text (refusal_at line rule)) same d.gives)
all_run whole (Err fault.ReadFault) left rest told telling old now same d =
    told_handed whole left rest now.held d.lines told telling (subst (λ b. TakesLines b (ahead now rest) d.lines) same d.takes) d.part d.written
all_run whole (Err fault.WriteFault) left rest told telling old now same d =
    subst (λ b. Tells b (λ bytes. WroteDoneLines whole (lines_of bytes) told telling)) same d
all_run whole (Err fault.OutOfMemory) left rest told telling old now same d =
    subst (λ b. Tells b (λ bytes. WroteDoneLines whole (lines_of bytes) told telling)) same d

all_ahead : (old : LineReading) (left : Option (List ℕ)) → old ≡ new_reading → ahead old left ≡ left
all_ahead old left begins = ap (λ r. ahead r left) begins ∙ prepend_known-nil left

-- a run whose first line gives a size, and which did all lines after it, did all lines
pub sized_run : (made : Writing) (result : Result (Unit {0}) ScriptFault) (answer : FirstLine) (size : Size) (old between now : LineReading)
    (left mid rest told telling : Option (List ℕ)) → answer ≡ first.Sized size → old ≡ new_reading → Opens made answer (moment old left told) (moment between mid told)
    → AllLinesDone result (made.rest size between.at) (moment between mid told) (moment now rest telling) → RunsLines result made.script left rest told telling
sized_run made result answer size old between now left mid rest told telling is begins opens d =
    let sized : Opens made (first.Sized size) (moment old left told) (moment between mid told) = subst
    (λ a. Opens made a (moment old left told) (moment between mid told)) is opens in
    all_run made.script result left rest told telling old now (all_ahead old left begins)
    (all_after result made.script (made.rest size between.at) (moment old left told) (moment between mid told) (moment now rest telling) sized.1 d)

-- a run whose first line couldn't be read wrote nothing
pub failed_run : (made : Writing) (answer : FirstLine) (old between : LineReading) (left mid told : Option (List ℕ)) → answer ≡ first.Failed → old ≡ new_reading
    → Opens made answer (moment old left told) (moment between mid told) → RunsLines (Err fault.ReadFault) made.script left mid told told
failed_run made answer old between left mid told is begins opens = all_run made.script (Err fault.ReadFault) left mid told told old between (all_ahead old left begins)
    (subst (λ a. Opens made a (moment old left told) (moment between mid told)) is opens)

-- ---- a run whose first line breaks a rule

refuses_all : (made : Writing) (left : Option (List ℕ)) (line broken rule : ℕ) → line ≡ 1 → broken ≡ rule → Tells left (λ bytes. RefusesFirst made (lines_of bytes) rule)
    → AllLinesGive left made.script (made.first rule) (refusal_at line broken)
refuses_all made None line broken rule first same r = tt
refuses_all made (Some bytes) line broken rule first same r = (
  r.writes,
  r.refuses ∙ ap (refusal_at 1) (sym same) ∙ ap (λ l. refusal_at l broken) (sym first),
)

refusal_front : (made : Writing) (left told telling : Option (List ℕ)) (rule : ℕ) → made.script.so_far [] ≡ [] → Tells left (λ bytes. RefusesFirst made (lines_of bytes) rule)
    → WritesFront told telling (made.first rule) → Tells left (λ bytes. WroteDoneLines made.script (lines_of bytes) told telling)
refusal_front made None told telling rule none r f = tt
refusal_front made (Some bytes) told telling rule none r f =
    let behind : f.front ≡ made.script.so_far [] ++ f.front = ap (λ t. t ++ f.front) (sym none) in
    record {
      done = [];
      rest = lines_of bytes;
      front = f.front;
      are_first = refl;
      written = subst (Appends told telling) behind f.written;
      is_front = record { rest = f.rest; joined = r.next ∙ f.whole ∙ ap (λ t. t ++ f.rest) behind };
    }

first_refused : (made : Writing) (answer : ScriptFault) (rule : ℕ) (m n : Moment) → made.script.so_far [] ≡ [] → Tells (ahead_of m) (λ bytes. RefusesFirst made (lines_of bytes) rule)
    → Refuses made answer rule m.told n.told → AllLinesDone (Err answer) made.script m n
first_refused made (fault.Line line broken) rule m n none r d = record {
  text = made.first rule;
  written = d.2;
  gives = refuses_all made (ahead_of m) line broken rule d.0 d.1 r;
}
first_refused made fault.ReadFault rule m n none r d = absurd d
first_refused made fault.WriteFault rule m n none r d = refusal_front made (ahead_of m) m.told n.told rule none r d
first_refused made fault.OutOfMemory rule m n none r d = refusal_front made (ahead_of m) m.told n.told rule none r d

-- what it writes was written
pub broken_run : (made : Writing) (laws : IsWriting made) (answer : FirstLine) (refusal : ScriptFault) (rule : LineRule) (old between : LineReading)
    (left mid told telling : Option (List ℕ)) → answer ≡ first.Breaks rule → old ≡ new_reading → Opens made answer (moment old left told) (moment between mid told)
    → Refuses made refusal (number_of_rule rule) told telling → RunsLines (Err refusal) made.script left mid told telling
broken_run made laws answer refusal rule old between left mid told telling is begins opens d =
    all_run made.script (Err refusal) left mid told telling old between (all_ahead old left begins)
    (first_refused made refusal (number_of_rule rule) (moment old left told) (moment between mid telling) laws.none_at_first
    (subst (λ a. Opens made a (moment old left told) (moment between mid told)) is opens) d)

-- a run that had no memory for a buffer wrote nothing
nothing_done : (whole : ByLines) (script : List ℕ) (told : Option (List ℕ)) → whole.so_far [] ≡ [] → WroteDoneLines whole (lines_of script) told told
nothing_done whole script told none = record {
  done = [];
  rest = lines_of script;
  front = [];
  are_first = refl;
  written = subst (λ t. Appends told told (t ++ [])) (sym none) (Appends-nil told);
  is_front = subst (λ t. IsFront (t ++ []) (with_next whole [] (lines_of script))) (sym none) (nothing_is_front (with_next whole [] (lines_of script)));
}

pub nothing_run : (whole : ByLines) (left told : Option (List ℕ)) → whole.so_far [] ≡ [] → Tells left (λ script. WroteDoneLines whole (lines_of script) told told)
nothing_run whole left told none = tells_of_all left (λ script. WroteDoneLines whole (lines_of script) told told) (λ script. nothing_done whole script told none)
