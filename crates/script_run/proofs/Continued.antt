-- Lines that were done, and then more lines.
use Rattle.std.proofs.Common.{◌≡◌, ℕ, List, ◌++◌, ap, sym, ◌∙◌, subst, Some, None, append_assoc}
use Rattle.std.specs.Prelude.{Option}
use Rattle.std.specs.Io.KnownBytes.{Appends}
use Rattle.std.proofs.KnownBytes.{Appends-trans}
use Rattle.line_text.specs.Lines.{Line, lines_of}
use Rattle.script_rules.specs.Script.{LineRefusal}
use Rattle.headline.specs.Fronts.{IsFront}
use Rattle.script_run.specs.Run.{Tells, EndsWhereTold}
use Rattle.script_run.specs.Writing.{ByLines, Follows, with_next}
use Rattle.script_run.specs.Reading.{Moment, ahead_of, TakesLines, TakesLinesOf, WroteSomeLines, AllLinesGive, WroteAllLines}
use Rattle.script_run.specs.Reading.{WroteDoneLines, StopsInALine, StopsReading}
use Rattle.script_run.proofs.Fronts.{front_behind}
use Rattle.script_run.proofs.Following.{follows_on, next_behind}
use Rattle.script_run.proofs.Taken.{taken_on, lines_are}

-- said of all bytes
pub tells_of_all : (before : Option (List ℕ)) (says : List ℕ → Type 0) → ((bytes : List ℕ) → says bytes) → Tells before says
tells_of_all None says all = tt
tells_of_all (Some bytes) says all = all bytes

pub some_and_then_some : (whole rest last : ByLines) (before between now : Moment) → WroteSomeLines whole rest before between → WroteSomeLines rest last between now
    → WroteSomeLines whole last before now
some_and_then_some whole rest last before between now g h = record {
  lines = g.lines ++ h.lines;
  text = g.text ++ h.text;
  takes = taken_on (ahead_of before) (ahead_of between) (ahead_of now) g.lines h.lines g.takes h.takes;
  follows = follows_on whole rest last g.lines h.lines g.text h.text g.follows h.follows;
  written = Appends-trans before.told between.told now.told g.text h.text g.written h.written;
}

pub ends_later : (before between now : Option (List ℕ)) (lines : List Line) → TakesLines before between lines → EndsWhereTold between now → EndsWhereTold before now
ends_later None between now lines t e = tt
ends_later (Some bytes) None now lines t e = absurd t
ends_later (Some bytes) (Some left) now lines t e = e

gives_of : (bytes left text more : List ℕ) (lines : List Line) (whole rest : ByLines) (refused : Option LineRefusal) → TakesLinesOf bytes left lines
    → Follows whole lines text rest → rest.writes (lines_of left) ≡ more → rest.refuses (lines_of left) ≡ refused
    → (whole.writes (lines_of bytes) ≡ text ++ more) × (whole.refuses (lines_of bytes) ≡ refused)
gives_of bytes left text more lines whole rest refused t f writes refuses = (
  ap whole.writes (lines_are bytes left lines t) ∙ f.writes (lines_of left) ∙ ap (λ m. text ++ m) writes,
  ap whole.refuses (lines_are bytes left lines t) ∙ f.refuses (lines_of left) ∙ refuses,
)

gives_later : (before between : Option (List ℕ)) (text more : List ℕ) (lines : List Line) (whole rest : ByLines) (refused : Option LineRefusal)
    → TakesLines before between lines → Follows whole lines text rest → AllLinesGive between rest more refused → AllLinesGive before whole (text ++ more) refused
gives_later None between text more lines whole rest refused t f g = tt
gives_later (Some bytes) None text more lines whole rest refused t f g = absurd t
gives_later (Some bytes) (Some left) text more lines whole rest refused t f g = gives_of bytes left text more lines whole rest refused t f g.0 g.1

pub some_and_then_all : (whole rest : ByLines) (refused : Option LineRefusal) (before between now : Moment) → WroteSomeLines whole rest before between
    → WroteAllLines rest refused between now → WroteAllLines whole refused before now
some_and_then_all whole rest refused before between now g s = record {
  text = g.text ++ s.text;
  written = Appends-trans before.told between.told now.told g.text s.text g.written s.written;
  gives = gives_later (ahead_of before) (ahead_of between) g.text s.text g.lines whole rest refused g.takes g.follows s.gives;
}

-- ---- lines that were stopped

-- what was written behind lines that were done
text_behind : (whole rest : ByLines) (lines done : List Line) (text front : List ℕ) → Follows whole lines text rest
    → text ++ (rest.so_far done ++ front) ≡ whole.so_far (lines ++ done) ++ front
text_behind whole rest lines done text front f = sym (append_assoc text (rest.so_far done) front) ∙ ap (λ t. t ++ front) (sym (f.so_far done))

done_later : (bytes left : List ℕ) (whole rest : ByLines) (text : List ℕ) (lines : List Line) (told mid telling : Option (List ℕ)) → TakesLinesOf bytes left lines
    → Follows whole lines text rest → Appends told mid text → WroteDoneLines rest (lines_of left) mid telling → WroteDoneLines whole (lines_of bytes) told telling
done_later bytes left whole rest text lines told mid telling t f w d =
    let behind = text_behind whole rest lines d.done text d.front f in
    record {
      done = lines ++ d.done;
      rest = d.rest;
      front = d.front;
      are_first = lines_are bytes left lines t ∙ ap (λ ls. lines ++ ls) d.are_first ∙ sym (append_assoc lines d.done d.rest);
      written = subst (Appends told telling) behind (Appends-trans told mid telling text (rest.so_far d.done ++ d.front) w d.written);
      is_front = subst (λ x. IsFront x (with_next whole (lines ++ d.done) d.rest)) behind
          (subst (IsFront (text ++ (rest.so_far d.done ++ d.front))) (sym (next_behind whole rest lines d.done d.rest text f))
          (front_behind text (rest.so_far d.done ++ d.front) (with_next rest d.done d.rest) d.is_front));
    }

stops_behind : (before between : Option (List ℕ)) (whole rest : ByLines) (text : List ℕ) (lines : List Line) (told mid telling : Option (List ℕ))
    → TakesLines before between lines → Follows whole lines text rest → Appends told mid text → Tells between (λ bytes. WroteDoneLines rest (lines_of bytes) mid telling)
    → Tells before (λ bytes. WroteDoneLines whole (lines_of bytes) told telling)
stops_behind None between whole rest text lines told mid telling t f w d = tt
stops_behind (Some bytes) None whole rest text lines told mid telling t f w d = absurd t
stops_behind (Some bytes) (Some left) whole rest text lines told mid telling t f w d = done_later bytes left whole rest text lines told mid telling t f w d

pub stops_later : (whole rest : ByLines) (before between now : Moment) → WroteSomeLines whole rest before between → StopsInALine rest between now
    → StopsInALine whole before now
stops_later whole rest before between now g d =
    stops_behind (ahead_of before) (ahead_of between) whole rest g.text g.lines before.told between.told now.told g.takes g.follows g.written d

pub reading_later : (whole rest : ByLines) (before between now : Moment) → WroteSomeLines whole rest before between → StopsReading rest between now
    → StopsReading whole before now
reading_later whole rest before between now g s = record {
  lines = g.lines ++ s.lines;
  takes = taken_on (ahead_of before) (ahead_of between) (ahead_of now) g.lines s.lines g.takes s.takes;
  written = subst (Appends before.told now.told) (sym (g.follows.so_far s.lines))
      (Appends-trans before.told between.told now.told g.text (rest.so_far s.lines) g.written s.written);
  part = s.part;
}
