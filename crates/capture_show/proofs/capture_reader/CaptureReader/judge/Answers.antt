use Rattle.std.proofs.Common.{refl}
use Rattle.script_rules.specs.Capture.{line_read}
use Rattle.capture_show.specs.Lines.{Says}
use Rattle.capture_show.proofs.Judging.{next_number}
use Rattle.capture_show.proofs.capture_reader.CaptureReader.judge.Goals as goal

pub returns-clause-judged : goal.returns-clause-judged
returns-clause-judged c = λ k joined stands.
    let s = rw (← c.self.view_is) at stands in
    let bytes = c.read_line.new.bytes.items in
    let said : Says c.self.inside.viewer bytes c.in_ok-said.said (line_read (record { text = c.self.inside.lines.text; ended = c.args.ended })) =
    rw c.text.ensures at c.in_ok-said.ensures in
    rw (← c.self.view_is) (record {
      judges = rw (said.says, ← s.line) (c.tell-told.ensures.judged joined said.given bytes s.joined_are said.theirs);
      after = next_number c.self.inside.line c.saturating_add-self-inside.result k s.line c.saturating_add-self-inside.ensures;
      viewer = refl;
    })
