use Rattle.std.proofs.Common.{◌≡◌, suc, ◌-◌}
use Rattle.std.specs.Prelude.{if◌then◌else◌}
use Rattle.line_text.specs.Lines.{script_limit}
use Rattle.script_run.specs.Held.{Grows}
use Rattle.script_run.specs.Standing.{Stands}
use Rattle.script_run.specs.Reading.{moment}
use Rattle.script_run.specs.Progress.{LinesDoneSoFar}
use Rattle.script_run.proofs.HeldLines.{holding}
use Rattle.script_run.proofs.lines.hold_lines.Given as goal

abbrev pub invariant-loop-goes_on : goal.invariant-loop-goes_on
invariant-loop-goes_on g l = record {
  done : LinesDoneSoFar g.C.Course.writing l.goes_on (g.C.Course.writing.rest l.fn.size l.fn.reader.at) l.k (Stands (g.C.Course.seen l.course) (g.C.Course.keeps l.course)) (moment l.fn.reader (g.S.Source.left l.fn.input) (g.K.Sink.told l.fn.output))
      (holding l.reader (g.S.Source.left l.input) (g.K.Sink.told l.output) l.page);
  grows : Grows (g.K.Sink.told l.fn.output) (g.K.Sink.told l.output);
  read : g.S.Source.faults l.input ≡ g.S.Source.faults l.fn.input;
  write : g.K.Sink.faults l.output ≡ g.K.Sink.faults l.fn.output;
}

abbrev pub decreases-loop-goes_on : goal.decreases-loop-goes_on
decreases-loop-goes_on g l = if l.goes_on then suc (script_limit - l.reader.at) else 0
