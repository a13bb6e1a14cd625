use Rattle.std.proofs.Common.{rules}
use Rattle.capture_show.specs.Reading.{ahead}
use Rattle.capture_show.proofs.Steps.{at_next, at_end}
use Rattle.capture_show.proofs.read.read_capture.Goals as goal

pub returns-in-End-clause-stage : goal.returns-in-End-clause-stage
returns-in-End-clause-stage g c =
    let found = rw c.in-End.is at c.in_ok-told.ensures.found in
    let now = c.loop.invariant.at in
    at_end c.args.viewer c.loop.stage c.finish.new.stage c.loop.reader (g.S.Source.left c.args.input.now) (ahead c.loop.reader (g.S.Source.left c.loop.input)) (g.S.Source.left c.next_line.new.input)
    now (found now.k now.joined now.before) c.in_ok-finish-in-End.ensures

pub loop-preserved : goal.loop-preserved
loop-preserved g c =
    let now = c.loop.invariant.at in
    record {
      at = at_next c.in_ok-told.told c.in_default.not-End c.in_default.not-Failed c.args.viewer c.loop.stage c.advance.new.stage c.loop.reader c.next_line.new.self
          (g.S.Source.left c.args.input.now) (ahead c.loop.reader (g.S.Source.left c.loop.input)) (ahead c.next_line.new.self (g.S.Source.left c.next_line.new.input))
          (g.S.Source.left c.next_line.new.input) c.bytes.result.now now (c.in_ok-told.ensures.found now.k now.joined now.before) c.bytes.ensures c.in_ok-advance-in_default.ensures;
      faults = search rules;
    }
