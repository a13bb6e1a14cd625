use Rattle.script_run.proofs.Captured.{captures_are_written}
use Rattle.script_run.proofs.Whole.{captured}
use Rattle.script_run.proofs.script.run_script.Goals as goal

pub run_course-requires : goal.run_course-requires
run_course-requires g c = captures_are_written

pub returns-clause-capture : goal.returns-clause-capture
returns-clause-capture g c = captured c.run_course.result (g.S.Source.left c.args.input.now) (g.S.Source.left c.run_course.new.input)
    (g.K.Sink.told c.args.output.now) (g.K.Sink.told c.run_course.new.output) c.run_course.ensures.lines
