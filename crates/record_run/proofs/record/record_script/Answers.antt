use Rattle.record_run.proofs.Recorded.{records_are_written}
use Rattle.record_run.proofs.Whole.{recorded}
use Rattle.record_run.proofs.record.record_script.Goals as goal

pub run_course-requires : goal.run_course-requires
run_course-requires g c = records_are_written

pub returns-clause-record : goal.returns-clause-record
returns-clause-record g c = recorded c.run_course.result (g.S.Source.left c.args.input.now) (g.S.Source.left c.run_course.new.input)
    (g.K.Sink.told c.args.output.now) (g.K.Sink.told c.run_course.new.output) c.run_course.ensures.lines
