use Rattle.record_run.proofs.Recorders.{step_stands}
use Rattle.record_run.proofs.recorder.RecorderCourse.join.Goals as goal

pub returns : goal.returns
returns c = step_stands c.args.self.now c.record_join.new.self _ c.args.out.now.items c.record_join.new.out.items c.in_ok-record_join.ensures
