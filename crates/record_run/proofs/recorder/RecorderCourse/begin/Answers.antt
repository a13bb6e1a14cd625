use Rattle.record_run.proofs.Recorders.{first_stands}
use Rattle.record_run.proofs.recorder.RecorderCourse.begin.Goals as goal

pub returns : goal.returns
returns c = first_stands c.new.result c.args.size c.new.ensures.begun c.new.ensures.head c.new.ensures.journal
