use Rattle.record_run.proofs.Recorders.{on_ok, unbegun_stands}
use Rattle.record_run.proofs.recorder.RecorderCourse.end.Goals as goal

pub returns : goal.returns
returns c = on_ok c.write_unbegun.result (λ w. unbegun_stands c.args.self.now c.args.out.now.items c.write_unbegun.new.out.items w) c.write_unbegun.ensures
