use Rattle.record_run.proofs.Recorders.{on_ok, row_stands}
use Rattle.record_run.proofs.recorder.RecorderCourse.invite.Goals as goal

pub returns : goal.returns
returns c = on_ok c.add_row.result (λ k. row_stands c.args.self.now c.add_row.new.self (record { name = c.args.name.now; role = c.args.role }) k) c.add_row.ensures
