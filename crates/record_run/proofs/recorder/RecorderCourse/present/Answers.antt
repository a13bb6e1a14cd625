use Rattle.record_run.proofs.recorder.RecorderCourse.present.Goals as goal

pub returns-in-Some : goal.returns-in-Some
returns-in-Some c = rw (← c.self.view_is, c.in-Some.is) c.present.ensures
