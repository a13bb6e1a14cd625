use Rattle.session_rules.specs.Steps.Step.{JoinStep}
use Rattle.record_run.proofs.Recorders.{on_ok, step_done}
use Rattle.record_run.proofs.recorder.Recorder.record_join.Goals as goal

pub returns-in-Some : goal.returns-in-Some
returns-in-Some c = rw (← c.self.view_is, c.in-Some.is, ← c.new-name.ensures)
    (on_ok c.join.result (λ d r keeps. step_done c.in-Some.session c.join.new.session r (JoinStep c.new-name.result) c.args.out.now.items c.join.new.out.items keeps d) c.join.ensures.done)

pub returns-in-None : goal.returns-in-None
returns-in-None c = rw (← c.self.view_is, ← c.new-name.ensures) c.begin_record.ensures
