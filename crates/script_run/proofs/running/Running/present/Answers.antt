use Rattle.script_run.proofs.running.Running.present.Goals as goal

pub returns : goal.returns
returns c = rw (← c.self.view_is) c.present.ensures
