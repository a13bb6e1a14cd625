use Rattle.script_run.proofs.hosting.ScriptHost.step.Goals as goal

pub returns-clause-done : goal.returns-clause-done
returns-clause-done c = rw (← c.self.view_is, c.in-Some.is) c.step.ensures.done

pub returns-clause-told : goal.returns-clause-told
returns-clause-told c = rw (← c.self.view_is, c.in-Some.is) c.step.ensures.told
