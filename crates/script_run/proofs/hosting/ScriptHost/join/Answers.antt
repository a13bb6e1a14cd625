use Rattle.script_run.proofs.hosting.ScriptHost.join.Goals as goal

pub returns-in-Some-clause-done : goal.returns-in-Some-clause-done
returns-in-Some-clause-done c = rw (← c.self.view_is, c.in-Some.is, ← c.new-name.ensures) c.join.ensures.done

pub returns-in-None-clause-done : goal.returns-in-None-clause-done
returns-in-None-clause-done c = rw (← c.self.view_is, ← c.new-name.ensures) c.begin.ensures.done
