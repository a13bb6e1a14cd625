use Rattle.std.proofs.Common.{◌∙◌, ap, sym}
use Rattle.session_rules.specs.Journal.{Reached}
use Rattle.script_run.proofs.hosting.ScriptHost.holder.Goals as goal

pub returns-in-Some : goal.returns-in-Some
returns-in-Some c = rw (← c.self.view_is, c.in-Some.is) (λ run r. c.holder.ensures ∙ ap (λ (x : Reached). x.holder) (sym r.reached))

pub returns-in-None : goal.returns-in-None
returns-in-None c = rw (← c.self.view_is, c.in-None.is) (λ run r. sym (ap (λ (x : Reached). x.holder) r.reached))
