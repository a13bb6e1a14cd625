use Rattle.std.proofs.Common.{◌∙◌, ap, sym}
use Rattle.session_rules.specs.Journal.{Reached, is_present}
use Rattle.script_run.proofs.hosting.ScriptHost.present.Goals as goal

pub returns-in-Some-clause-here : goal.returns-in-Some-clause-here
returns-in-Some-clause-here c = rw (← c.self.view_is, c.in-Some.is) c.present.ensures

pub returns-in-Some-clause-in_run : goal.returns-in-Some-clause-in_run
returns-in-Some-clause-in_run c =
    rw (← c.self.view_is, c.in-Some.is) (λ run r. c.present.ensures ∙ ap (λ (x : Reached). is_present c.args.viewer x.viewers) (sym r.reached))
