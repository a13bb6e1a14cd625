use Rattle.std.proofs.Common.{refl}
use Rattle.std.specs.Prelude.{true}
use Rattle.session_rules.specs.Steps.Step.{SuppressStep}
use Rattle.script_rules.specs.Script.{without_preset}
use Rattle.script_run.specs.Hosts.{HostModel}
use Rattle.script_run.proofs.StepsOn.{asked_same, suppress_on}
use Rattle.script_run.proofs.running.Running.suppress.Goals as goal

pub returns-clause-done : goal.returns-clause-done
returns-clause-done c =
    let s = c.self.inside.session in
    let t = c.suppress.new.self in
    let e = c.suppress.ensures in
    let host : HostModel = record { begun = true; session = s; seats = c.self.inside.seats.items } in
    let new : HostModel = record { begun = true; session = t; seats = c.self.inside.seats.items } in
    let mine = rw (← c.self.view_is) at c.requires in
    rw (← c.self.view_is) (λ run preset r. record {
      line = refl;
      is_run = suppress_on host new run (without_preset (SuppressStep c.args.viewer c.args.stop)) c.args.viewer c.args.stop refl r mine e.head e.journal (asked_same s t e.asked)
          e.suppressed refl;
    })
