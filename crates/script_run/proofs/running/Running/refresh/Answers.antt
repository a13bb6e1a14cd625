use Rattle.std.proofs.Common.{refl}
use Rattle.std.specs.Prelude.{true}
use Rattle.session_rules.specs.Steps.Step.{RefreshStep}
use Rattle.script_rules.specs.Script.{without_preset}
use Rattle.script_run.specs.Hosts.{HostModel}
use Rattle.script_run.proofs.StepsOn.{suppressed_same, refresh_on}
use Rattle.script_run.proofs.running.Running.refresh.Goals as goal

pub returns-clause-done : goal.returns-clause-done
returns-clause-done c =
    let s = c.self.inside.session in
    let t = c.refresh.new.self in
    let e = c.refresh.ensures in
    let host : HostModel = record { begun = true; session = s; seats = c.self.inside.seats.items } in
    let new : HostModel = record { begun = true; session = t; seats = c.self.inside.seats.items } in
    let mine = rw (← c.self.view_is) at c.requires.present in
    rw (← c.self.view_is) (λ run preset r. record {
      line = refl;
      is_run = refresh_on host new run (without_preset (RefreshStep c.args.viewer c.args.rect)) c.args.viewer c.args.rect refl r mine e.head e.journal e.asked
          (suppressed_same s t e.suppressed) refl;
    })
