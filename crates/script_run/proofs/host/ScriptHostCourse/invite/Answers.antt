use Rattle.script_run.proofs.HostedSteps.{row_stands}
use Rattle.script_run.proofs.host.ScriptHostCourse.invite.Goals as goal

pub returns : goal.returns
returns c = row_stands c.args.self.now c.invite.new.self (record { name = c.args.name.now; role = c.args.role })
    c.in_ok-invite.ensures.begun c.in_ok-invite.ensures.head c.in_ok-invite.ensures.run
