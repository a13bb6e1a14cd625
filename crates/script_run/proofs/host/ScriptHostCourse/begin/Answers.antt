use Rattle.script_run.proofs.HostedSteps.{first_stands}
use Rattle.script_run.proofs.host.ScriptHostCourse.begin.Goals as goal

pub returns : goal.returns
returns c = first_stands c.new.result c.args.size c.new.ensures.begun c.new.ensures.head c.new.ensures.run
