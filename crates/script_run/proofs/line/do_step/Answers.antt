use Rattle.std.proofs.Common.{rules}
use Rattle.script_run.proofs.line.do_step.Goals as goal

pub returns : goal.returns
returns g c = search rules

pub step-requires-clause-present : goal.step-requires-clause-present
step-requires-clause-present g c = search rules
