use Rattle.std.proofs.Common.{sym, ◌∙◌}
use Rattle.script_run.proofs.Inviting.{is_short_ascii}
use Rattle.worked_runs.proofs.job.serve.Goals as goal

pub new-name-requires : goal.new-name-requires
new-name-requires c = is_short_ascii c.args.owner.now (sym c.is_name.ensures ∙ c.if-is_name.true)
