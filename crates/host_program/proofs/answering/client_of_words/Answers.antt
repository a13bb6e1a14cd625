use Rattle.std.proofs.Common.{sym, ◌∙◌}
use Rattle.script_run.proofs.Inviting.{is_short_ascii}
use Rattle.host_program.proofs.answering.client_of_words.Goals as goal

pub new-owner-requires : goal.new-owner-requires
new-owner-requires c = is_short_ascii c.args.owner.now (sym c.is_name.ensures ∙ c.if-is_name.true)
