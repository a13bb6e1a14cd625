use Rattle.std.proofs.Common.{rules}
use Rattle.answer_run.proofs.heard.end_of.Goals as goal

pub returns-in-Some : goal.returns-in-Some
returns-in-Some c = search rules
