use Rattle.std.proofs.Common.{rules}
use Rattle.answer_run.proofs.answer.answer_of.Goals as goal

pub returns-in-NotInvited : goal.returns-in-NotInvited
returns-in-NotInvited c = search rules
