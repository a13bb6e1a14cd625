use Rattle.std.proofs.Common.{rules}
use Rattle.answer_run.proofs.put.put_last.Goals as goal

pub returns-in-Refused-clause-written : goal.returns-in-Refused-clause-written
returns-in-Refused-clause-written g c = search rules

pub returns-in-Refused-clause-front : goal.returns-in-Refused-clause-front
returns-in-Refused-clause-front g c = search rules
