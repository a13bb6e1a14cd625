use Rattle.std.proofs.Common.{arith}
use Rattle.std.proofs.lemmas.Grind.{common_steps}
use Rattle.answer_run.proofs.heard.last_word.Goals as goal

pub returns-in-Bye : goal.returns-in-Bye
returns-in-Bye c = grind (arith, common_steps)
