use Rattle.answer_run.proofs.Served.{viewing_last}
use Rattle.answer_run.proofs.serving.last_ending.Goals as goal

pub returns-in-Viewing : goal.returns-in-Viewing
returns-in-Viewing c = viewing_last c.args.serving.now c.in-Viewing.solo c.part.result c.end_of_part.result c.in-Viewing.is c.part.ensures.part c.end_of_part.ensures
