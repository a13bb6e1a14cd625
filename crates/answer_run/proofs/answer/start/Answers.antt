use Rattle.answer_run.proofs.Served.{starts}
use Rattle.answer_run.proofs.answer.start.Goals as goal

pub returns : goal.returns
returns c = λ owner. starts c.args.size owner c.in_ok-conn.conn c.new-2.result c.in_ok-conn.ensures c.new-2.ensures
