use Rattle.conn_rules.specs.declared.conn_step.ConnStep.TheVariants as step
use Rattle.answer_run.specs.declared.fault.AnswerFault.TheVariants as fault
use Rattle.answer_run.proofs.Visiting.{memory_asked}
use Rattle.answer_run.proofs.visitor.show.Goals as goal

pub returns-in-Err-clause-done : goal.returns-in-Err-clause-done
returns-in-Err-clause-done g c = memory_asked fault.OutOfMemory step.Packet c.args.solo.now c.take.new.solo (g.K.Sink.told c.args.output.now)
