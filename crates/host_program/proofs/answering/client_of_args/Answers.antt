use Rattle.host_program.proofs.Names.{not_three}
use Rattle.host_program.proofs.answering.client_of_args.Goals as goal

pub returns-then-args-ne-ARGS-clause-form : goal.returns-then-args-ne-ARGS-clause-form
returns-then-args-ne-ARGS-clause-form c = not_three (λ s. s.now) c.args.args.now (λ k. c.if-args-ne-ARGS.true k)
