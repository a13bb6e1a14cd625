use Rattle.host_program.proofs.Arguments.{not_two}
use Rattle.host_program.proofs.loading.load_of_args.Goals as goal

pub returns-then-args-ne-ARGS : goal.returns-then-args-ne-ARGS
returns-then-args-ne-ARGS c = record { form = not_two (λ s. s.now) c.args.args.now (λ k. c.if-args-ne-ARGS.true k) }
