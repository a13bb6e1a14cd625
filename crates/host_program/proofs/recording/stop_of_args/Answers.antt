use Rattle.host_program.proofs.Arguments.{not_one}
use Rattle.host_program.proofs.recording.stop_of_args.Goals as goal

pub returns-then-args-ne-ARGS : goal.returns-then-args-ne-ARGS
returns-then-args-ne-ARGS c = record { form = not_one (λ s. s.now) c.args.args.now (λ k. c.if-args-ne-ARGS.true k) }
