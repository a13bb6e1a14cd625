use Rattle.update_read.proofs.Found.{rest_told, end_told}
use Rattle.update_read.proofs.judge.judge_rest.Goals as goal

pub returns-then-from-count-clause-told : goal.returns-then-from-count-clause-told
returns-then-from-count-clause-told c = λ s most start few.
    rest_told c.judge_update.result s most c.args.from c.args.packet.now c.if-from-count.true few (λ k less. c.judge_update.ensures.told s k start less)

pub returns-clause-told : goal.returns-clause-told
returns-clause-told c = λ s most start few. end_told s most c.args.from c.args.packet.now c.if-from-count.false
