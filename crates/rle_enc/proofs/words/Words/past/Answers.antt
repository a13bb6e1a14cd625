use Rattle.rle_enc.proofs.Telling.{bit_past}
use Rattle.rle_enc.proofs.words.Words.past.Goals as goal

pub returns-clause-same : goal.returns-clause-same
returns-clause-same c = bit_past c.args.self.same c.args.n

pub returns-clause-next : goal.returns-clause-next
returns-clause-next c = bit_past c.args.self.next c.args.n
