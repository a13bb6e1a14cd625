use Rattle.std.proofs.Common.{arith}
use Rattle.rle_enc.proofs.Telling.{none_of_both}
use Rattle.rle_enc.proofs.words.Words.alone.Goals as goal

pub returns-clause-none : goal.returns-clause-none
returns-clause-none c = λ k below. none_of_both c.args.self.same c.args.self.next k (c.zeros.ensures.zeros k (omega (arith, below, c.min.ensures)))
