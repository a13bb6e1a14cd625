use Rattle.std.proofs.Common.{rules}
use Rattle.rle_dec.proofs.reads.checked_length.Goals as goal

pub returns-then-n-greatest-clause-is : goal.returns-then-n-greatest-clause-is
returns-then-n-greatest-clause-is c = search rules
