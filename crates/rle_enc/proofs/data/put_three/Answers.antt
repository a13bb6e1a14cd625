use Rattle.std.proofs.Common.{rules}
use Rattle.rle_enc.proofs.data.put_three.Goals as goal

pub returns-clause-ok : goal.returns-clause-ok
returns-clause-ok c = search rules
