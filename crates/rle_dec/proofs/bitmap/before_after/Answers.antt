use Rattle.std.proofs.Common.{rules}
use Rattle.rle_dec.proofs.bitmap.before_after.Goals as goal

pub returns-in-Background : goal.returns-in-Background
returns-in-Background c = search rules
