use Rattle.std.proofs.Common.{rules}
use Rattle.rle_enc.proofs.rows.padded_width.Goals as goal

pub returns : goal.returns
returns c = search rules
