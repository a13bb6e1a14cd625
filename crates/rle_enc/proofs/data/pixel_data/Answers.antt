use Rattle.std.proofs.Common.{rules}
use Rattle.rle_enc.proofs.data.pixel_data.Goals as goal

pub returns-in-Some-clause-value : goal.returns-in-Some-clause-value
returns-in-Some-clause-value c = search rules
