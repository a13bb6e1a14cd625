use Rattle.std.proofs.Common.{rules}
use Rattle.surface_flat.proofs.copies.copy_part.Goals as goal

pub copy_upwards-requires-clause-above : goal.copy_upwards-requires-clause-above
copy_upwards-requires-clause-above c = search rules

pub copy_downwards-requires-clause-not_above : goal.copy_downwards-requires-clause-not_above
copy_downwards-requires-clause-not_above c = search rules
