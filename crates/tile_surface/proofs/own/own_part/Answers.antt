use Rattle.std.proofs.Common.{rules}
use Rattle.tile_surface.proofs.own.own_part.Goals as goal

pub returns-clause-own : goal.returns-clause-own
returns-clause-own c = search rules
