use Rattle.std.proofs.Common.{rules}
use Rattle.bitmap_upd.proofs.tile.TileBody.put.Goals as goal

pub returns-in-Some-clause-ok : goal.returns-in-Some-clause-ok
returns-in-Some-clause-ok c = search rules
