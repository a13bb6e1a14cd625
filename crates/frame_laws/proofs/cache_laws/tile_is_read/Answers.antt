use Rattle.frame_laws.proofs.TileBack.{tile_obeyed}
use Rattle.frame_laws.proofs.cache_laws.tile_is_read.Goals as goal

pub returns : goal.returns
returns k = tile_obeyed
