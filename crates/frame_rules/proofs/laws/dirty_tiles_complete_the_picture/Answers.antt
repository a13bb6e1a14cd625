use Rattle.frame_rules.proofs.TilePhase.{canvas_after_dirty_tiles}
use Rattle.frame_rules.proofs.laws.dirty_tiles_complete_the_picture.Goals as goal

pub returns : goal.returns
returns c = canvas_after_dirty_tiles
