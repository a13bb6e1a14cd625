use Rattle.frame_rules.proofs.TileLaws.{tiles_of-painted_area}
use Rattle.frame_rules.proofs.laws.painted_pixel_is_in_a_touched_tile.Goals as goal

pub returns : goal.returns
returns c = tiles_of-painted_area
