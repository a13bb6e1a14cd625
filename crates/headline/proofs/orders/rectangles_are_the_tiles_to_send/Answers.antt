use Rattle.headline.proofs.TilesSent.{rectangles_are, tiles_of_frame, tiles_ascend, only_these, all_these}
use Rattle.headline.proofs.orders.rectangles_are_the_tiles_to_send.Goals as goal

pub returns : goal.returns
returns k = record { rectangles = rectangles_are; frame = tiles_of_frame; ascending = tiles_ascend; only = only_these; each = all_these }
