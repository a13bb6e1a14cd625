-- A rectangle of a Bitmap update without its bytes.
use Rattle.std.specs.Prelude.{[]}
use Rattle.order_means.specs.FrameMarks.{Tile as Meaning}
use Rattle.update_read.specs.declared.tile.Tile.{Tile}

abbrev pub bare_tile : Tile → Meaning
bare_tile t = record { left = t.left; top = t.top; right = t.right; bottom = t.bottom; w = t.w; h = t.h; depth = t.depth; flags = t.flags; bytes = [] }
