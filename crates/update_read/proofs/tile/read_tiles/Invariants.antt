use Rattle.std.proofs.Common.{◌≡◌, ◌-◌}
use Rattle.wire_num.specs.Cursor.{rest}
use Rattle.order_means.specs.FrameMarks.{tiles_at}
use Rattle.update_read.proofs.Tiles.{HasPushed}
use Rattle.update_read.proofs.tile.read_tiles.Given as goal

-- the rectangles that are left stand here, and the others were appended
abbrev pub invariant-loop : goal.invariant-loop
invariant-loop l = record {
  pushed : HasPushed (tiles_at l.count (rest l.fn.cursor)) (tiles_at (l.count - l.counter) (rest l.cursor)) l.fn.cursor.bytes l.fn.out.items l.out.items;
  bytes : l.cursor.bytes ≡ l.fn.cursor.bytes;
}
