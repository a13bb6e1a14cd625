use Rattle.std.proofs.Common.{◌≡◌, ◌++◌, ◌*◌, ◌-◌, length}
use Rattle.px_core.specs.Picture.{turned_over}
use Rattle.rle_enc.proofs.rows.turn_over.Given as goal

abbrev pub invariant-loop-y : goal.invariant-loop-y
invariant-loop-y l = record {
  left : length l.above ≡ l.fn.w * (l.fn.h - l.y);
  written : l.out.items ++ turned_over l.fn.w (l.fn.h - l.y) l.above ≡ turned_over l.fn.w l.fn.h l.fn.pixels;
}
