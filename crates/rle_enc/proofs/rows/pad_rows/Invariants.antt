use Rattle.std.proofs.Common.{◌≡◌, ◌++◌, ◌*◌, ◌-◌, length, map}
use Rattle.px_core.specs.Picture.{rows_of, joined}
use Rattle.run_lengths.specs.WirePixels.{padded_row}
use Rattle.rle_enc.proofs.rows.pad_rows.Given as goal

abbrev pub invariant-loop-y : goal.invariant-loop-y
invariant-loop-y l = record {
  left : length l.below ≡ l.fn.w * (l.fn.h - l.y);
  written : l.out.items ++ joined (map (padded_row l.fn.w) (rows_of l.fn.w (l.fn.h - l.y) l.below)) ≡ joined (map (padded_row l.fn.w) (rows_of l.fn.w l.fn.h l.fn.pixels));
}
