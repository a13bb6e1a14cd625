use Rattle.std.proofs.Common.{◌≡◌, ◌++◌, ◌*◌, drop, length}
use Rattle.std.specs.Prelude.{IsTrue}
use Rattle.px_core.specs.Pixels.{pixels_of_3}
use Rattle.px_core.specs.Colors.{are_colors}
use Rattle.order_read.proofs.pixels.pixels_24.Given as goal

-- the pixels that are left stand from here on
abbrev pub invariant-loop-k : goal.invariant-loop-k
invariant-loop-k l = record {
  left : pixels_of_3 l.bytes ≡ l.pixels.items ++ pixels_of_3 (drop (3 * l.k) l.bytes);
  number : length l.pixels.items ≡ l.k;
  colors : IsTrue (are_colors l.pixels.items);
}
