-- The orders that the reader's own stand for.
use Rattle.std.specs.Prelude.{ℕ}
use Rattle.px_core.specs.declared.depth.Depth.{Depth}
use Rattle.px_core.specs.Pixels.{pixels_of}
use Rattle.run_lengths.specs.RunLength as runs
use Rattle.run_lengths.specs.RunLength.{bits_of, mask_bits}
use Rattle.rle_dec.specs.declared.orders.Order.{Order}
use Rattle.rle_dec.specs.declared.orders.Run.{Run}
use Rattle.rle_dec.specs.declared.orders.Run.TheVariants.{Background, Foreground, Mask, Bits, Color, Image, Dithered}

-- a run of a length
abbrev pub run_of : Depth → ℕ → Run → runs.Run
run_of depth n Background = runs.Run.Background n
run_of depth n Foreground = runs.Run.Foreground n
run_of depth n (Mask mask) = runs.Run.Mask (mask_bits n mask.now)
run_of depth n (Bits bits) = runs.Run.Mask (bits_of n bits)
run_of depth n (Color color) = runs.Run.Color n color
run_of depth n (Image image) = runs.Run.Image (pixels_of depth image.now)
run_of depth n (Dithered first second) = runs.Run.Dithered n first second

abbrev pub order_of : Depth → Order → runs.Order
order_of depth o = record { foreground = o.foreground; run = run_of depth o.length o.run }
