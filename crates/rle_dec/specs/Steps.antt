-- What is drawn order by order of a bitmap, whose first pixels are drawn.
use Rattle.std.specs.Prelude.{◌≡◌, ℕ, ◌+◌, ◌-◌, ◌*◌, ◌<◌, ◌≤◌, ◌++◌, List, length, take, drop, Result, Err}
use Rattle.px_core.specs.declared.depth.Depth.{Depth}
use Rattle.px_core.specs.Depth.{bytes_in}
use Rattle.px_core.specs.Pixels.{pixels_of}
use Rattle.run_lengths.specs.declared.codes.Before.{Before}
use Rattle.run_lengths.specs.RunLength.{run_orders_in}
use Rattle.rle_dec.specs.Drawing.{drawn_rest}
use Rattle.rle_dec.specs.declared.short.Step.{Step}

-- the whole bitmap, of which the first `at` pixels are drawn, by what the orders before left and the stream after them
abbrev pub still_drawn : Depth → ℕ → ℕ → ℕ → Before → List ℕ → List ℕ → Result (List ℕ) (List ℕ)
still_drawn depth w at foreground before pixels stream =
    drawn_rest w (record { count = length (take at pixels); foreground = foreground; before = before }) (take at pixels)
    (run_orders_in depth (length pixels - length (take at pixels)) stream)

-- a step has drawn the first order of a stream: it leaves less of the stream, which draws the same bitmap
abbrev pub IsStep : Depth → ℕ → ℕ → ℕ → Before → List ℕ → List ℕ → ℕ → Before → List ℕ → Step → Type 0
IsStep depth w at foreground before pixels stream later_foreground later now s =
    (s.at ≤ length now) × (length s.rest.now < length stream)
    × (still_drawn depth w s.at later_foreground later now s.rest.now ≡ still_drawn depth w at foreground before pixels stream)

-- the same with each foreground, which stays
abbrev pub IsShortStep : Depth → ℕ → ℕ → Before → List ℕ → List ℕ → Before → List ℕ → Step → Type 0
IsShortStep depth w at before pixels stream later now s =
    (s.at ≤ length now) × (length s.rest.now < length stream) × ((foreground : ℕ)
    → still_drawn depth w s.at foreground later now s.rest.now ≡ still_drawn depth w at foreground before pixels stream)

-- the first order of a stream is refused, with these bytes from the refused field on
abbrev pub IsRefused : Depth → ℕ → ℕ → ℕ → Before → List ℕ → List ℕ → List ℕ → Type 0
IsRefused depth w at foreground before pixels stream refused =
    (length refused ≤ length stream) × (Err refused ≡ still_drawn depth w at foreground before pixels stream)

-- the first n pixels of bytes are drawn, and these are the bytes after them
abbrev pub IsFront : Depth → ℕ → ℕ → List ℕ → List ℕ → List ℕ → List ℕ → Type 0
IsFront depth n at pixels bytes now rest =
    (bytes_in depth * n ≤ length bytes) × (rest ≡ drop (bytes_in depth * n) bytes)
    × (take (at + n) now ≡ take at pixels ++ pixels_of depth (take (bytes_in depth * n) bytes))
