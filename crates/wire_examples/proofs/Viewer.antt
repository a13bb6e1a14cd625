-- The viewers of the worked examples.
use Rattle.std.specs.Prelude.{ℕ, ℤ, List, [], ◌∷◌, map, replicate, Option, Some, Result, Err}
use Rattle.px_core.specs.declared.surface.Size.{Size}
use Rattle.px_core.specs.Picture.{painted}
use Rattle.px_core.specs.Rectangle.{boxed, in_rect}
use Rattle.caps_sets.specs.declared.confirmed.Confirmed.{Confirmed}
use Rattle.caps_sets.specs.Confirmed.{sized, full}
use Rattle.order_means.specs.ClientState.{Fault}
use Rattle.order_means.specs.FrameMarks.{ClientReading, Refusal, read_stream}

abbrev pub size_of : ℕ → ℕ → Size
size_of w h = record { w = w; h = h }

-- a viewer with small caches
abbrev pub small : Confirmed
small = record full { bitmaps = sized 2 48 ∷ sized 1 12 ∷ sized 0 0 ∷ []; glyphs = sized 2 4 ∷ replicate 9 (sized 0 0) }

-- what it makes of bytes on a surface of 8 by 4
abbrev pub reads : List ℕ → Result ClientReading Refusal
reads bytes = read_stream small (size_of 8 4) bytes

abbrev pub refused_at : ℕ → Fault → Result ClientReading Refusal
refused_at place fault = Err (record { place = place; fault = fault })

-- a picture that is known
abbrev pub known : List ℕ → List (Option ℕ)
known picture = map Some picture

-- a picture with a rectangle in a colour
abbrev pub filled : Size → ℤ → ℤ → ℕ → ℕ → ℕ → List ℕ → List ℕ
filled size x y w h color old = painted size (in_rect (boxed x y w h)) (λ column row before. color) old
