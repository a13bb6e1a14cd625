-- Pixels drawn at the end of others.
use Rattle.std.specs.Prelude.{ℕ, Bool, List, [], ◌∷◌, ◌++◌, length, map, replicate, slice_index, Result, Ok, Err, if◌then◌else◌}
use Rattle.px_core.specs.declared.depth.Depth.{Depth}
use Rattle.run_lengths.specs.declared.strokes.Stroke.{Stroke}
use Rattle.run_lengths.specs.declared.strokes.Stroke.TheVariants.{Plain, Above, Crossed}
use Rattle.run_lengths.specs.RunLength.{Order, Drawn, drawn_pixel, strokes_from, nothing_drawn, run_orders_in}

-- the pixel one row earlier than the next one, black before the first row
abbrev pub above_next : ℕ → List ℕ → ℕ
above_next w pixels = slice_index (replicate w 0 ++ pixels) (length pixels)

-- the pixels, and those that strokes draw after them
abbrev pub drawn_onto : ℕ → List Stroke → List ℕ → List ℕ
drawn_onto w [] pixels = pixels
drawn_onto w (s ∷ strokes) pixels = drawn_onto w strokes (pixels ++ drawn_pixel s (above_next w pixels) ∷ [])

-- how many pixels must be there before a stroke, so that it finds the one it takes
abbrev pub pixels_before : ℕ → Stroke → ℕ
pixels_before w (Plain c) = 0
pixels_before w Above = w
pixels_before w (Crossed foreground) = w

-- the strokes of a mask
abbrev pub masked : Stroke → Stroke → List Bool → List Stroke
masked back fore bits = map (λ b. if b then fore else back) bits

-- what orders draw onto pixels
abbrev pub drawn_rest : ℕ → Drawn → List ℕ → Result (List Order) (List ℕ) → Result (List ℕ) (List ℕ)
drawn_rest w d pixels (Ok os) = Ok (drawn_onto w (strokes_from w d os) pixels)
drawn_rest w d pixels (Err refused) = Err refused

-- what a whole stream draws
abbrev pub drawn_whole : Depth → ℕ → ℕ → List ℕ → Result (List ℕ) (List ℕ)
drawn_whole depth w count bytes = drawn_rest w (nothing_drawn depth) [] (run_orders_in depth count bytes)
