-- The packer (profile): the bytes that stand for a depth's pixels of rows of w, the bottom row first.
use Rattle.std.specs.Prelude.{ℕ, zero, suc, ◌+◌, ◌-◌, ◌==◌, nat_lt, nat_le, ◌&&◌, if◌then◌else◌}
use Rattle.std.specs.Prelude.{List, [], ◌∷◌, ◌++◌, length, flat_map, take, drop, zip, replicate}
use Rattle.byteorder.specs.Endian.{little_bytes}
use Rattle.px_core.specs.declared.depth.Depth.{Depth}
use Rattle.px_core.specs.Pixels.{pixel_bytes, pixels_bytes}
use Rattle.run_lengths.specs.RunLength.{Run, run_size}
use Rattle.run_lengths.specs.RunLength.Run.{Background, Foreground, Mask, Color, Image, Dithered}

-- a pixel, and the one that a background pixel would be there
abbrev pub Spot : Type 0
Spot = ℕ × ℕ

-- how many pixels from here on are background without a gap
abbrev pub background_count : List Spot → ℕ
background_count [] = 0
background_count (s ∷ spots) = if s.0 == s.1 then suc (background_count spots) else 0

-- how many pixels from here on have the colour without a gap
abbrev pub color_count : ℕ → List Spot → ℕ
color_count color [] = 0
color_count color (s ∷ spots) = if s.0 == color then suc (color_count color spots) else 0

-- of b background pixels and c of this colour, what is packed as one: the background, else the colour, else the pixel itself
abbrev pub chosen_run : ℕ → ℕ → ℕ → Run
chosen_run b c color =
    if nat_le 1 b && nat_le c b then Background b
    else (if nat_le 2 c then Color c color else Image (color ∷ []))

-- the run at the first place of a stretch
abbrev pub first_run : Spot → List Spot → Run
first_run s spots = chosen_run (background_count (s ∷ spots)) (color_count s.0 (s ∷ spots)) s.0

-- the runs of a stretch whose first places are packed already
abbrev pub runs_past : ℕ → List Spot → List Run
runs_past packed [] = []
runs_past (suc packed) (s ∷ spots) = runs_past packed spots
runs_past zero (s ∷ spots) = first_run s spots ∷ runs_past (run_size (first_run s spots) - 1) spots

-- a run before others; an image joins the image that follows it
abbrev pub onto_runs : Run → List Run → List Run
onto_runs (Image cs) (Image ds ∷ runs) = Image (cs ++ ds) ∷ runs
onto_runs run runs = run ∷ runs

abbrev pub joined_images : List Run → List Run
joined_images [] = []
joined_images (run ∷ runs) = onto_runs run (joined_images runs)

-- the runs of a stretch
abbrev pub packed_runs : List Spot → List Run
packed_runs spots = joined_images (runs_past 0 spots)

-- a length of 1 to 31 in the code, of 32 to 287 in the next byte, a greater one in two bytes after a code of their own
abbrev pub length_bytes : ℕ → ℕ → ℕ → List ℕ
length_bytes code long_code n =
    if nat_lt n 32 then (code + n) ∷ []
    else (if nat_lt n 288 then code ∷ (n - 32) ∷ [] else long_code ∷ little_bytes 2 n)

-- the bytes of a run; the packer writes three kinds alone
abbrev pub run_bytes : Depth → Run → List ℕ
run_bytes depth (Background n) = length_bytes 0x00 0xF0 n
run_bytes depth (Color n color) = length_bytes 0x60 0xF3 n ++ pixel_bytes depth color
run_bytes depth (Image colors) = length_bytes 0x80 0xF4 (length colors) ++ pixels_bytes depth colors
run_bytes depth (Foreground n) = []
run_bytes depth (Mask bits) = []
run_bytes depth (Dithered n first second) = []

-- the first row, over black, and the rest, over the row before
abbrev pub first_stretch : ℕ → List ℕ → List Spot
first_stretch w pixels = zip pixels (replicate w 0)

abbrev pub later_stretch : ℕ → List ℕ → List Spot
later_stretch w pixels = zip (drop w pixels) pixels

-- the packer's bytes for pixels in rows of w; no order crosses from the first row to the rest
abbrev pub packed : Depth → ℕ → List ℕ → List ℕ
packed depth w pixels = flat_map (run_bytes depth) (packed_runs (first_stretch w pixels)) ++ flat_map (run_bytes depth) (packed_runs (later_stretch w pixels))

-- the number of runs of equal colour
abbrev pub color_runs_after : ℕ → List ℕ → ℕ
color_runs_after color [] = 0
color_runs_after color (c ∷ colors) = if c == color then color_runs_after c colors else suc (color_runs_after c colors)

abbrev pub color_runs : List ℕ → ℕ
color_runs [] = 0
color_runs (c ∷ colors) = suc (color_runs_after c colors)

-- the number of runs of equal colour with a break after the first row
abbrev pub color_runs_in : ℕ → List ℕ → ℕ
color_runs_in w pixels = color_runs (take w pixels) + color_runs (drop w pixels)
