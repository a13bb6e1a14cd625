-- A stretch of pixels and the row before it, as the packer's code has them.
use Rattle.std.specs.Prelude.{◌≡◌, ℕ, suc, ◌≤◌, ◌==◌, Option, Some, None, if◌then◌else◌}
use Rattle.std.specs.Prelude.{List, [], ◌∷◌, ◌++◌, flat_map, length, take, drop, replicate, slice_index, zip}
use denote.Ref.{Bor}
use Rattle.px_core.specs.declared.depth.Depth.{Depth}
use Rattle.run_lengths.specs.RunLength as runs
use Rattle.run_lengths.specs.Packer.{Spot, background_count, chosen_run, color_count, onto_runs, packed_runs, run_bytes}
use Rattle.rle_enc.specs.declared.counts.Piece.{Piece}
use Rattle.rle_enc.specs.declared.counts.Piece.TheVariants.{Background, Color}

-- how many items at the front are this number
abbrev pub leading : ℕ → List ℕ → ℕ
leading x [] = 0
leading x (y ∷ ys) = if y == x then suc (leading x ys) else 0

-- the pixels one row earlier, if there are any
abbrev pub row_of : Option (Bor (List ℕ)) → Option (List ℕ)
row_of None = None
row_of (Some row) = Some row.now

-- the pixels with those one row earlier, black where there are none
abbrev pub spots_in : Option (List ℕ) → List ℕ → List Spot
spots_in None pixels = zip pixels (replicate (length pixels) 0)
spots_in (Some row) pixels = zip pixels row

abbrev pub spots_of : Option (Bor (List ℕ)) → List ℕ → List Spot
spots_of row pixels = spots_in (row_of row) pixels

-- at least so many pixels stand one row earlier, where any do
abbrev pub HasItems : ℕ → Option (List ℕ) → Type 0
HasItems n None = Unit {0}
HasItems n (Some row) = n ≤ length row

abbrev pub HasRow : Option (Bor (List ℕ)) → List ℕ → Type 0
HasRow row pixels = HasItems (length pixels) (row_of row)

abbrev pub StandsIn : ℕ → Option (Bor (List ℕ)) → Type 0
StandsIn at row = HasItems at (row_of row)

abbrev pub dropped : ℕ → Option (List ℕ) → Option (List ℕ)
dropped at None = None
dropped at (Some row) = Some (drop at row)

-- runs after pixels that stand for themselves
abbrev pub after_literals : List ℕ → List runs.Run → List runs.Run
after_literals [] rs = rs
after_literals (c ∷ cs) rs = onto_runs (runs.Run.Image (c ∷ cs)) rs

-- the first pixels of a stretch, so many, stand for themselves
abbrev pub StandAlone : ℕ → List ℕ → List Spot → Type 0
StandAlone n pixels spots = packed_runs spots ≡ after_literals (take n pixels) (packed_runs (drop n spots))

-- the bytes of the runs of a stretch from a place on
abbrev pub bytes_from : Depth → ℕ → List Spot → List ℕ
bytes_from depth at spots = flat_map (run_bytes depth) (packed_runs (drop at spots))

-- what was written goes on to a place of a stretch with just the bytes that it went on with before, from a place that is no later
pub record IsPackedTo (depth : Depth) (spots : List Spot) (from : ℕ) (old new : List ℕ) (to : ℕ) : Type 0 where
  pub packed : new ++ bytes_from depth to spots ≡ old ++ bytes_from depth from spots
  pub forward : from ≤ to

-- a run starts a stretch: its first pixel is background, or the next one has its colour
abbrev pub StartsRun : List ℕ → List Spot → Type 0
StartsRun pixels spots = background_count spots ≡ 0 → 2 ≤ leading (slice_index pixels 0) pixels

-- the run that is chosen where a colour stands before the spots
abbrev pub run_there : ℕ → List Spot → runs.Run
run_there color spots = chosen_run (background_count spots) (color_count color spots) color

-- a piece of this colour as a run
abbrev pub piece_run : ℕ → Piece → runs.Run
piece_run color (Background n) = runs.Run.Background n
piece_run color (Color n) = runs.Run.Color n color

-- a piece is what is packed first of the pixels of a stretch
abbrev pub IsFirst : Piece → List ℕ → List Spot → Type 0
IsFirst piece pixels spots = piece_run (slice_index pixels 0) piece ≡ run_there (slice_index pixels 0) spots

-- the bytes of pixels that stand for themselves
abbrev pub literal_bytes : Depth → List ℕ → List ℕ
literal_bytes depth [] = []
literal_bytes depth (c ∷ cs) = run_bytes depth (runs.Run.Image (c ∷ cs))

-- how many pixels a piece is
abbrev pub piece_size : Piece → ℕ
piece_size (Background n) = n
piece_size (Color n) = n
