-- What a refusal says of a stream.
use Rattle.std.specs.Prelude.{◌≡◌, ℕ, List, Some, Err}
use Rattle.px_core.specs.declared.depth.Depth.{Depth}
use Rattle.run_lengths.specs.RunLength.{unrle, first_bad_run}
use Rattle.rle_dec.specs.declared.fault.RleFault.{RleFault}
use Rattle.rle_dec.specs.declared.fault.RleFault.TheVariants.{BadRle, OutOfMemory}

-- the stream of w by h pixels is refused at just that place; want of memory says nothing of it
abbrev pub RefusesAt : Depth → List ℕ → ℕ → ℕ → RleFault → Type 0
RefusesAt depth bytes w h (BadRle at) = (unrle depth bytes w h ≡ Err at) × (first_bad_run depth bytes w h ≡ Some at)
RefusesAt depth bytes w h OutOfMemory = Unit {0}
