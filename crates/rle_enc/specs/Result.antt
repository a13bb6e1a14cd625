-- What an answer of the packer says of a depth's pixels in rows of w.
use Rattle.std.specs.Prelude.{◌≡◌, ℕ, ◌+◌, ◌*◌, ◌/◌, ◌<◌, ◌≤◌, List, length}
use Rattle.px_core.specs.declared.depth.Depth.{Depth}
use Rattle.px_core.specs.Depth.{bytes_in}
use Rattle.run_lengths.specs.RunLength.{Decompresses}
use Rattle.run_lengths.specs.Packer as packer
use Rattle.run_lengths.specs.Packer.{color_runs_in}
use Rattle.rle_enc.specs.declared.bitmap.Packed.{Packed}
use Rattle.rle_enc.specs.declared.bitmap.Packed.TheVariants.{Packed as Bytes, Raw}

-- the packer's bytes where they are fewer than those of the pixels; raw exactly where they aren't
abbrev pub IsPacked : Depth → ℕ → List ℕ → Packed → Type 0
IsPacked depth w pixels (Bytes bytes) = (bytes.items ≡ packer.packed depth w pixels) × (length bytes.items < bytes_in depth * length pixels)
IsPacked depth w pixels Raw = bytes_in depth * length pixels ≤ length (packer.packed depth w pixels)

-- the bytes stand for the pixels
abbrev pub ReadsBack : Depth → ℕ → List ℕ → Packed → Type 0
ReadsBack depth w pixels (Bytes bytes) = Decompresses depth bytes.items w (length pixels / w) pixels
ReadsBack depth w pixels Raw = Unit {0}

-- at most three bytes and a pixel for each run of equal colour, with a break after the first row, and as many more
abbrev pub IsBounded : Depth → ℕ → List ℕ → Packed → Type 0
IsBounded depth w pixels (Bytes bytes) = length bytes.items ≤ (3 + bytes_in depth) * (color_runs_in w pixels + 1)
IsBounded depth w pixels Raw = Unit {0}
