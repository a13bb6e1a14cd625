use Rattle.std.proofs.Common.{◌≡◌, ℕ, ◌<◌, ◌≤◌, slice_index}
use Rattle.rop3_core.specs.Rop3.{ternary_raster}
use Rattle.rop3_core.proofs.row.mix_row.Given as goal

-- the places so far are mixed, and the others as they were
abbrev pub invariant-loop-i : goal.invariant-loop-i
invariant-loop-i l =
    ((k : ℕ) → k < l.i → slice_index l.d k ≡ ternary_raster l.masks.code (slice_index l.p k) (slice_index l.s k) (slice_index l.initial.d k))
    × ((k : ℕ) → l.i ≤ k → slice_index l.d k ≡ slice_index l.initial.d k)
