use Rattle.std.proofs.Common.{◌≡◌, ℕ, ◌<◌, ◌≤◌, slice_index, bit_and, bit_xor}
use Rattle.rop3_core.proofs.row.invert_row.Given as goal

-- the places so far are inverted, and the others as they were
abbrev pub invariant-loop-i : goal.invariant-loop-i
invariant-loop-i l =
    ((k : ℕ) → k < l.i → slice_index l.d k ≡ bit_and (bit_xor (slice_index l.s k) (slice_index l.initial.d k)) 0xFFFFFF)
    × ((k : ℕ) → l.i ≤ k → slice_index l.d k ≡ slice_index l.initial.d k)
