use Rattle.std.proofs.Common.{◌≡◌, ℕ, ◌<◌, ◌≤◌, get_or}
use Rattle.std.specs.Prelude.{Some, None}
use Rattle.draw_ops.specs.Depths.{maybe_raster_at}
use Rattle.client_picture.proofs.copies.mix_pixels.Given as goal

-- the places so far are mixed, and the others as they were
abbrev pub invariant-loop-k : goal.invariant-loop-k
invariant-loop-k l =
    ((j : ℕ) → j < l.k → get_or l.row j None ≡ maybe_raster_at l.depth l.rop (Some 0) (get_or l.source j None) (get_or l.initial.row j None))
    × ((j : ℕ) → l.k ≤ j → get_or l.row j None ≡ get_or l.initial.row j None)
