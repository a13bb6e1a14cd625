use Rattle.std.proofs.Common.{◌≡◌, ℕ, ◌+◌, ◌-◌, ◌<◌, ◌≤◌, length, get_or}
use Rattle.px_core.specs.Picture.{pixel_at}
use Rattle.tile_surface.specs.Cells.{picture_of}
use Rattle.tile_surface.proofs.rows.read_row.Given as goal

-- the first pixels are read
abbrev pub invariant-loop-done : goal.invariant-loop-done
invariant-loop-done l = record {
  pixels : (k : ℕ) → k < l.done → get_or l.out k 0 ≡ pixel_at l.fn.size (picture_of l.fn.size l.cells) 0 (l.x + k) l.y;
  within : l.done ≤ length l.out;
}

abbrev pub decreases-loop-done : goal.decreases-loop-done
decreases-loop-done l = length l.out - l.done
