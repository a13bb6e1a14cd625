use Rattle.std.proofs.Common.{◌+◌, ◌-◌, ◌≤◌}
use Rattle.px_core.specs.Picture.{pixel_at}
use Rattle.surface_parts.specs.Parts.{part_at, in_part, IsRepainted}
use Rattle.tile_surface.specs.Cells.{picture_of}
use Rattle.tile_surface.proofs.cuts.cut_band.Given as goal

-- the columns so far are cut out
abbrev pub invariant-loop-done : goal.invariant-loop-done
invariant-loop-done l = record {
  painted : IsRepainted l.fn.sides (in_part (part_at 0 l.row l.done l.band.h)) (λ u v. pixel_at l.fn.size (picture_of l.fn.size l.fn.cells) 0 (l.band.x + u) (l.band.y + (v - l.row))) l.initial.out l.out;
  within : l.done ≤ l.band.w;
}

abbrev pub decreases-loop-done : goal.decreases-loop-done
decreases-loop-done l = l.band.w - l.done
