use Rattle.std.proofs.Common.{◌-◌, ◌≤◌}
use Rattle.surface_parts.specs.Parts.{part_at, in_part, IsRepainted}
use Rattle.tile_surface.specs.Cells.{picture_of}
use Rattle.tile_surface.specs.Dyes.{dyed}
use Rattle.tile_surface.specs.Ownership.{KeepsRest}
use Rattle.tile_surface.proofs.walk.dye_band.Given as goal

-- the columns so far have the dye's colours
abbrev pub invariant-loop-done : goal.invariant-loop-done
invariant-loop-done g l = record {
  painted : IsRepainted l.fn.size (in_part (part_at l.band.x l.band.y l.done l.band.h)) (dyed (g.D.Dye.color l.dye l.part) l.fn.size (picture_of l.fn.size l.initial.cells)) (picture_of l.fn.size l.initial.cells) (picture_of l.fn.size l.cells);
  kept : KeepsRest l.fn.size l.initial.cells l.cells;
  within : l.done ≤ l.band.w;
}

abbrev pub decreases-loop-done : goal.decreases-loop-done
decreases-loop-done g l = l.band.w - l.done
