use Rattle.std.proofs.Common.{◌-◌, ◌≤◌}
use Rattle.surface_parts.specs.Parts.{part_at, in_part, IsRepainted}
use Rattle.tile_surface.specs.Cells.{picture_of}
use Rattle.tile_surface.specs.Rows.{cut_color, sides_of}
use Rattle.tile_surface.proofs.cuts.cut_part.Given as goal

-- the rows so far are cut out
abbrev pub invariant-loop-done : goal.invariant-loop-done
invariant-loop-done l = record {
  painted : IsRepainted (sides_of l.part) (in_part (part_at 0 0 l.part.w l.done)) (cut_color l.fn.size (picture_of l.fn.size l.fn.cells) l.part) l.initial.out l.out;
  within : l.done ≤ l.part.h;
}

abbrev pub decreases-loop-done : goal.decreases-loop-done
decreases-loop-done l = l.part.h - l.done
