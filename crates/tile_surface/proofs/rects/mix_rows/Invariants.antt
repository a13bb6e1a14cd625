use Rattle.std.proofs.Common.{◌-◌}
use Rattle.std.specs.Prelude.{option_copied}
use Rattle.surface_parts.specs.Operands.{IsReady}
use Rattle.surface_parts.specs.Parts.{part_at, in_part, IsRepainted}
use Rattle.surface_parts.specs.Textures.{mixed_color}
use Rattle.tile_surface.specs.Cells.{picture_of}
use Rattle.tile_surface.specs.Ownership.{KeepsRest}
use Rattle.tile_surface.proofs.rects.mix_rows.Given as goal

-- the rows so far are mixed, and the row of a missing pattern stays blank
abbrev pub invariant-loop-y : goal.invariant-loop-y
invariant-loop-y l = record {
  painted : IsRepainted l.fn.size (in_part (part_at l.part.x l.part.y l.part.w (l.y - l.part.y))) (mixed_color l.fn.size (picture_of l.fn.size l.initial.cells) l.part l.mix) (picture_of l.fn.size l.initial.cells) (picture_of l.fn.size l.cells);
  kept : KeepsRest l.fn.size l.initial.cells l.cells;
  pattern : IsReady (option_copied l.mix.brush) l.pattern;
}
