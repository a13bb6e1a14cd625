use Rattle.surface_parts.specs.Parts.{part_at, in_part, IsRepainted}
use Rattle.surface_parts.specs.Textures.{copied_color}
use Rattle.tile_surface.specs.Cells.{picture_of}
use Rattle.tile_surface.specs.Ownership.{KeepsRest}
use Rattle.tile_surface.proofs.copies.copy_downwards.Given as goal

-- the highest k rows are copied
abbrev pub invariant-loop-k : goal.invariant-loop-k
invariant-loop-k l = record {
  painted : IsRepainted l.fn.size (in_part (part_at l.part.x l.part.y l.part.w l.k)) (copied_color l.fn.size (picture_of l.fn.size l.initial.cells) l.part l.copy) (picture_of l.fn.size l.initial.cells) (picture_of l.fn.size l.cells);
  kept : KeepsRest l.fn.size l.initial.cells l.cells;
}
