use Rattle.std.proofs.Common.{◌-◌}
use Rattle.surface_parts.specs.Parts.{part_at, in_part, IsRepainted}
use Rattle.tile_surface.specs.Cells.{tile_sides}
use Rattle.tile_surface.proofs.tile.fill_stretches.Given as goal

-- the rows so far have the colour
abbrev pub invariant-loop-y : goal.invariant-loop-y
invariant-loop-y l = IsRepainted tile_sides (in_part (part_at l.piece.x l.piece.y l.piece.w (l.y - l.piece.y))) (λ x y. l.color) l.initial.pixels l.pixels
