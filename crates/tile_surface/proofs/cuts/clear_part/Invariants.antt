use Rattle.std.proofs.Common.{◌-◌}
use Rattle.surface_parts.specs.Parts.{part_at, in_part, IsRepainted}
use Rattle.tile_surface.proofs.cuts.clear_part.Given as goal

-- the rows so far are black
abbrev pub invariant-loop-y : goal.invariant-loop-y
invariant-loop-y l = IsRepainted l.fn.size (in_part (part_at l.part.x l.part.y l.part.w (l.y - l.part.y))) (λ x y. 0) l.initial.pixels l.pixels
