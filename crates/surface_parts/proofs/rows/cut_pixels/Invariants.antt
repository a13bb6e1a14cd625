use Rattle.std.proofs.Common.{◌-◌}
use Rattle.surface_parts.specs.Parts.{AreFirstRows}
use Rattle.surface_parts.proofs.rows.cut_pixels.Given as goal

-- the rows so far are cut out
abbrev pub invariant-loop-y : goal.invariant-loop-y
invariant-loop-y l = AreFirstRows l.fn.size l.fn.pixels l.part (l.y - l.part.y) l.cut.items
