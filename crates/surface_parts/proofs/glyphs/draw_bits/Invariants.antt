use Rattle.std.proofs.Common.{◌-◌}
use Rattle.surface_parts.specs.Parts.{part_at, in_part, IsRepainted}
use Rattle.surface_parts.specs.Bits.{ink_color}
use Rattle.surface_parts.proofs.glyphs.draw_bits.Given as goal

-- the rows so far are drawn
abbrev pub invariant-loop-y : goal.invariant-loop-y
invariant-loop-y l = IsRepainted l.fn.size (in_part (part_at l.part.x l.part.y l.part.w (l.y - l.part.y))) (ink_color l.fn.size l.initial.pixels l.part l.bits l.color) l.initial.pixels l.pixels
