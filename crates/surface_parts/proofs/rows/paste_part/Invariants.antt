use Rattle.std.proofs.Common.{◌-◌}
use Rattle.surface_parts.specs.Parts.{part_at, in_part, IsRepainted}
use Rattle.surface_parts.specs.Textures.{texture_color}
use Rattle.surface_parts.proofs.rows.paste_part.Given as goal

-- the rows so far have the texture's colours
abbrev pub invariant-loop-y : goal.invariant-loop-y
invariant-loop-y l = IsRepainted l.fn.size (in_part (part_at l.part.x l.part.y l.part.w (l.y - l.part.y))) (texture_color l.part l.texture) l.initial.pixels l.pixels
