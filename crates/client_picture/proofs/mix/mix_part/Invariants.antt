use Rattle.std.proofs.Common.{◌-◌}
use Rattle.client_picture.specs.Parts.{part_at, in_part, IsRepainted}
use Rattle.client_picture.specs.Sources.{mixed_color}
use Rattle.client_picture.proofs.mix.mix_part.Given as goal

-- the rows so far are mixed
abbrev pub invariant-loop-y : goal.invariant-loop-y
invariant-loop-y l = IsRepainted l.fn.size (in_part (part_at l.part.x l.part.y l.part.w (l.y - l.part.y))) (mixed_color l.fn.size l.initial.pixels l.part l.mix) l.initial.pixels l.pixels
