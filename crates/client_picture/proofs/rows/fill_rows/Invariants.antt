use Rattle.std.proofs.Common.{◌-◌}
use Rattle.std.specs.Prelude.{Some}
use Rattle.client_picture.specs.Parts.{part_at, in_part, IsRepainted}
use Rattle.client_picture.proofs.rows.fill_rows.Given as goal

-- the rows so far have the colour
abbrev pub invariant-loop-y : goal.invariant-loop-y
invariant-loop-y l = IsRepainted l.fn.size (in_part (part_at l.part.x l.part.y l.part.w (l.y - l.part.y))) (λ x y. Some l.color) l.initial.pixels l.pixels
