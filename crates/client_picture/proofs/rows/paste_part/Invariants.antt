use Rattle.std.proofs.Common.{◌-◌}
use Rattle.client_picture.specs.Parts.{part_at, in_part, IsRepainted}
use Rattle.client_picture.specs.Sources.{pixel_from}
use Rattle.client_picture.proofs.rows.paste_part.Given as goal

-- the rows so far have the source's pixels
abbrev pub invariant-loop-y : goal.invariant-loop-y
invariant-loop-y l = IsRepainted l.fn.size (in_part (part_at l.part.x l.part.y l.part.w (l.y - l.part.y))) (pixel_from l.source l.w l.from l.part) l.initial.pixels l.pixels
