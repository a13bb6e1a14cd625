use Rattle.client_picture.specs.Parts.{part_at, in_part, IsRepainted}
use Rattle.client_picture.specs.Sources.{copied_color}
use Rattle.client_picture.proofs.copies.copy_downwards.Given as goal

-- the highest k rows are copied
abbrev pub invariant-loop-k : goal.invariant-loop-k
invariant-loop-k l = IsRepainted l.fn.size (in_part (part_at l.part.x l.part.y l.part.w l.k)) (copied_color l.depth l.fn.size l.initial.pixels l.part l.rop l.from) l.initial.pixels l.pixels
