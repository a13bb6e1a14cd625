use Rattle.client_picture.specs.Touched.{AreCopied}
use Rattle.client_picture.proofs.touched.copy_touched.Given as goal

-- the rows so far are the picture's, and the others are as they were
abbrev pub invariant-loop-y : goal.invariant-loop-y
invariant-loop-y l = AreCopied l.fn.size l.picture l.initial.marked l.initial.touched l.y l.touched l.marked
