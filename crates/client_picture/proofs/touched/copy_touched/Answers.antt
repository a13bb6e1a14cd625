use Rattle.std.proofs.Common.{◌+◌, ℕ, List, Bool, false, sym, subst, ◌∙◌, arith, inl, inr}
use Rattle.std.specs.Prelude.{Option, None, slice_set}
use Rattle.std.proofs.lemmas.Bool.{cases_lt}
use Rattle.px_core.proofs.Pictures.{same_pixels}
use Rattle.client_picture.specs.Touched.{AreCopied}
use Rattle.client_picture.proofs.Flags.{outside, out_of_columns, out_of_rows, behind_rows}
use Rattle.client_picture.proofs.Marks.{row_copied, row_kept, none_copied}
use Rattle.client_picture.proofs.touched.copy_touched.Goals.{then-touched-y, else-touched-y}
use Rattle.client_picture.proofs.touched.copy_touched.Goals as goal

pub loop-y-init : goal.loop-y-init
loop-y-init c = none_copied c.args.size c.args.picture.now c.args.marked.now c.args.touched.now c.earlier-y.result
    (λ x y left above less. c.requires.beside x y left above (out_of_rows c.args.frame x y (omega (arith, less, c.earlier-y.ensures.first))))

pub loop-y-preserved : goal.loop-y-preserved
loop-y-preserved c = let size = c.args.size in let ps = c.args.picture.now in let first = c.args.marked.now in let flags = c.args.touched.now in let y = c.loop-y.y in
    elim c.if-touched-y.branch [
      | then-touched-y w ↦ subst (λ (ts : List Bool). AreCopied size ps first flags (y + 1) ts c.if-touched-y.marked) (sym w.touched-is)
          (subst (λ (ms : List (Option ℕ)). AreCopied size ps first flags (y + 1) (slice_set c.loop-y.touched y false) ms) (sym w.marked-is)
          (row_copied size ps first flags y c.loop-y.touched c.loop-y.marked c.loop-y.invariant c.earlier-from.result c.args.frame.right w.copy_row.new.marked c.earlier-from.ensures.second w.copy_row.ensures
          (λ x left above h. c.requires.beside x y left above (out_of_columns c.args.frame x y
          (outside c.args.frame.left c.args.frame.right c.earlier-from.result c.args.frame.right x c.earlier-from.ensures.first (omega arith) h)))))
      | else-touched-y w ↦ subst (λ (ts : List Bool). AreCopied size ps first flags (y + 1) ts c.if-touched-y.marked) (sym w.touched-is)
          (subst (λ (ms : List (Option ℕ)). AreCopied size ps first flags (y + 1) c.loop-y.touched ms) (sym w.marked-is)
          (row_kept size ps first flags y c.loop-y.touched c.loop-y.marked c.loop-y.invariant c.requires.touched w.if-touched-y.false))
    ]

pub returns-clause-copied : goal.returns-clause-copied
returns-clause-copied c = let size = c.args.size in let ps = c.args.picture.now in
    same_pixels size c.loop-y.marked ps None (c.loop-y.auto.marked ∙ c.requires.marked.sized) c.requires.canvas.sized
    (λ x y left above. elim (cases_lt y c.args.frame.bottom) [
      | inl less ↦ c.loop-y.invariant.done x y left above (omega (arith, less))
      | inr ge ↦ c.loop-y.invariant.rest x y left above (omega (arith, ge)) ∙ sym (c.requires.beside x y left above (behind_rows c.args.frame x y ge))
    ])
