use Rattle.std.proofs.Common.{◌+◌, sym, subst, arith}
use Rattle.px_core.specs.declared.surface.Size.{Size}
use Rattle.frame_plan.specs.Cuts.{AllCuttable}
use Rattle.frame_plan.proofs.Cuttable.{pending_cuttable}
use Rattle.frame_plan.proofs.frame.walk_entry.Goals as goal

pub walk_all-requires-clause-cuttable : goal.walk_all-requires-clause-cuttable
walk_all-requires-clause-cuttable c =
    let s = c.args.session.now in
    let k = c.args.entry in
    subst (λ (z : Size). AllCuttable z c.in_ok-drawings.drawings) (sym c.size-size.ensures)
    (subst (AllCuttable s.head.size) (sym c.in_ok-drawings.ensures) (pending_cuttable s.head s.journal c.recall_legal.ensures.size c.recall_legal.ensures.journal k (k + 1) (omega arith)))
