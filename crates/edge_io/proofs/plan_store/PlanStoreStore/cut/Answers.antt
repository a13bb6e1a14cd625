use Rattle.std.proofs.Common.{◌≡◌, length, true, sym, subst, arith}
use Rattle.std.proofs.lemmas.Grind.{common_steps}
use Rattle.edge_io.specs.Store.{After, CutsOrStays, Elapses}
use Rattle.edge_io.specs.PlannedStore.{PlannedStore, StoodSince}
use Rattle.edge_io.proofs.StoreLemmas.{cut_time}
use Rattle.edge_io.proofs.plan_store.PlanStoreStore.cut.Goals as goal

pub returns-clause-after : goal.returns-clause-after
returns-clause-after c = grind (arith, common_steps)

pub returns-clause-time : goal.returns-clause-time
returns-clause-time c =
    let old = c.args.self.now in
    subst (λ (new : PlannedStore). Elapses (length old.past) (length new.past) (StoodSince old) (StoodSince new) (After (CutsOrStays c.args.most) (λ d. d ≡ old.kept))) (sym (returns-clause-after c))
    (cut_time old true c.args.most)
