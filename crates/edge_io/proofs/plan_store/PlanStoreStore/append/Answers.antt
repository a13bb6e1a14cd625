use Rattle.std.proofs.Common.{◌≡◌, Some, length, sym, subst, rules}
use Rattle.edge_io.specs.Sink.{Appends}
use Rattle.edge_io.specs.Store.{Follows, After, AddsFront, Elapses}
use Rattle.edge_io.specs.PlannedStore.{PlannedStore, StoodSince}
use Rattle.edge_io.proofs.StoreLemmas.{append_bytes, append_crash, append_time}
use Rattle.edge_io.proofs.plan_store.PlanStoreStore.append.Goals as goal

pub returns-clause-after : goal.returns-clause-after
returns-clause-after c = search rules

pub returns-clause-bytes : goal.returns-clause-bytes
returns-clause-bytes c =
    let old = c.args.self.now in
    let bytes = c.args.bytes.now in
    subst (λ (new : PlannedStore). Appends (Some old.kept) (Some new.kept) c.unwrap_or.result bytes) (sym (returns-clause-after c)) (append_bytes old c.unwrap_or.result bytes)

pub returns-clause-crash : goal.returns-clause-crash
returns-clause-crash c =
    let old = c.args.self.now in
    let bytes = c.args.bytes.now in
    subst (λ (new : PlannedStore). Follows (AddsFront bytes) (λ d. d ≡ old.kept) (λ d. d ≡ new.kept)) (sym (returns-clause-after c)) (append_crash old c.unwrap_or.result bytes)

pub returns-clause-time : goal.returns-clause-time
returns-clause-time c =
    let old = c.args.self.now in
    let bytes = c.args.bytes.now in
    subst (λ (new : PlannedStore). Elapses (length old.past) (length new.past) (StoodSince old) (StoodSince new) (After (AddsFront bytes) (λ d. d ≡ old.kept))) (sym (returns-clause-after c))
    (append_time old c.unwrap_or.result bytes)
