-- What holds of a session's journal holds of what a pass of its lock has seen.
use Rattle.std.proofs.Common.{◌≡◌, ℕ, List, sym, subst}
use Rattle.session_rules.specs.declared.entry.Entry.{Entry}
use Rattle.session_rules.specs.Journal.{Head, IsLegalJournal}
use Rattle.viewer_run.specs.Sending.{IsAbsent}

pub legal_so : (other head : Head) (j seen : List Entry) → other ≡ head → seen ≡ j → IsLegalJournal other j → IsLegalJournal head seen
legal_so other head j seen same is legal = subst (λ (h : Head). IsLegalJournal h seen) same (subst (IsLegalJournal other) (sym is) legal)

-- a viewer who isn't present after what a pass has seen wasn't present in the session that it saw so
pub absent_so : (other head : Head) (v : ℕ) (j seen : List Entry) → other ≡ head → seen ≡ j → IsAbsent head v seen → IsAbsent other v j
absent_so other head v j seen same is gone = subst (λ (h : Head). IsAbsent h v j) (sym same) (subst (IsAbsent head v) is gone)
