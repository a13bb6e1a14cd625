-- What is typed last after one more entry.
use Rattle.std.proofs.Common.{◌≡◌, ℕ, List, [], ◌∷◌, ◌++◌, refl, ap, sym, ◌∙◌, None}
use Rattle.std.specs.Prelude.{Option}
use Rattle.session_rules.specs.declared.entry.Entry.{Entry}
use Rattle.session_core.specs.declared.kept.Kept.{Kept}
use Rattle.session_core.specs.Keeping.{journal_of}
use Rattle.session_rules.specs.Typing.{typed_after, typed_by_entries, last_typed}
use Rattle.session_core.proofs.Sessions.{journal_push}

typed_push : (before : Option ℕ) (j : List Entry) (e : Entry) → typed_by_entries before (j ++ e ∷ []) ≡ typed_after (typed_by_entries before j) e
typed_push before [] e = refl
typed_push before (x ∷ xs) e = typed_push (typed_after before x) xs e

pub typed_on : (typed : Option ℕ) (ks : List Kept) (k : Kept) → typed ≡ last_typed (journal_of ks) → typed_after typed k.entry ≡ last_typed (journal_of (ks ++ k ∷ []))
typed_on typed ks k h = ap (λ t. typed_after t k.entry) h ∙ sym (typed_push None (journal_of ks) k.entry) ∙ ap last_typed (sym (journal_push ks k))
