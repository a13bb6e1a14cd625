-- Steps after steps: their events, and what they announce.
use Rattle.std.proofs.Common.{◌≡◌, List, [], ◌∷◌, ◌++◌, sym, refl, ap, ◌∙◌, append_assoc, append-nil}
use Rattle.conn_rules.specs.declared.conn_step.ConnStep.{ConnStep}
use Rattle.serve_rules.specs.Notices.{Notice, event_in, events_in, notice_after, notice_after_all}

pub notice_then : (n : Notice) (xs ys : List ConnStep) → notice_after_all n (xs ++ ys) ≡ notice_after_all (notice_after_all n xs) ys
notice_then n [] ys = refl
notice_then n (x ∷ xs) ys = notice_then (notice_after n x) xs ys

pub events_then : (xs ys : List ConnStep) → events_in (xs ++ ys) ≡ events_in xs ++ events_in ys
events_then [] ys = refl
events_then (x ∷ xs) ys = ap (λ es. event_in x ++ es) (events_then xs ys) ∙ sym (append_assoc (event_in x) (events_in xs) (events_in ys))

-- and one step more
pub events_snoc : (xs : List ConnStep) (x : ConnStep) → events_in (xs ++ x ∷ []) ≡ events_in xs ++ event_in x
events_snoc xs x = events_then xs (x ∷ []) ∙ ap (λ es. events_in xs ++ es) (append-nil (event_in x))

pub notice_snoc : (n : Notice) (xs : List ConnStep) (x : ConnStep) → notice_after_all n (xs ++ x ∷ []) ≡ notice_after (notice_after_all n xs) x
notice_snoc n xs x = notice_then n xs (x ∷ [])
