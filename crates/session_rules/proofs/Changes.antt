-- Each change of a legal journal was made by who held control there.
use Rattle.std.proofs.Common.{◌≡◌, ◌≢◌, ℕ, zero, suc, List, [], ◌∷◌, ◌++◌, refl, ap, sym, ◌∙◌, Some, None, length, take, arith}
use Rattle.std.specs.Prelude.{true, ◌==◌, not, IsTrue}
use Rattle.std.proofs.lemmas.Bool.{and_parts, eqb-true}
use Rattle.session_rules.specs.declared.entry.Entry.{Entry}
use Rattle.session_rules.specs.declared.entry.Entry.TheVariants.{Join, Leave, Give, Input, Draw}
use Rattle.session_rules.specs.Journal.{Head, Reached, refusal_of, holds, are_legal_after, reached_at_first, reached_after_entry, reached_after, reached_at, IsLegalJournal, author_of, ChangesAreTheHolders}
use Rattle.session_rules.proofs.OwnSteps.{holds-legal_draw, holds-legal_input, is_none-≡}

-- the entry after a front of a legal journal is legal there
refusal_of-split : (head : Head) (r : Reached) (front rest : List Entry) (e : Entry) → IsTrue (are_legal_after head r (front ++ e ∷ rest)) → refusal_of head (reached_after head.size r front) e ≡ None
refusal_of-split head r [] rest e h = is_none-≡ _ (and_parts _ _ h).0
refusal_of-split head r (x ∷ xs) rest e h = refusal_of-split head (reached_after_entry head.size r x) xs rest e (and_parts _ _ h).1

take_front : (front rest : List Entry) → take (length front) (front ++ rest) ≡ front
take_front [] rest = refl
take_front (x ∷ xs) rest = ap (λ es. x ∷ es) (take_front xs rest)

author_holds : (head : Head) (r : Reached) (e : Entry) (v : ℕ) → refusal_of head r e ≡ None → author_of e ≡ Some v → IsTrue (holds r v)
author_holds head r (Join w role) v h eq = absurd (cc eq)
author_holds head r (Leave w) v h eq = absurd (cc eq)
author_holds head r (Give by to) v h eq = absurd (cc eq)
author_holds head r (Input by event) v h eq = rw (← same eq) (holds-legal_input head r by event h)
  where
    same : Some by ≡ Some v → by ≡ v
    same e = cc e
author_holds head r (Draw by d) v h eq = rw (← same eq) (holds-legal_draw head r by d h)
  where
    same : Some by ≡ Some v → by ≡ v
    same e = cc e

not_zero : (v : ℕ) → not (v == 0) ≡ true → v ≢ 0
not_zero zero h eq = absurd (cc h)
not_zero (suc n) h eq = absurd (omega (arith, eq))

holder_is : (r : Reached) (v : ℕ) → IsTrue (holds r v) → (r.holder ≡ v) × (v ≢ 0)
holder_is r v h = let k = and_parts (v == r.holder) (not (v == 0)) h in (sym (eqb-true v r.holder k.0), not_zero v k.1)

pub ChangesAreTheHolders-legal : (head : Head) (j : List Entry) → IsLegalJournal head j → ChangesAreTheHolders head.size j
ChangesAreTheHolders-legal head j h front rest e v cut author =
    let legal = refusal_of-split head (reached_at_first head.size) front rest e (rw (← cut) h) in
    let there : reached_at head.size j (length front) ≡ reached_after head.size (reached_at_first head.size) front
    = ap (λ es. reached_after head.size (reached_at_first head.size) (take (length front) es)) cut ∙ ap (reached_after head.size (reached_at_first head.size)) (take_front front (e ∷ rest)) in
    let k = holder_is (reached_after head.size (reached_at_first head.size) front) v (author_holds head (reached_after head.size (reached_at_first head.size) front) e v legal author) in
    (ap (λ r. r.holder) there ∙ k.0, k.1)
