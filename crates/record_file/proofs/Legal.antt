-- The legal front of entries.
use Rattle.std.proofs.Common.{◌≡◌, ◌≢◌, ℕ, ◌<◌, Bool, true, false, List, [], ◌∷◌, ◌++◌, length, refl, ap, ◌∙◌, arith, Some, None}
use Rattle.std.specs.Prelude.{Option, is_none, nat_lt, if◌then◌else◌}
use Rattle.std.proofs.lemmas.Bool.{and_parts}
use Rattle.std.proofs.lemmas.Bool.Decides.{nat_tests}
use Rattle.std.proofs.lemmas.List.{length-append}
use Rattle.session_rules.specs.declared.entry.Entry.{Entry}
use Rattle.session_rules.specs.Journal.{Head, Reached, refusal_of, reached_at_first, reached_after, reached_after_entry, are_legal_after, IsLegalJournal}
use Rattle.record_rules.specs.Records.{End}
use Rattle.record_file.specs.Replaying.{legal_after, first_fault, fault_of_form, replayed_by}
use Rattle.record_file.specs.Replaying.Fault.{BadEntry}

-- all entries of a legal list
pub legal_all : (head : Head) (r : Reached) (j : List Entry) → are_legal_after head r j ≡ true → legal_after head r j ≡ j
legal_all head r [] h = refl
legal_all head r (e ∷ es) h =
    let k = and_parts (is_none (refusal_of head r e)) (are_legal_after head (reached_after_entry head.size r e) es) h in
    ap (λ t. if t then e ∷ legal_after head (reached_after_entry head.size r e) es else []) k.0
    ∙ ap (λ xs. e ∷ xs) (legal_all head (reached_after_entry head.size r e) es k.1)

isnt_none : {A : Type 0} (o : Option A) → o ≢ None → is_none o ≡ false
isnt_none None out = absurd (out refl)
isnt_none (Some x) out = refl

-- the entries of a legal list before one that isn't legal behind it
pub legal_then : (head : Head) (r : Reached) (j more : List Entry) (e : Entry) → are_legal_after head r j ≡ true → refusal_of head (reached_after head.size r j) e ≢ None
    → legal_after head r (j ++ e ∷ more) ≡ j
legal_then head r [] more e h out = ap (λ t. if t then e ∷ legal_after head (reached_after_entry head.size r e) more else []) (isnt_none (refusal_of head r e) out)
legal_then head r (x ∷ xs) more e h out =
    let k = and_parts (is_none (refusal_of head r x)) (are_legal_after head (reached_after_entry head.size r x) xs) h in
    ap (λ t. if t then x ∷ legal_after head (reached_after_entry head.size r x) (xs ++ e ∷ more) else []) k.0
    ∙ ap (λ ys. x ∷ ys) (legal_then head (reached_after_entry head.size r x) xs more e k.1 out)

-- what stands behind an entry that isn't legal changes nothing
pub legal_more : (head : Head) (r : Reached) (es more : List Entry) → length (legal_after head r es) < length es → legal_after head r (es ++ more) ≡ legal_after head r es
legal_more head r [] more h = absurd (omega (arith, h))
legal_more head r (e ∷ es) more h = by (is_none (refusal_of head r e)) h (legal_more head (reached_after_entry head.size r e) es more)
  where
    by : (t : Bool) → length (if t then e ∷ legal_after head (reached_after_entry head.size r e) es else []) < length (e ∷ es)
        → (length (legal_after head (reached_after_entry head.size r e) es) < length es
        → legal_after head (reached_after_entry head.size r e) (es ++ more) ≡ legal_after head (reached_after_entry head.size r e) es)
        → (if t then e ∷ legal_after head (reached_after_entry head.size r e) (es ++ more) else []) ≡ (if t then e ∷ legal_after head (reached_after_entry head.size r e) es else [])
    by true k others = ap (λ xs. e ∷ xs) (others (omega (arith, k)))
    by false k others = refl

not_below : (n : ℕ) → nat_lt n n ≡ false
not_below n = grind (arith, nat_tests)

below_more : (j more : List Entry) (e : Entry) → nat_lt (length j) (length (j ++ e ∷ more)) ≡ true
below_more j more e = let l = length-append j (e ∷ more) in let less : length j < length (j ++ e ∷ more) = omega (arith, l) in grind (arith, nat_tests, less)

-- a legal list stands for itself, and what ends it is a fault of form or none
pub all_legal : (head : Head) (j : List Entry) (end : End) → IsLegalJournal head j → replayed_by (Some head) j end ≡ record { head = Some head; entries = j; fault = fault_of_form end }
all_legal head j end legal =
    ap (λ xs. record { head = Some head; entries = xs; fault = first_fault (length xs) (length j) end }) (legal_all head (reached_at_first head.size) j legal)
    ∙ ap (λ t. record { head = Some head; entries = j; fault = if t then Some (BadEntry (length j)) else fault_of_form end }) (not_below (length j))

-- an entry that isn't legal behind a legal list is the first fault
pub first_illegal : (head : Head) (j more : List Entry) (e : Entry) (end : End) → IsLegalJournal head j → refusal_of head (reached_after head.size (reached_at_first head.size) j) e ≢ None
    → replayed_by (Some head) (j ++ e ∷ more) end ≡ record { head = Some head; entries = j; fault = Some (BadEntry (length j)) }
first_illegal head j more e end legal out =
    ap (λ xs. record { head = Some head; entries = xs; fault = first_fault (length xs) (length (j ++ e ∷ more)) end }) (legal_then head (reached_at_first head.size) j more e legal out)
    ∙ ap (λ t. record { head = Some head; entries = j; fault = if t then Some (BadEntry (length j)) else fault_of_form end }) (below_more j more e)
