-- The legal front of entries is the longest one.
use Rattle.std.proofs.Common.{◌≡◌, ◌≢◌, Bool, true, false, List, [], ◌∷◌, ◌++◌, refl, ap, Some, None}
use Rattle.std.specs.Prelude.{Option, is_none, if◌then◌else◌}
use Rattle.std.proofs.lemmas.Bool.{and_from}
use Rattle.session_rules.specs.declared.entry.Entry.{Entry}
use Rattle.session_rules.specs.Journal.{Head, Reached, Refusal, refusal_of, reached_at_first, reached_after, reached_after_entry, are_legal_after}
use Rattle.record_file.specs.Replaying.{legal_after, legal_front}
use Rattle.record_file.specs.LegalFronts.{IsRefusedNext, IsLongestLegal}

pub record Longest (head : Head) (r : Reached) (j front : List Entry) : Type 0 where
  pub legal : are_legal_after head r front ≡ true
  pub rest : List Entry
  pub whole : j ≡ front ++ rest
  pub refused : IsRefusedNext head (reached_after head.size r front) rest

longest_from : (head : Head) (r : Reached) (j : List Entry) → Longest head r j (legal_after head r j)
longest_from head r [] = record { legal = refl; rest = []; whole = refl; refused = tt }
longest_from head r (e ∷ es) = by (is_none (refusal_of head r e)) refl (longest_from head (reached_after_entry head.size r e) es)
  where
    isnt : (o : Option Refusal) → is_none o ≡ false → o ≢ None
    isnt None h = λ k. absurd (cc h)
    isnt (Some x) h = λ k. absurd (cc k)

    by : (t : Bool) → is_none (refusal_of head r e) ≡ t → Longest head (reached_after_entry head.size r e) es (legal_after head (reached_after_entry head.size r e) es)
        → Longest head r (e ∷ es) (if t then e ∷ legal_after head (reached_after_entry head.size r e) es else [])
    by true h l = record { legal = and_from _ _ h l.legal; rest = l.rest; whole = ap (λ xs. e ∷ xs) l.whole; refused = l.refused }
    by false h l = record { legal = refl; rest = e ∷ es; whole = refl; refused = isnt (refusal_of head r e) h }

pub longest : (head : Head) (j : List Entry) → IsLongestLegal head j (legal_front head j)
longest head j = let l = longest_from head (reached_at_first head.size) j in record { legal = l.legal; rest = l.rest; whole = l.whole; refused = l.refused }
