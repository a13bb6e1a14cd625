-- Pieces of a journal's bytes, and journals that go on.
use Rattle.std.proofs.Common.{◌≡◌, ℕ, zero, suc, ◌+◌, ◌<◌, ◌≤◌, true, List, [], ◌∷◌, ◌++◌, length, take, refl, ap, sym, subst, ◌∙◌, arith, Some, append_assoc, append-nil}
use Rattle.std.specs.Prelude.{slice_get, Result, Ok, IfOk}
use Rattle.std.proofs.lemmas.Bool.{and_parts}
use Rattle.std.proofs.lemmas.List.{take-append-le}
use Rattle.grow_lock.specs.Journal.{StartsWith}
use Rattle.grow_lock.proofs.Lists.{length_starts}
use Rattle.session_rules.specs.declared.entry.Entry.{Entry}
use Rattle.session_rules.specs.Journal.{Head}
use Rattle.record_rules.specs.Tables.{head_bytes, entry_bytes, entries_bytes, record_bytes, is_recordable, are_recordable}
use Rattle.journal_book.specs.Books.{IsPiece}

-- one more entry
pub next_bytes : (j : List Entry) (n : ℕ) (e : Entry) → slice_get j n ≡ Some e → entries_bytes (take (suc n) j) ≡ entries_bytes (take n j) ++ entry_bytes e
next_bytes [] n e found = absurd (cc found)
next_bytes (x ∷ xs) zero e found = let same : x ≡ e = cc found in append-nil (entry_bytes x) ∙ ap entry_bytes same
next_bytes (x ∷ xs) (suc n) e found =
    ap (λ bs. entry_bytes x ++ bs) (next_bytes xs n e found) ∙ sym (append_assoc (entry_bytes x) (entries_bytes (take n xs)) (entry_bytes e))

plus_one : (n : ℕ) → n + 1 ≡ suc n
plus_one n = omega arith

-- a record can hold it
pub recordable_at : (journal : List Entry) (n : ℕ) (e : Entry) → are_recordable journal ≡ true → slice_get journal n ≡ Some e → is_recordable e ≡ true
recordable_at [] n e h found = absurd (cc found)
recordable_at (x ∷ xs) zero e h found = let same : x ≡ e = cc found in ap is_recordable (sym same) ∙ (and_parts (is_recordable x) (are_recordable xs) h).0
recordable_at (x ∷ xs) (suc n) e h found = recordable_at xs n e (and_parts (is_recordable x) (are_recordable xs) h).1 found

pub no_piece : (j : List Entry) (from : ℕ) (out : List ℕ) → from ≤ length j → out ≡ [] → IsPiece j from from out
no_piece j from out le none = record {
  later = omega arith;
  within = le;
  bytes_are = sym (append-nil (entries_bytes (take from j))) ∙ ap (λ bs. entries_bytes (take from j) ++ bs) (sym none);
}

pub longer_piece : (j : List Entry) (from to n : ℕ) (e : Entry) (out now : List ℕ) → IsPiece j from to out → slice_get j to ≡ Some e → to < n → n ≡ length j → now ≡ out ++ entry_bytes e
    → IsPiece j from (to + 1) now
longer_piece j from to n e out now p found less all written = record {
  later = omega (arith, p.later);
  within = omega (arith, less, all);
  bytes_are = ap (λ m. entries_bytes (take m j)) (plus_one to) ∙ (next_bytes j to e found ∙ (ap (λ bs. bs ++ entry_bytes e) p.bytes_are
      ∙ (append_assoc (entries_bytes (take from j)) out (entry_bytes e) ∙ ap (λ bs. entries_bytes (take from j) ++ bs) (sym written))));
}

pub if_ok : {T E : Type 0} (P : T → Type 0) (r : Result T E) (x : T) → IfOk r P → r ≡ Ok x → P x
if_ok P r x h is = subst (λ s. IfOk s P) is h

-- ---- lists that go on

pub same_front : {A : Type 0} (now seen : List A) (count : ℕ) → StartsWith now seen → count ≤ length seen → take count now ≡ take count seen
same_front now seen count (more, is) le = ap (λ l. take count l) is ∙ take-append-le count seen more le

module _ {A : Type 0} where
  -- a longer front begins with a shorter one
  pub fronts_begin : (xs : List A) (m n : ℕ) → m ≤ n → StartsWith (take n xs) (take m xs)
  fronts_begin xs zero n le = (take n xs, refl)
  fronts_begin [] (suc m) zero le = ([], refl)
  fronts_begin [] (suc m) (suc n) le = ([], refl)
  fronts_begin (x ∷ xs) (suc m) zero le = absurd (omega (arith, le))
  fronts_begin (x ∷ xs) (suc m) (suc n) le = let r = fronts_begin xs m n (omega (arith, le)) in (r.0, ap (λ l. x ∷ l) r.1)

  pub longer_still : (now seen : List A) (n : ℕ) → StartsWith now seen → n ≤ length seen → n ≤ length now
  longer_still now seen n on le = let l = length_starts now seen on in omega (arith, l, le)

  pub take_short : (n : ℕ) (xs : List A) → length (take n xs) ≤ n
  take_short zero xs = omega arith
  take_short (suc n) [] = omega arith
  take_short (suc n) (x ∷ xs) = let r = take_short n xs in omega (arith, r)

-- what was kept begins what is kept
pub kept_on : {A : Type 0} (now seen : List A) (m n : ℕ) → StartsWith now seen → m ≤ length seen → m ≤ n → StartsWith (take n now) (take m seen)
kept_on now seen m n on within le = subst (λ l. StartsWith (take n now) l) (same_front now seen m on within) (fronts_begin now m n le)

-- ---- records that go on

joined_bytes : (xs ys : List Entry) → entries_bytes (xs ++ ys) ≡ entries_bytes xs ++ entries_bytes ys
joined_bytes [] ys = refl
joined_bytes (x ∷ xs) ys = ap (λ bs. entry_bytes x ++ bs) (joined_bytes xs ys) ∙ sym (append_assoc (entry_bytes x) (entries_bytes xs) (entries_bytes ys))

-- the record of a longer journal begins with that of what begins it
pub record_begins : (head : Head) (j i : List Entry) → StartsWith j i → StartsWith (record_bytes head j) (record_bytes head i)
record_begins head j i (more, is) =
    (entries_bytes more, ap (λ es. record_bytes head es) is ∙ (ap (λ bs. head_bytes head ++ bs) (joined_bytes i more) ∙ sym (append_assoc (head_bytes head) (entries_bytes i) (entries_bytes more))))

-- a record and a piece
pub record_piece : (head : Head) (j : List Entry) (from to : ℕ) (piece : List ℕ) → IsPiece j from to piece → record_bytes head (take to j) ≡ record_bytes head (take from j) ++ piece
record_piece head j from to piece p =
    ap (λ bs. head_bytes head ++ bs) p.bytes_are ∙ sym (append_assoc (head_bytes head) (entries_bytes (take from j)) piece)
