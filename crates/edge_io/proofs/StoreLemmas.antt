-- What the calls of a store in memory make of it.
use Rattle.std.proofs.Common.{◌≡◌, ◌⊎◌, inl, inr, ⊎_elim, ℕ, zero, suc, ◌+◌, ◌≤◌, Bool, true, false, List, [], ◌∷◌, ◌++◌, length, take, drop, Some, None, refl, sym, ◌∙◌, ap, subst, arith, length-append, take-append-drop}
use Rattle.std.proofs.lemmas.List.{append-nil, take_at, drop-drop, length-take}
use Rattle.std.specs.declared.option.Option.{Option}
use Rattle.edge_io.specs.declared.sink.Wrote.{Wrote}
use Rattle.edge_io.specs.declared.sink.Wrote.TheVariants as wrote
use Rattle.edge_io.specs.Sink.{Appends}
use Rattle.edge_io.specs.Store.{AddsFront, CutsOrStays, After, Follows, Elapses}
use Rattle.edge_io.specs.PlannedStore.{PlannedStore, call_fails, crash_now, store_failed, store_after_append, store_after_cut, HadBeen, StoodSince}

-- ---- one more content joins those that it has had

keeps : (past : List (List ℕ)) (old c : List ℕ) → HadBeen past c → HadBeen (past ++ old ∷ []) c
keeps [] old c had = absurd had
keeps (content ∷ past) old c (inl here) = inl here
keeps (content ∷ past) old c (inr there) = inr (keeps past old c there)

adds : (past : List (List ℕ)) (old c : List ℕ) → HadBeen (past ++ old ∷ []) c → HadBeen past c ⊎ (c ≡ old)
adds [] old c (inl here) = inr here
adds [] old c (inr none) = absurd none
adds (content ∷ past) old c (inl here) = inl (inl here)
adds (content ∷ past) old c (inr there) = ⊎_elim (λ had. inl (inr had)) (λ new. inr new) (adds past old c there)

newest : (past : List (List ℕ)) (old c : List ℕ) → c ≡ old → HadBeen (past ++ old ∷ []) c
newest [] old c is = inl is
newest (content ∷ past) old c is = inr (newest past old c is)

drop_push : (t : ℕ) (past : List (List ℕ)) (old : List ℕ) → t ≤ length past → drop t (past ++ old ∷ []) ≡ drop t past ++ old ∷ []
drop_push zero past old le = refl
drop_push (suc t) [] old le = absurd (omega arith)
drop_push (suc t) (content ∷ past) old le = drop_push t past old (omega arith)

-- what might have been left since a moment
abbrev Since : List (List ℕ) → List ℕ → ℕ → List ℕ → Type 0
Since past kept t c = (c ≡ kept) ⊎ HadBeen (drop t past) c

elapses_same : (past : List (List ℕ)) (kept : List ℕ) (within : List ℕ → Type 0) → Elapses (length past) (length past) (Since past kept) (Since past kept) within
elapses_same past kept within = record { later = omega arith; nothing_else = λ t c le left. inl left; keeps = λ t c le left. left }

elapses_push : (past : List (List ℕ)) (old new : List ℕ) (within : List ℕ → Type 0) → within new
    → Elapses (length past) (length (past ++ old ∷ [])) (Since past old) (Since (past ++ old ∷ []) new) within
elapses_push past old new within here = record {
  later = omega (arith, length-append past (old ∷ []));
  nothing_else = λ t c le left. ⊎_elim (λ now. inr (subst within (sym now) here)) (λ had. inl (was t c (adds (drop t past) old c (subst (λ l. HadBeen l c) (drop_push t past old le) had)))) left;
  keeps = λ t c le left. inr (subst (λ l. HadBeen l c) (sym (drop_push t past old le)) (⊎_elim (λ now. newest (drop t past) old c now) (keeps (drop t past) old c) left));
}
  where
    was : (t : ℕ) (c : List ℕ) → HadBeen (drop t past) c ⊎ (c ≡ old) → Since past old t c
    was t c (inl had) = inr had
    was t c (inr new) = inl new

-- ---- an append

failed_adds : (fails : Bool) (crash : Option ℕ) (bytes : List ℕ) (s : PlannedStore) → AddsFront bytes s.kept (store_failed fails crash bytes s).kept
failed_adds true crash bytes s = record { front = []; rest = bytes; whole = refl; added = sym (append-nil s.kept) }
failed_adds false None bytes s = record { front = []; rest = bytes; whole = refl; added = sym (append-nil s.kept) }
failed_adds false (Some count) bytes s = record { front = take count bytes; rest = drop count bytes; whole = sym (take-append-drop count bytes); added = refl }

-- a front of the bytes stands behind the others
append_adds : (s : PlannedStore) (r : Wrote) (bytes : List ℕ) → AddsFront bytes s.kept (store_after_append s r bytes).kept
append_adds s wrote.All bytes = record { front = bytes; rest = []; whole = sym (append-nil bytes); added = refl }
append_adds s wrote.Failed bytes = failed_adds (call_fails s) (crash_now s) bytes s
append_adds s wrote.OutOfMemory bytes = record { front = []; rest = bytes; whole = refl; added = sym (append-nil s.kept) }

pub append_bytes : (s : PlannedStore) (r : Wrote) (bytes : List ℕ) → Appends (Some s.kept) (Some (store_after_append s r bytes).kept) r bytes
append_bytes s wrote.All bytes = refl
append_bytes s wrote.Failed bytes = let a = append_adds s wrote.Failed bytes in record { front = a.front; rest = a.rest; whole = a.whole; written = a.added }
append_bytes s wrote.OutOfMemory bytes = let a = append_adds s wrote.OutOfMemory bytes in record { front = a.front; rest = a.rest; whole = a.whole; written = a.added }

append_within : (s : PlannedStore) (r : Wrote) (bytes : List ℕ) → After (AddsFront bytes) (λ c. c ≡ s.kept) (store_after_append s r bytes).kept
append_within s r bytes = (s.kept, refl, append_adds s r bytes)

pub append_crash : (s : PlannedStore) (r : Wrote) (bytes : List ℕ) → Follows (AddsFront bytes) (λ c. c ≡ s.kept) (λ c. c ≡ (store_after_append s r bytes).kept)
append_crash s r bytes c is = subst (After (AddsFront bytes) (λ d. d ≡ s.kept)) (sym is) (append_within s r bytes)

failed_time : (fails : Bool) (crash : Option ℕ) (bytes : List ℕ) (s : PlannedStore) (within : List ℕ → Type 0) → within (store_failed fails crash bytes s).kept
    → Elapses (length s.past) (length (store_failed fails crash bytes s).past) (StoodSince s) (StoodSince (store_failed fails crash bytes s)) within
failed_time true crash bytes s within here = elapses_same s.past s.kept within
failed_time false None bytes s within here = elapses_same s.past s.kept within
failed_time false (Some count) bytes s within here = elapses_push s.past s.kept (s.kept ++ take count bytes) within here

pub append_time : (s : PlannedStore) (r : Wrote) (bytes : List ℕ)
    → Elapses (length s.past) (length (store_after_append s r bytes).past) (StoodSince s) (StoodSince (store_after_append s r bytes)) (After (AddsFront bytes) (λ c. c ≡ s.kept))
append_time s wrote.All bytes = elapses_push s.past s.kept (s.kept ++ bytes) (After (AddsFront bytes) (λ c. c ≡ s.kept)) (append_within s wrote.All bytes)
append_time s wrote.Failed bytes = failed_time (call_fails s) (crash_now s) bytes s (After (AddsFront bytes) (λ c. c ≡ s.kept)) (append_within s wrote.Failed bytes)
append_time s wrote.OutOfMemory bytes = elapses_same s.past s.kept (After (AddsFront bytes) (λ c. c ≡ s.kept))

-- ---- a cut

pub cut_crash : (s : PlannedStore) (r : Bool) (length : ℕ) → Follows (CutsOrStays length) (λ c. c ≡ s.kept) (λ c. c ≡ (store_after_cut s r length).kept)
cut_crash s true length c is = (s.kept, refl, inr is)
cut_crash s false length c is = (s.kept, refl, inl is)

pub cut_time : (s : PlannedStore) (r : Bool) (n : ℕ)
    → Elapses (length s.past) (length (store_after_cut s r n).past) (StoodSince s) (StoodSince (store_after_cut s r n)) (After (CutsOrStays n) (λ c. c ≡ s.kept))
cut_time s true n = elapses_push s.past s.kept (take n s.kept) (After (CutsOrStays n) (λ c. c ≡ s.kept)) (s.kept, refl, inr refl)
cut_time s false n = elapses_same s.past s.kept (After (CutsOrStays n) (λ c. c ≡ s.kept))

-- ---- a read

-- the bytes that were read, and those that are left
pub read_takes : (kept buf : List ℕ) (read count : ℕ) → count ≤ length (drop read kept)
    → drop read kept ≡ take count (take count (drop read kept) ++ drop count buf) ++ drop (read + count) kept
read_takes kept buf read count fits =
    let piece : length (take count (drop read kept)) ≡ count = omega (arith, length-take count (drop read kept)) in
    sym (take-append-drop count (drop read kept)) ∙ ap (λ l. take count (drop read kept) ++ l) (drop-drop count read kept)
    ∙ ap (λ l. l ++ drop (read + count) kept) (sym (take_at (take count (drop read kept)) (drop count buf) count piece))
