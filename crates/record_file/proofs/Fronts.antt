-- Faults stay, and fronts of legal records are told.
use Rattle.std.proofs.Common.{◌≡◌, ℕ, zero, suc, ◌<◌, ◌≤◌, Bool, true, false, List, [], ◌∷◌, ◌++◌, length, take, drop, refl, ap, sym, subst, ◌∙◌, arith, Some, None, append-nil, inl}
use Rattle.std.specs.Prelude.{Option, option_map, nat_lt, nat_le, min, if◌then◌else◌}
use Rattle.std.proofs.lemmas.Bool.{and_from, and_parts}
use Rattle.std.proofs.lemmas.Bool.Decides.{nat_tests}
use Rattle.std.proofs.lemmas.List.{length-append, length-take, take-append-drop}
use Rattle.px_core.specs.Rectangle.{is_session_size}
use Rattle.session_rules.specs.declared.entry.Entry.{Entry}
use Rattle.session_rules.specs.Journal.{Head, Reached, reached_at_first, picture_after_entries, IsLegalJournal}
use Rattle.session_rules.proofs.Journals.{reached_at-append, IsLegalJournal-front}
use Rattle.record_rules.specs.Tables.{head_bytes, record_bytes, is_recordable, are_recordable, is_recordable_head}
use Rattle.record_rules.specs.Records.{End, journal_of_record}
use Rattle.record_rules.specs.Records.End.{Unfinished, Faulty}
use Rattle.record_rules.proofs.Extends.{refused_for_ever, records_begin}
use Rattle.record_rules.proofs.RecordsBack.{record_back, front_stands, stands_back}
use Rattle.record_rules.proofs.Recordable.{legal_recordable}
use Rattle.record_file.specs.declared.told.Told.{Told}
use Rattle.record_file.specs.Replaying.{legal_front, Fault, Replayed, replayed, replayed_of, replayed_by, first_fault, fault_of_form, picture_at}
use Rattle.record_file.specs.Replaying.Fault.{BadEntry}
use Rattle.record_file.specs.Told.{Tells}
use Rattle.record_file.specs.Replays.{TellsFront}
use Rattle.record_file.proofs.Legal.{all_legal, legal_more}

-- ---- faults stay

pub replayed_by_record : (bytes : List ℕ) → replayed bytes ≡ replayed_of (journal_of_record bytes)
unfolding replayed
replayed_by_record bytes = refl

-- a fault of form
form_stays : (bytes more : List ℕ) (at : ℕ) → (journal_of_record bytes).end ≡ Faulty at → replayed (bytes ++ more) ≡ replayed bytes
form_stays bytes more at e = replayed_by_record (bytes ++ more) ∙ ap replayed_of (refused_for_ever bytes more at e) ∙ sym (replayed_by_record bytes)

-- an entry that isn't legal
law_stays : (head : Head) (es more : List Entry) (end later : End) → nat_lt (length (legal_front head es)) (length es) ≡ true
    → replayed_by (Some head) (es ++ more) later ≡ replayed_by (Some head) es end
law_stays head es more end later t =
    let less : length (legal_front head es) < length es = grind (arith, nat_tests, t) in
    let l = length-append es more in
    let longer : length (legal_front head es) < length (es ++ more) = omega (arith, less, l) in
    let u : nat_lt (length (legal_front head es)) (length (es ++ more)) ≡ true = grind (arith, nat_tests, longer) in
    ap (λ xs. record { head = Some head; entries = xs; fault = first_fault (length xs) (length (es ++ more)) later }) (legal_more head (reached_at_first head.size) es more less)
    ∙ ap (λ b. record { head = Some head; entries = legal_front head es; fault = if b then Some (BadEntry (length (legal_front head es))) else fault_of_form later }) u
    ∙ ap (λ b. record { head = Some head; entries = legal_front head es; fault = if b then Some (BadEntry (length (legal_front head es))) else fault_of_form end }) (sym t)

-- the first fault of bytes is that of all bytes that begin with them
pub fault_stays : (bytes more : List ℕ) (fault : Fault) → (replayed bytes).fault ≡ Some fault → replayed (bytes ++ more) ≡ replayed bytes
fault_stays bytes more fault h =
    by (journal_of_record bytes).head refl (journal_of_record bytes).end refl (ap (λ r. r.fault) (sym (replayed_by_record bytes)) ∙ h)
  where
    es : List Entry
    es = (journal_of_record bytes).entries

    formed : (end : End) → (journal_of_record bytes).end ≡ end → fault_of_form end ≡ Some fault → replayed (bytes ++ more) ≡ replayed bytes
    formed (Unfinished at) e k = absurd (cc k)
    formed (Faulty at) e k = form_stays bytes more at e

    lawful : (head : Head) → (journal_of_record bytes).head ≡ Some head → (end : End) → (journal_of_record bytes).end ≡ end → (t : Bool) → nat_lt (length (legal_front head es)) (length es) ≡ t
        → (if t then Some (BadEntry (length (legal_front head es))) else fault_of_form end) ≡ Some fault → replayed (bytes ++ more) ≡ replayed bytes
    lawful head is end e true t k =
        let b = records_begin bytes more head is in
        let later = (journal_of_record (bytes ++ more)).end in
        replayed_by_record (bytes ++ more)
        ∙ ap (λ o. replayed_by o (journal_of_record (bytes ++ more)).entries later) b.0
        ∙ ap (λ xs. replayed_by (Some head) xs later) b.1.1
        ∙ law_stays head es b.1.0 end later t
        ∙ ap (λ o. replayed_by o es end) (sym is)
        ∙ ap (λ n. replayed_by (journal_of_record bytes).head es n) (sym e)
        ∙ sym (replayed_by_record bytes)
    lawful head is end e false t k = formed end e k

    by : (o : Option Head) → (journal_of_record bytes).head ≡ o → (end : End) → (journal_of_record bytes).end ≡ end → (replayed_by (journal_of_record bytes).head es (journal_of_record bytes).end).fault ≡ Some fault
        → replayed (bytes ++ more) ≡ replayed bytes
    by None is end e k = formed end e (ap (λ o. (replayed_by o es end).fault) (sym is) ∙ ap (λ n. (replayed_by (journal_of_record bytes).head es n).fault) (sym e) ∙ k)
    by (Some head) is end e k =
        lawful head is end e (nat_lt (length (legal_front head es)) (length es)) refl
        (ap (λ o. (replayed_by o es end).fault) (sym is) ∙ ap (λ n. (replayed_by (journal_of_record bytes).head es n).fault) (sym e) ∙ k)

-- ---- records of legal journals

session_sized : (head : Head) → is_recordable_head head ≡ true → is_session_size head.size.w head.size.h ≡ true
session_sized head h = (and_parts (is_session_size head.size.w head.size.h) _ h).0

-- a whole record has no fault
record_is : (head : Head) (j : List Entry) → is_recordable_head head ≡ true → IsLegalJournal head j → replayed (record_bytes head j) ≡ record { head = Some head; entries = j; fault = None }
record_is head j h legal =
    let bytes = record_bytes head j in
    replayed_by_record bytes
    ∙ ap (λ bs. replayed_of (journal_of_record bs)) (sym (append-nil bytes))
    ∙ ap replayed_of (record_back head j [] h (legal_recordable head j (session_sized head h) legal) (inl (omega arith)))
    ∙ all_legal head j (Unfinished (length bytes)) legal

fault_or_none : (o : Option Fault) → ((fault : Fault) → o ≡ Some fault → ⊥) → o ≡ None
fault_or_none None f = refl
fault_or_none (Some fault) f = absurd (f fault refl)

-- so none of its fronts has one
pub front_faultless : (head : Head) (j : List Entry) (front rest : List ℕ) → is_recordable_head head ≡ true → IsLegalJournal head j → record_bytes head j ≡ front ++ rest → (replayed front).fault ≡ None
front_faultless head j front rest h legal e = fault_or_none (replayed front).fault (λ fault is.
    let same = sym (fault_stays front rest fault is) ∙ ap replayed (sym e) ∙ record_is head j h legal in
    let none = ap (λ r. r.fault) same in
    absurd (cc (is, none)))

recordable_front : (xs ys : List Entry) → are_recordable (xs ++ ys) ≡ true → are_recordable xs ≡ true
recordable_front [] ys h = refl
recordable_front (x ∷ xs) ys h = let k = and_parts (is_recordable x) (are_recordable (xs ++ ys)) h in and_from _ _ k.0 (recordable_front xs ys k.1)

take_twice : (k : ℕ) (j : List Entry) → take (length (take k j)) j ≡ take k j
take_twice zero j = refl
take_twice (suc k) [] = refl
take_twice (suc k) (x ∷ xs) = ap (λ ys. x ∷ ys) (take_twice k xs)

-- of a front with the whole head the whole entries are told
pub front_told : (head : Head) (j : List Entry) (front rest : List ℕ) (t : Told) → is_recordable_head head ≡ true → IsLegalJournal head j → record_bytes head j ≡ front ++ rest
    → Tells (replayed front) t → length (head_bytes head) ≤ length front → TellsFront head j front t
front_told head j front rest t h legal e told long =
    let held = legal_recordable head j (session_sized head h) legal in
    let f = front_stands head j front rest held e long in
    let k = f.0 in
    let i : List Entry = take k j in
    let joined : i ++ drop k j ≡ j = take-append-drop k j in
    let part_held = recordable_front i (drop k j) (ap are_recordable joined ∙ held) in
    let part_legal : IsLegalJournal head i = IsLegalJournal-front head i (drop k j) (subst (IsLegalJournal head) (sym joined) legal) in
    let is = replayed_by_record front ∙ ap replayed_of (stands_back front head i h part_held f.1) ∙ all_legal head i (Unfinished (length (record_bytes head i))) part_legal in
    let count = length i in
    let few : count ≡ min k (length j) = length-take k j in
    let sized = ap length f.1.whole ∙ length-append (record_bytes head i) f.1.part in
    let twice = take_twice k j in
    record {
      count = count;
      counted = record {
        some = omega (arith, few);
        whole = rw twice (omega (arith, sized));
        most = λ n within fits. let below = f.2 n within fits in omega (arith, few, below, within);
      };
      size = told.size ∙ ap (λ (r : Replayed). option_map (λ (x : Head). x.size) r.head) is;
      length = told.length ∙ ap (λ (r : Replayed). length r.entries) is;
      picture = told.picture ∙ ap (picture_at t.stop) is ∙ same (nat_le t.stop count) refl;
    }
  where
    same : (b : Bool) → nat_le t.stop (length (take (front_stands head j front rest (legal_recordable head j (session_sized head h) legal) e long).0 j)) ≡ b
        → (if b then Some (picture_after_entries head.size (take (front_stands head j front rest (legal_recordable head j (session_sized head h) legal) e long).0 j) t.stop) else None)
        ≡ (if b then Some (picture_after_entries head.size j t.stop) else None)
    same true b =
        let k = (front_stands head j front rest (legal_recordable head j (session_sized head h) legal) e long).0 in
        let within : t.stop ≤ length (take k j) = grind (arith, nat_tests, b) in
        ap (λ (r : Reached). Some r.state.surface.picture) (sym (reached_at-append head.size (take k j) (drop k j) t.stop within))
        ∙ ap (λ i. Some (picture_after_entries head.size i t.stop)) (take-append-drop k j)
    same false b = refl
