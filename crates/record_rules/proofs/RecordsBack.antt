-- A record stands for its head and its entries, each front of it with the whole head for the longest list of whole entries in it, and for no other.
use Rattle.std.proofs.Common.{◌≡◌, ℕ, zero, suc, ◌+◌, ◌/◌, ◌%◌, ◌<◌, ◌≤◌, Bool, true, false, List, [], ◌∷◌, ◌++◌, length, take, drop, refl, ap, sym, ◌∙◌, arith, Ok, Err, Some, append_assoc, inl, inr}
use Rattle.std.specs.Prelude.{nat_lt, if◌then◌else◌}
use Rattle.std.proofs.lemmas.Bool.{and_parts}
use Rattle.std.proofs.lemmas.Bool.Decides.{nat_tests}
use Rattle.std.proofs.lemmas.List.{length-append}
use Rattle.byteorder.specs.Endian.{little_bytes, little_number}
use Rattle.wire_num.specs.Field.{then_read, bytes_at, place_in}
use Rattle.wire_num.specs.FieldValue.{as_one_field}
use Rattle.wire_num.specs.Caused.{Caused, then_caused, before_caused, caused}
use Rattle.wire_num.proofs.Numbers.{little_at_is}
use Rattle.wire_num.proofs.Bytes.{bytes_at_is}
use Rattle.session_rules.specs.declared.entry.Entry.{Entry}
use Rattle.session_rules.specs.Journal.{Head}
use Rattle.record_rules.specs.Tables.{body_bytes, entry_bytes, entries_bytes, head_bytes, record_bytes, is_recordable, are_recordable, is_recordable_head}
use Rattle.record_rules.specs.Reading.{Lack, short_at, counted_at, framed_at, body_at, head_at}
use Rattle.record_rules.specs.Reading.Lack.{Missing, Broken}
use Rattle.record_rules.specs.Records.{entry_and, with_entry, entries_in, entries_of, recorded, recorded_entries, journal_of_record, IsPart, StandsFor}
use Rattle.record_rules.specs.Records.End.{Unfinished}
use Rattle.record_rules.proofs.EntriesBack.{framed_back}
use Rattle.record_rules.proofs.HeadsBack.{head_back}

-- ---- less than a whole entry

short_by : (bs : List ℕ) (short : Bool) → nat_lt (length bs) 2 ≡ short → short_at bs ≡ (if short then Err bs else Ok (little_number 2 bs, drop 2 bs))
short_by bs short e = little_at_is 2 bs ∙ ap (λ b. if b then Err bs else Ok (little_number 2 bs, drop 2 bs)) e

counted_part : (bs : List ℕ) → IsPart bs → counted_at bs ≡ Err bs
unfolding counted_at
counted_part bs (inl few) = ap (λ r. as_one_field bs (then_read r (λ n more. bytes_at n more))) (short_by bs true (grind (arith, nat_tests, few)))
counted_part bs (inr few) = by (nat_lt (length bs) 2) refl
  where
    by : (b : Bool) → nat_lt (length bs) 2 ≡ b → as_one_field bs (then_read (short_at bs) (λ n more. bytes_at n more)) ≡ Err bs
    by true e = ap (λ r. as_one_field bs (then_read r (λ n more. bytes_at n more))) (short_by bs true e)
    by false e =
        let short : nat_lt (length (drop 2 bs)) (little_number 2 bs) ≡ true = grind (arith, nat_tests, few) in
        ap (λ r. as_one_field bs (then_read r (λ n more. bytes_at n more))) (short_by bs false e)
        ∙ ap (as_one_field bs) (bytes_at_is (little_number 2 bs) (drop 2 bs) ∙ ap (λ b. if b then Err (drop 2 bs) else Ok (take (little_number 2 bs) (drop 2 bs), drop (little_number 2 bs) (drop 2 bs))) short)

pub framed_part : (bs : List ℕ) → IsPart bs → framed_at bs ≡ Err (Missing, bs)
unfolding framed_at
framed_part bs h = ap (λ r. then_caused (caused Missing r) (λ body after. before_caused after (caused Broken (body_at body)))) (counted_part bs h)

-- ---- entries

entries_back : (j : List Entry) (part : List ℕ) (n : ℕ) → are_recordable j ≡ true → IsPart part → length j < n
    → entries_in n (entries_bytes j ++ part) ≡ record { entries = j; lack = Missing; left = part }
entries_back j part zero h p few = absurd (omega (arith, few))
entries_back [] part (suc n) h p few = ap (λ r. entry_and r (entries_in n)) (framed_part part p)
entries_back (e ∷ es) part (suc n) h p few =
    let k = and_parts (is_recordable e) (are_recordable es) h in
    ap (λ bs. entry_and (framed_at bs) (entries_in n)) (append_assoc (entry_bytes e) (entries_bytes es) part)
    ∙ ap (λ r. entry_and r (entries_in n)) (framed_back e (entries_bytes es ++ part) k.0)
    ∙ ap (with_entry e) (entries_back es part n k.1 p (omega (arith, few)))

entries_take_bytes : (j : List Entry) → length j ≤ length (entries_bytes j)
entries_take_bytes [] = omega arith
entries_take_bytes (e ∷ es) = let more = entries_take_bytes es in let l = length-append (body_bytes e) (entries_bytes es) in omega (arith, more, l)

entries_of-back : (j : List Entry) (part : List ℕ) → are_recordable j ≡ true → IsPart part → entries_of (entries_bytes j ++ part) ≡ record { entries = j; lack = Missing; left = part }
entries_of-back j part h p =
    let l = length-append (entries_bytes j) part in
    entries_back j part (suc (length (entries_bytes j ++ part))) h p (omega (arith, l, entries_take_bytes j))

-- ---- records

place_behind : (xs ys : List ℕ) → place_in (xs ++ ys) ys ≡ length xs
place_behind xs ys = let l = length-append xs ys in omega (arith, l)

-- a record, and less than a whole entry behind it
pub record_back : (head : Head) (j : List Entry) (part : List ℕ) → is_recordable_head head ≡ true → are_recordable j ≡ true → IsPart part
    → journal_of_record (record_bytes head j ++ part) ≡ record { head = Some head; entries = j; end = Unfinished (length (record_bytes head j)) }
unfolding journal_of_record
record_back head j part h k p =
    let whole : List ℕ = record_bytes head j ++ part in
    let joined = append_assoc (head_bytes head) (entries_bytes j) part in
    ap (λ bs. recorded whole (head_at bs)) joined
    ∙ ap (recorded whole) (head_back head (entries_bytes j ++ part) h)
    ∙ ap (recorded_entries whole head) (entries_of-back j part k p)
    ∙ ap (λ n. record { head = Some head; entries = j; end = Unfinished n }) (place_behind (record_bytes head j) part)

-- ---- no record begins another one of as many entries

abbrev value_or : {A : Type 0} → A → Caused Lack A → A
value_or other (Ok v) = v.0
value_or other (Err e) = other

abbrev left_of : {A : Type 0} → Caused Lack A → List ℕ
left_of (Ok v) = v.1
left_of (Err e) = []

ok_parts : {A : Type 0} (x y : A) (xs ys : List ℕ) (r : Caused Lack A) → r ≡ Ok (x, xs) → r ≡ Ok (y, ys) → (x ≡ y) × (xs ≡ ys)
ok_parts x y xs ys r e f = (ap (value_or x) (sym e ∙ f), ap left_of (sym e ∙ f))

same_entries : (j i : List Entry) (x : List ℕ) → are_recordable j ≡ true → are_recordable i ≡ true → length j ≡ length i → entries_bytes j ++ x ≡ entries_bytes i → (j ≡ i) × (x ≡ [])
same_entries [] [] x h k n e = (refl, e)
same_entries [] (f ∷ fs) x h k n e = absurd (omega (arith, n))
same_entries (d ∷ ds) [] x h k n e = absurd (omega (arith, n))
same_entries (d ∷ ds) (f ∷ fs) x h k n e =
    let a = and_parts (is_recordable d) (are_recordable ds) h in
    let b = and_parts (is_recordable f) (are_recordable fs) k in
    let parts = ok_parts d f (entries_bytes ds ++ x) (entries_bytes fs) (framed_at (entries_bytes (f ∷ fs)))
    (ap framed_at (sym e ∙ append_assoc (entry_bytes d) (entries_bytes ds) x) ∙ framed_back d (entries_bytes ds ++ x) a.0) (framed_back f (entries_bytes fs) b.0) in
    let more = same_entries ds fs x a.1 b.1 (omega (arith, n)) parts.1 in
    (ap (λ e. e ∷ ds) parts.0 ∙ ap (λ es. f ∷ es) more.0, more.1)

pub no_prefix : (head other : Head) (j i : List Entry) (x : List ℕ) → is_recordable_head head ≡ true → is_recordable_head other ≡ true → are_recordable j ≡ true → are_recordable i ≡ true
    → length j ≡ length i → record_bytes head j ++ x ≡ record_bytes other i → (head ≡ other) × (j ≡ i) × (x ≡ [])
no_prefix head other j i x h k l m n e =
    let parts = ok_parts head other (entries_bytes j ++ x) (entries_bytes i) (head_at (record_bytes other i))
    (ap head_at (sym e ∙ append_assoc (head_bytes head) (entries_bytes j) x) ∙ head_back head (entries_bytes j ++ x) h) (head_back other (entries_bytes i) k) in
    let more = same_entries j i x l m n parts.1 in
    (parts.0, more.0, more.1)

-- ---- fronts

-- of two fronts of one list the shorter begins the longer
front_of : (xs ys fs rest : List ℕ) → xs ++ ys ≡ fs ++ rest → length xs ≤ length fs → (more : List ℕ) × (fs ≡ xs ++ more) × (ys ≡ more ++ rest)
front_of [] ys fs rest e h = (fs, refl, e)
front_of (x ∷ xs) ys [] rest e h = absurd (omega (arith, h))
front_of (x ∷ xs) ys (f ∷ fs) rest e h =
    let more = front_of xs ys fs rest (cc e) (omega (arith, h)) in
    let first : f ≡ x = cc e in
    (more.0, ap (λ y. y ∷ fs) first ∙ ap (λ zs. x ∷ zs) more.1, more.2)

-- less than an entry's bytes
part_of_entry : (n : ℕ) (body f more : List ℕ) → n ≡ length body → nat_lt n 65536 ≡ true → little_bytes 2 n ++ body ≡ f ++ more → length f < 2 + n → IsPart f
part_of_entry n body [] more l s e h = inl (omega arith)
part_of_entry n body (a ∷ []) more l s e h = inl (omega arith)
part_of_entry n body (a ∷ b ∷ f) more l s e h =
    let low : a ≡ n % 256 = cc e in
    let high : b ≡ n / 256 % 256 = cc e in
    let small : n < 65536 = grind (arith, nat_tests, s) in
    inr (omega (arith, low, high, small, h))

-- no more of these entries than k are whole in as many bytes as f
abbrev IsMost : List Entry → List ℕ → ℕ → Type 0
IsMost j f k = (i : ℕ) → i ≤ length j → length (entries_bytes (take i j)) ≤ length f → i ≤ k

cut : (j : List Entry) (f rest : List ℕ) → are_recordable j ≡ true → entries_bytes j ≡ f ++ rest → (k : ℕ) × (part : List ℕ) × (f ≡ entries_bytes (take k j) ++ part) × IsPart part × IsMost j f k
cut [] f rest h e = (0, f, refl, inl (empty f rest e), λ i few fits. few)
  where
    empty : (f rest : List ℕ) → [] ≡ f ++ rest → length f < 2
    empty [] rest e = omega arith
    empty (b ∷ bs) rest e = absurd (cc e)
cut (d ∷ ds) f rest h e = by (cut ds) (nat_lt (length f) (length (entry_bytes d))) refl
  where
    k : (is_recordable d ≡ true) × (are_recordable ds ≡ true)
    k = and_parts (is_recordable d) (are_recordable ds) h

    first_most : length f < length (entry_bytes d) → IsMost (d ∷ ds) f 0
    first_most short zero few fits = omega arith
    first_most short (suc i) few fits = let l = length-append (entry_bytes d) (entries_bytes (take i ds)) in absurd (omega (arith, l, short, fits))

    later_most : (m : ℕ) (more : List ℕ) → f ≡ entry_bytes d ++ more → IsMost ds more m → IsMost (d ∷ ds) f (suc m)
    later_most m more w most zero few fits = omega arith
    later_most m more w most (suc i) few fits =
        let l = length-append (entry_bytes d) (entries_bytes (take i ds)) in
        let n = ap length w ∙ length-append (entry_bytes d) more in
        let rest_fits : length (entries_bytes (take i ds)) ≤ length more = omega (arith, l, n, fits) in
        let below = most i (omega (arith, few)) rest_fits in
        omega (arith, below)

    by : ((f rest : List ℕ) → are_recordable ds ≡ true → entries_bytes ds ≡ f ++ rest → (k : ℕ) × (part : List ℕ) × (f ≡ entries_bytes (take k ds) ++ part) × IsPart part × IsMost ds f k)
        → (b : Bool) → nat_lt (length f) (length (entry_bytes d)) ≡ b → (k : ℕ) × (part : List ℕ) × (f ≡ entries_bytes (take k (d ∷ ds)) ++ part) × IsPart part × IsMost (d ∷ ds) f k
    by others true t =
        let short : length f < length (entry_bytes d) = grind (arith, nat_tests, t) in
        let more = front_of f rest (entry_bytes d) (entries_bytes ds) (sym e) (omega (arith, short)) in
        (0, f, refl, part_of_entry (length (body_bytes d)) (body_bytes d) f more.0 refl (and_parts _ _ k.0).1 more.1 (omega (arith, short)), first_most short)
    by others false t =
        let long : length (entry_bytes d) ≤ length f = grind (arith, nat_tests, t) in
        let more = front_of (entry_bytes d) (entries_bytes ds) f rest e long in
        let later = others more.0 rest k.1 more.2 in
        (suc later.0, later.1, more.1 ∙ ap (λ bs. entry_bytes d ++ bs) later.2 ∙ sym (append_assoc (entry_bytes d) (entries_bytes (take later.0 ds)) later.1), later.3, later_most later.0 more.0 more.1 later.4)

-- a front of a record with its whole head
pub front_stands : (head : Head) (j : List Entry) (front rest : List ℕ) → are_recordable j ≡ true → record_bytes head j ≡ front ++ rest → length (head_bytes head) ≤ length front
    → (k : ℕ) × StandsFor front head (take k j) × ((i : ℕ) → i ≤ length j → length (record_bytes head (take i j)) ≤ length front → i ≤ k)
front_stands head j front rest h e long =
    let behind = front_of (head_bytes head) (entries_bytes j) front rest e long in
    let parts = cut j behind.0 rest h behind.2 in (
      parts.0,
      record {
        part = parts.1;
        whole = behind.1 ∙ ap (λ bs. head_bytes head ++ bs) parts.2 ∙ sym (append_assoc (head_bytes head) (entries_bytes (take parts.0 j)) parts.1);
        partial = parts.3;
      },
      λ i few fits.
          let l = length-append (head_bytes head) (entries_bytes (take i j)) in
          let n = ap length behind.1 ∙ length-append (head_bytes head) behind.0 in
          let rest_fits : length (entries_bytes (take i j)) ≤ length behind.0 = omega (arith, l, n, fits) in
          parts.4 i few rest_fits,
    )

-- ---- what bytes stand for

pub stands_back : (bytes : List ℕ) (head : Head) (j : List Entry) → is_recordable_head head ≡ true → are_recordable j ≡ true → StandsFor bytes head j
    → journal_of_record bytes ≡ record { head = Some head; entries = j; end = Unfinished (length (record_bytes head j)) }
stands_back bytes head j h k s = ap journal_of_record s.whole ∙ record_back head j s.part h k s.partial

some_parts : (x y : Head) → Some x ≡ Some y → x ≡ y
some_parts x y e = cc e

pub stands_for_one : (bytes : List ℕ) (head other : Head) (j i : List Entry) → is_recordable_head head ≡ true → are_recordable j ≡ true → is_recordable_head other ≡ true → are_recordable i ≡ true
    → StandsFor bytes head j → StandsFor bytes other i → (head ≡ other) × (j ≡ i)
stands_for_one bytes head other j i h k l m s t =
    let same = sym (stands_back bytes head j h k s) ∙ stands_back bytes other i l m t in
    (some_parts head other (ap (λ r. r.head) same), ap (λ r. r.entries) same)
