-- What is read of bytes is read of them with more bytes behind too, and a field that breaks its rule is refused for ever.
use Rattle.std.proofs.Common.{◌≡◌, ℕ, zero, suc, ◌<◌, ◌≤◌, Bool, true, false, List, [], ◌∷◌, ◌++◌, length, take, drop, refl, ap, sym, subst, ◌∙◌, arith, Ok, Err, Some, None, append_assoc}
use Rattle.std.specs.Prelude.{nat_lt, if◌then◌else◌}
use Rattle.std.proofs.lemmas.Bool.Decides.{nat_tests}
use Rattle.std.proofs.lemmas.List.{length-append, length-drop, take-append-le, drop-append-le}
use Rattle.byteorder.specs.Endian.{little_number}
use Rattle.wire_num.specs.Field.{Read, then_read, map_read, bytes_at, place_in}
use Rattle.wire_num.specs.FieldValue.{is_at_most, as_one_field}
use Rattle.wire_num.specs.Number.{little_value, big_value}
use Rattle.wire_num.specs.Caused.{Caused, then_caused, map_caused, before_caused, caused}
use Rattle.wire_num.proofs.Numbers.{little_at_is}
use Rattle.wire_num.proofs.Bytes.{bytes_at_is}
use Rattle.session_rules.specs.declared.entry.Entry.{Entry}
use Rattle.session_rules.specs.Journal.{Head, Row}
use Rattle.script_rules.specs.Script.{row_limit}
use Rattle.record_rules.specs.Reading.{Lack, byte_at, short_at, last_role, role_numbered, tested, tested_at, counted_at, framed_at, body_at, is_record_mark, is_width, is_height, is_name_length, is_next_name, row_at, rows_at, head_at}
use Rattle.record_rules.specs.Reading.Lack.{Missing, Broken}
use Rattle.record_rules.specs.Records.{Entries, entry_and, with_entry, entries_in, entries_of, end_by, recorded, recorded_entries, journal_of_record, BeginsWith}
use Rattle.record_rules.specs.Records.End.{Faulty}

-- ---- what an answer holds

abbrev read_or : {A : Type 0} → A × List ℕ → Read A → A × List ℕ
read_or other (Ok v) = v
read_or other (Err left) = other

abbrev Gives : {A : Type 0} → Read A → A → List ℕ → Type 0
Gives r v rest = r ≡ Ok (v, rest)

read_value : {A : Type 0} (u : A × List ℕ) (v : A) (rest : List ℕ) → Gives (Ok u) v rest → u.0 ≡ v
read_value u v rest e = ap (λ r. (read_or u r).0) e

read_left : {A : Type 0} (u : A × List ℕ) (v : A) (rest : List ℕ) → Gives (Ok u) v rest → u.1 ≡ rest
read_left u v rest e = ap (λ r. (read_or u r).1) e

abbrev looked_or : {A : Type 0} → A × List ℕ → Caused Lack A → A × List ℕ
looked_or other (Ok v) = v
looked_or other (Err e) = other

abbrev lack_or : {A : Type 0} → Lack × List ℕ → Caused Lack A → Lack × List ℕ
lack_or other (Ok v) = other
lack_or other (Err e) = e

abbrev Looks : {A : Type 0} → Caused Lack A → A → List ℕ → Type 0
Looks q v rest = q ≡ Ok (v, rest)

abbrev Lacks : {A : Type 0} → Caused Lack A → Lack → List ℕ → Type 0
Lacks q l left = q ≡ Err (l, left)

looked_value : {A : Type 0} (u : A × List ℕ) (v : A) (rest : List ℕ) → Looks (Ok u) v rest → u.0 ≡ v
looked_value u v rest e = ap (λ q. (looked_or u q).0) e

looked_left : {A : Type 0} (u : A × List ℕ) (v : A) (rest : List ℕ) → Looks (Ok u) v rest → u.1 ≡ rest
looked_left u v rest e = ap (λ q. (looked_or u q).1) e

lack_is : {A : Type 0} (e : Lack × List ℕ) (l : Lack) (left : List ℕ) → Lacks {A = A} (Err e) l left → e ≡ (l, left)
lack_is e l left h = ap (lack_or e) h

-- ---- fields

abbrev ReadsOn : {A : Type 0} → (List ℕ → Read A) → Type 0
ReadsOn {A} read = (bs more : List ℕ) (v : A) (rest : List ℕ) → Gives (read bs) v rest → Gives (read (bs ++ more)) v (rest ++ more)

abbrev cut_by : ℕ → List ℕ → Bool → Read (List ℕ)
cut_by n bs b = if b then Err bs else Ok (take n bs, drop n bs)

bytes_on : (n : ℕ) → ReadsOn (bytes_at n)
bytes_on n bs more v rest e = by (nat_lt (length bs) n) refl (sym (bytes_at_is n bs) ∙ e)
  where
    by : (b : Bool) → nat_lt (length bs) n ≡ b → Gives (cut_by n bs b) v rest → Gives (bytes_at n (bs ++ more)) v (rest ++ more)
    by true t h = absurd (cc h)
    by false t h =
        let enough : n ≤ length bs = grind (arith, nat_tests, t) in
        let l = length-append bs more in
        let long : nat_lt (length (bs ++ more)) n ≡ false = grind (arith, nat_tests, enough, l) in
        let first : take n bs ≡ v = read_value (take n bs, drop n bs) v rest h in
        let behind : drop n bs ≡ rest = read_left (take n bs, drop n bs) v rest h in
        bytes_at_is n (bs ++ more)
        ∙ ap (cut_by n (bs ++ more)) long
        ∙ ap (λ xs. Ok (xs, drop n (bs ++ more))) (take-append-le n bs more enough ∙ first)
        ∙ ap (λ xs. Ok (v, xs)) (drop-append-le n bs more enough ∙ ap (λ xs. xs ++ more) behind)

map_on : {A B : Type 0} (f : A → B) (read : List ℕ → Read A) → ReadsOn read → ReadsOn (λ bs. map_read f (read bs))
map_on {A = A} {B = B} f read on bs more v rest e = by (read bs) refl e
  where
    by : (r : Read A) → read bs ≡ r → Gives (map_read f r) v rest → Gives (map_read f (read (bs ++ more))) v (rest ++ more)
    by (Ok u) is h =
        let value : f u.0 ≡ v = read_value (f u.0, u.1) v rest h in
        let behind : u.1 ≡ rest = read_left (f u.0, u.1) v rest h in
        ap (map_read f) (on bs more u.0 u.1 is) ∙ ap (λ x. Ok (x, u.1 ++ more)) value ∙ ap (λ xs. Ok (v, xs ++ more)) behind
    by (Err left) is h = absurd (cc h)

byte_on : ReadsOn byte_at
byte_on = map_on big_value (bytes_at 1) (bytes_on 1)

short_on : ReadsOn short_at
short_on = map_on little_value (bytes_at 2) (bytes_on 2)

-- ---- what is looked at once it is there

pub record Prompt {A : Type 0} (read : List ℕ → Caused Lack A) : Type 0 where
  pub ok : (bs more : List ℕ) (v : A) (rest : List ℕ) → Looks (read bs) v rest → Looks (read (bs ++ more)) v (rest ++ more)
  pub broken : (bs more left : List ℕ) → Lacks (read bs) Broken left → Lacks (read (bs ++ more)) Broken (left ++ more)

abbrev tested_by : {A : Type 0} → List ℕ → A × List ℕ → Bool → Caused Lack A
tested_by bs u t = if t then Ok u else Err (Broken, bs)

tested_prompt : {A : Type 0} (test : A → Bool) (read : List ℕ → Read A) → ReadsOn read → Prompt (tested_at test read)
tested_prompt {A = A} test read on = record {
  ok = λ bs more v rest e. ok_by bs more v rest (read bs) refl e;
  broken = λ bs more left e. broken_by bs more left (read bs) refl e;
}
  where
    ok_test : (bs more : List ℕ) (v : A) (rest : List ℕ) (u : A × List ℕ) (t : Bool) → test u.0 ≡ t → read bs ≡ Ok u → Looks (tested_by bs u t) v rest
        → Looks (tested_at test read (bs ++ more)) v (rest ++ more)
    ok_test bs more v rest u true t is h =
        ap (tested test (bs ++ more)) (on bs more u.0 u.1 is) ∙ ap (tested_by (bs ++ more) (u.0, u.1 ++ more)) t
        ∙ ap (λ x. Ok (x, u.1 ++ more)) (looked_value u v rest h) ∙ ap (λ xs. Ok (v, xs ++ more)) (looked_left u v rest h)
    ok_test bs more v rest u false t is h = absurd (cc h)

    ok_by : (bs more : List ℕ) (v : A) (rest : List ℕ) (r : Read A) → read bs ≡ r → Looks (tested test bs r) v rest → Looks (tested_at test read (bs ++ more)) v (rest ++ more)
    ok_by bs more v rest (Ok u) is h = ok_test bs more v rest u (test u.0) refl is h
    ok_by bs more v rest (Err left) is h = absurd (cc h)

    broken_test : (bs more left : List ℕ) (u : A × List ℕ) (t : Bool) → test u.0 ≡ t → read bs ≡ Ok u → Lacks (tested_by bs u t) Broken left
        → Lacks (tested_at test read (bs ++ more)) Broken (left ++ more)
    broken_test bs more left u true t is h = absurd (cc h)
    broken_test bs more left u false t is h =
        ap (tested test (bs ++ more)) (on bs more u.0 u.1 is) ∙ ap (tested_by (bs ++ more) (u.0, u.1 ++ more)) t
        ∙ ap (λ p. Err (Broken, p.1 ++ more)) (lack_is (Broken, bs) Broken left h)

    broken_by : (bs more left : List ℕ) (r : Read A) → read bs ≡ r → Lacks (tested test bs r) Broken left → Lacks (tested_at test read (bs ++ more)) Broken (left ++ more)
    broken_by bs more left (Ok u) is h = broken_test bs more left u (test u.0) refl is h
    broken_by bs more left (Err there) is h = absurd (cc (ap (λ q. (lack_or (Missing, bs) q).0) h))

then_prompt : {A B : Type 0} (r : List ℕ → Caused Lack A) (f : A → List ℕ → Caused Lack B) → Prompt r → ((v : A) → Prompt (f v)) → Prompt (λ bs. then_caused (r bs) f)
then_prompt {A = A} {B = B} r f first others = record {
  ok = λ bs more v rest e. ok_by bs more v rest (r bs) refl e;
  broken = λ bs more left e. broken_by bs more left (r bs) refl e;
}
  where
    ok_by : (bs more : List ℕ) (v : B) (rest : List ℕ) (q : Caused Lack A) → r bs ≡ q → Looks (then_caused q f) v rest → Looks (then_caused (r (bs ++ more)) f) v (rest ++ more)
    ok_by bs more v rest (Ok u) is h = ap (λ q. then_caused q f) (first.ok bs more u.0 u.1 is) ∙ (others u.0).ok u.1 more v rest h
    ok_by bs more v rest (Err e) is h = absurd (cc h)

    broken_by : (bs more left : List ℕ) (q : Caused Lack A) → r bs ≡ q → Lacks (then_caused q f) Broken left → Lacks (then_caused (r (bs ++ more)) f) Broken (left ++ more)
    broken_by bs more left (Ok u) is h = ap (λ q. then_caused q f) (first.ok bs more u.0 u.1 is) ∙ (others u.0).broken u.1 more left h
    broken_by bs more left (Err e) is h = ap (λ q. then_caused q f) (first.broken bs more left (is ∙ ap Err (lack_is {A = B} e Broken left h)))

map_prompt : {A B : Type 0} (g : A → B) (r : List ℕ → Caused Lack A) → Prompt r → Prompt (λ bs. map_caused g (r bs))
map_prompt {A = A} {B = B} g r first = record {
  ok = λ bs more v rest e. ok_by bs more v rest (r bs) refl e;
  broken = λ bs more left e. broken_by bs more left (r bs) refl e;
}
  where
    ok_by : (bs more : List ℕ) (v : B) (rest : List ℕ) (q : Caused Lack A) → r bs ≡ q → Looks (map_caused g q) v rest → Looks (map_caused g (r (bs ++ more))) v (rest ++ more)
    ok_by bs more v rest (Ok u) is h =
        ap (map_caused g) (first.ok bs more u.0 u.1 is) ∙ ap (λ x. Ok (x, u.1 ++ more)) (looked_value (g u.0, u.1) v rest h) ∙ ap (λ xs. Ok (v, xs ++ more)) (looked_left (g u.0, u.1) v rest h)
    ok_by bs more v rest (Err e) is h = absurd (cc h)

    broken_by : (bs more left : List ℕ) (q : Caused Lack A) → r bs ≡ q → Lacks (map_caused g q) Broken left → Lacks (map_caused g (r (bs ++ more))) Broken (left ++ more)
    broken_by bs more left (Ok u) is h = absurd (cc h)
    broken_by bs more left (Err e) is h = ap (map_caused g) (first.broken bs more left (is ∙ ap Err (lack_is {A = B} e Broken left h)))

-- ---- the head

row_prompt : (earlier : List Row) → Prompt (row_at earlier)
unfolding row_at
row_prompt earlier =
    then_prompt (tested_at (is_at_most last_role) byte_at)
    (λ number more. then_caused (tested_at is_name_length byte_at more) (λ n more. map_caused (λ name. record { name = name; role = role_numbered number }) (tested_at (is_next_name earlier) (bytes_at n) more)))
    (tested_prompt (is_at_most last_role) byte_at byte_on)
    (λ number. then_prompt (tested_at is_name_length byte_at)
    (λ n more. map_caused (λ name. record { name = name; role = role_numbered number }) (tested_at (is_next_name earlier) (bytes_at n) more))
    (tested_prompt is_name_length byte_at byte_on)
    (λ n. map_prompt (λ (name : List ℕ). record { name = name; role = role_numbered number }) (tested_at (is_next_name earlier) (bytes_at n)) (tested_prompt (is_next_name earlier) (bytes_at n) (bytes_on n))))

rows_prompt : (n : ℕ) (earlier : List Row) → Prompt (rows_at n earlier)
rows_prompt zero earlier = record {
  ok = λ bs more v rest e. ap (λ x. Ok (x, bs ++ more)) (looked_value (earlier, bs) v rest e) ∙ ap (λ xs. Ok (v, xs ++ more)) (looked_left (earlier, bs) v rest e);
  broken = λ bs more left e. absurd (cc e);
}
rows_prompt (suc n) earlier =
    then_prompt (row_at earlier) (λ row more. rows_at n (earlier ++ row ∷ []) more) (row_prompt earlier) (λ row. rows_prompt n (earlier ++ row ∷ []))

pub head_prompt : Prompt head_at
unfolding head_at
head_prompt =
    then_prompt (tested_at is_record_mark (bytes_at 6))
    (λ _ more. then_caused (tested_at is_width short_at more) (λ w more. then_caused (tested_at is_height short_at more) (λ h more. then_caused (tested_at (is_at_most row_limit) byte_at more) (λ n more.
    map_caused (λ rows. record { size = record { w = w; h = h }; rows = rows }) (rows_at n [] more)))))
    (tested_prompt is_record_mark (bytes_at 6) (bytes_on 6))
    (λ _. then_prompt (tested_at is_width short_at)
    (λ w more. then_caused (tested_at is_height short_at more) (λ h more. then_caused (tested_at (is_at_most row_limit) byte_at more) (λ n more.
    map_caused (λ rows. record { size = record { w = w; h = h }; rows = rows }) (rows_at n [] more))))
    (tested_prompt is_width short_at short_on)
    (λ w. then_prompt (tested_at is_height short_at)
    (λ h more. then_caused (tested_at (is_at_most row_limit) byte_at more) (λ n more. map_caused (λ rows. record { size = record { w = w; h = h }; rows = rows }) (rows_at n [] more)))
    (tested_prompt is_height short_at short_on)
    (λ h. then_prompt (tested_at (is_at_most row_limit) byte_at)
    (λ n more. map_caused (λ rows. record { size = record { w = w; h = h }; rows = rows }) (rows_at n [] more))
    (tested_prompt (is_at_most row_limit) byte_at byte_on)
    (λ n. map_prompt (λ (rows : List Row). record { size = record { w = w; h = h }; rows = rows }) (rows_at n []) (rows_prompt n [])))))

-- ---- an entry

abbrev pub counted_by : List ℕ → Bool → Bool → Read (List ℕ)
counted_by bs true few = Err bs
counted_by bs false true = Err bs
counted_by bs false false = Ok (take (little_number 2 bs) (drop 2 bs), drop (little_number 2 bs) (drop 2 bs))

pub counted_is : (bs : List ℕ) → counted_at bs ≡ counted_by bs (nat_lt (length bs) 2) (nat_lt (length (drop 2 bs)) (little_number 2 bs))
unfolding counted_at
counted_is bs = ap (λ r. as_one_field bs (then_read r (λ n more. bytes_at n more))) (little_at_is 2 bs) ∙ by (nat_lt (length bs) 2)
  where
    behind : (b : Bool) → as_one_field bs (if b then Err (drop 2 bs) else Ok (take (little_number 2 bs) (drop 2 bs), drop (little_number 2 bs) (drop 2 bs))) ≡ counted_by bs false b
    behind true = refl
    behind false = refl

    by : (b : Bool) → as_one_field bs (then_read (if b then Err bs else Ok (little_number 2 bs, drop 2 bs)) (λ n more. bytes_at n more)) ≡ counted_by bs b (nat_lt (length (drop 2 bs)) (little_number 2 bs))
    by true = refl
    by false = ap (as_one_field bs) (bytes_at_is (little_number 2 bs) (drop 2 bs)) ∙ behind (nat_lt (length (drop 2 bs)) (little_number 2 bs))

-- the bytes that a length counts are shorter than the whole
counted_shorter : (bs body rest : List ℕ) → counted_at bs ≡ Ok (body, rest) → length rest < length bs
counted_shorter bs body rest e = by (nat_lt (length bs) 2) (nat_lt (length (drop 2 bs)) (little_number 2 bs)) refl (sym (counted_is bs) ∙ e)
  where
    by : (a b : Bool) → nat_lt (length bs) 2 ≡ a → Gives (counted_by bs a b) body rest → length rest < length bs
    by true b t h = absurd (cc h)
    by false true t h = absurd (cc h)
    by false false t h =
        let behind = read_left (take (little_number 2 bs) (drop 2 bs), drop (little_number 2 bs) (drop 2 bs)) body rest h in
        let some : 2 ≤ length bs = grind (arith, nat_tests, t) in
        let l = length-drop 2 bs in
        let m = length-drop (little_number 2 bs) (drop 2 bs) in
        let n = ap length behind in
        omega (arith, some, l, m, n)

-- what isn't counted is the whole
counted_missing : (bs left : List ℕ) → counted_at bs ≡ Err left → left ≡ bs
counted_missing bs left e = by (nat_lt (length bs) 2) (nat_lt (length (drop 2 bs)) (little_number 2 bs)) (sym (counted_is bs) ∙ e)
  where
    by : (a b : Bool) → counted_by bs a b ≡ Err left → left ≡ bs
    by true b h = cc h
    by false true h = cc h
    by false false h = absurd (cc h)

one_on : {A : Type 0} (read : List ℕ → Read A) → ReadsOn read → ReadsOn (λ bs. as_one_field bs (read bs))
one_on {A = A} read on bs more v rest e = by (read bs) refl e
  where
    by : (r : Read A) → read bs ≡ r → Gives (as_one_field bs r) v rest → Gives (as_one_field (bs ++ more) (read (bs ++ more))) v (rest ++ more)
    by (Ok u) is h = ap (as_one_field (bs ++ more)) (on bs more v rest (is ∙ h))
    by (Err left) is h = absurd (cc h)

then_on : {A B : Type 0} (read : List ℕ → Read A) (f : A → List ℕ → Read B) → ReadsOn read → ((v : A) → ReadsOn (f v)) → ReadsOn (λ bs. then_read (read bs) f)
then_on {A = A} {B = B} read f on others bs more v rest e = by (read bs) refl e
  where
    by : (r : Read A) → read bs ≡ r → Gives (then_read r f) v rest → Gives (then_read (read (bs ++ more)) f) v (rest ++ more)
    by (Ok u) is h = ap (λ q. then_read q f) (on bs more u.0 u.1 is) ∙ others u.0 u.1 more v rest h
    by (Err left) is h = absurd (cc h)

counted_on : ReadsOn counted_at
unfolding counted_at
counted_on = one_on (λ bs. then_read (short_at bs) (λ n more. bytes_at n more)) (then_on short_at (λ n more. bytes_at n more) short_on bytes_on)

abbrev pub framed : Read (List ℕ) → Caused Lack Entry
framed r = then_caused (caused Missing r) (λ body after. before_caused after (caused Broken (body_at body)))

pub framed_is : (bs : List ℕ) → framed_at bs ≡ framed (counted_at bs)
unfolding framed_at
framed_is bs = refl

pub framed_prompt : Prompt framed_at
framed_prompt = record {
  ok = λ bs more v rest e. ok_by bs more v rest (counted_at bs) refl (sym (framed_is bs) ∙ e);
  broken = λ bs more left e. broken_by bs more left (counted_at bs) refl (sym (framed_is bs) ∙ e);
}
  where
    ok_body : (after more : List ℕ) (v : Entry) (rest : List ℕ) (r : Read Entry) → Looks (before_caused after (caused Broken r)) v rest → Looks (before_caused (after ++ more) (caused Broken r)) v (rest ++ more)
    ok_body after more v rest (Ok u) h = ap (λ x. Ok (x, after ++ more)) (looked_value (u.0, after) v rest h) ∙ ap (λ xs. Ok (v, xs ++ more)) (looked_left (u.0, after) v rest h)
    ok_body after more v rest (Err left) h = absurd (cc h)

    ok_by : (bs more : List ℕ) (v : Entry) (rest : List ℕ) (r : Read (List ℕ)) → counted_at bs ≡ r → Looks (framed r) v rest → Looks (framed_at (bs ++ more)) v (rest ++ more)
    ok_by bs more v rest (Ok u) is h = framed_is (bs ++ more) ∙ ap framed (counted_on bs more u.0 u.1 is) ∙ ok_body u.1 more v rest (body_at u.0) h
    ok_by bs more v rest (Err left) is h = absurd (cc h)

    broken_body : (after more left : List ℕ) (r : Read Entry) → Lacks (before_caused after (caused Broken r)) Broken left → Lacks (before_caused (after ++ more) (caused Broken r)) Broken (left ++ more)
    broken_body after more left (Ok u) h = absurd (cc h)
    broken_body after more left (Err there) h =
        ap (λ xs. Err (Broken, xs)) (sym (append_assoc there after more) ∙ ap (λ p. p.1 ++ more) (lack_is {A = Entry} (Broken, there ++ after) Broken left h))

    broken_by : (bs more left : List ℕ) (r : Read (List ℕ)) → counted_at bs ≡ r → Lacks (framed r) Broken left → Lacks (framed_at (bs ++ more)) Broken (left ++ more)
    broken_by bs more left (Ok u) is h = framed_is (bs ++ more) ∙ ap framed (counted_on bs more u.0 u.1 is) ∙ broken_body u.1 more left (body_at u.0) h
    broken_by bs more left (Err there) is h = absurd (cc (ap (λ p. p.0) (lack_is {A = Entry} (Missing, there) Broken left h)))

-- a whole entry is no empty text
pub framed_shorter : (bs : List ℕ) (e : Entry) (rest : List ℕ) → framed_at bs ≡ Ok (e, rest) → length rest < length bs
framed_shorter bs e rest is = by (counted_at bs) refl (sym (framed_is bs) ∙ is)
  where
    body : (after : List ℕ) (r : Read Entry) → Looks (before_caused after (caused Broken r)) e rest → after ≡ rest
    body after (Ok u) h = looked_left (u.0, after) e rest h
    body after (Err left) h = absurd (cc h)

    by : (r : Read (List ℕ)) → counted_at bs ≡ r → Looks (framed r) e rest → length rest < length bs
    by (Ok u) c h = let same = ap length (body u.1 (body_at u.0) h) in let less = counted_shorter bs u.0 u.1 c in omega (arith, same, less)
    by (Err left) c h = absurd (cc h)

-- of an entry that isn't all there all is left
pub framed_missing : (bs left : List ℕ) → framed_at bs ≡ Err (Missing, left) → left ≡ bs
framed_missing bs left is = by (counted_at bs) refl (sym (framed_is bs) ∙ is)
  where
    body : (after : List ℕ) (r : Read Entry) → Lacks (before_caused after (caused Broken r)) Missing left → left ≡ bs
    body after (Ok u) h = absurd (cc h)
    body after (Err there) h = absurd (cc (ap (λ p. p.0) (lack_is {A = Entry} (Broken, there ++ after) Missing left h)))

    by : (r : Read (List ℕ)) → counted_at bs ≡ r → Lacks (framed r) Missing left → left ≡ bs
    by (Ok u) c h = body u.1 (body_at u.0) h
    by (Err there) c h = counted_missing bs left (c ∙ ap (λ p. Err p.1) (lack_is {A = Entry} (Missing, there) Missing left h))

-- ---- entries

-- the number of entries that may be read doesn't matter where it is large enough
enough : (n m : ℕ) (bs : List ℕ) → length bs < n → length bs < m → entries_in n bs ≡ entries_in m bs
enough zero m bs h k = absurd (omega (arith, h))
enough (suc n) zero bs h k = absurd (omega (arith, k))
enough (suc n) (suc m) bs h k = by (enough n m) (framed_at bs) refl
  where
    by : ((bs : List ℕ) → length bs < n → length bs < m → entries_in n bs ≡ entries_in m bs) → (r : Caused Lack Entry) → framed_at bs ≡ r → entry_and r (entries_in n) ≡ entry_and r (entries_in m)
    by others (Ok v) is = let less = framed_shorter bs v.0 v.1 is in ap (with_entry v.0) (others v.1 (omega (arith, h, less)) (omega (arith, k, less)))
    by others (Err e) is = refl

-- a whole entry, and those behind it
pub entries_step : (bs : List ℕ) (e : Entry) (rest : List ℕ) → framed_at bs ≡ Ok (e, rest) → entries_of bs ≡ with_entry e (entries_of rest)
entries_step bs e rest is =
    let less = framed_shorter bs e rest is in
    ap (λ r. entry_and r (entries_in (length bs))) is ∙ ap (with_entry e) (enough (length bs) (suc (length rest)) rest less (omega arith))

-- entries before others
abbrev pub behind : List Entry → Entries → Entries
behind es others = record others { entries = es ++ others.entries }

-- how entries go on with more bytes
abbrev GoesOn : Entries → List ℕ → Entries → Type 0
GoesOn here more there = (here.lack ≡ Broken → there ≡ record { entries = here.entries; lack = Broken; left = here.left ++ more })
    × (here.lack ≡ Missing → there ≡ behind here.entries (entries_of (here.left ++ more)))

go_on : (n : ℕ) (bs more : List ℕ) → length bs < n → GoesOn (entries_in n bs) more (entries_of (bs ++ more))
go_on zero bs more h = absurd (omega (arith, h))
go_on (suc n) bs more h = by (go_on n) (framed_at bs) refl
  where
    later : (e : Entry) (here there : Entries) → GoesOn here more there → GoesOn (with_entry e here) more (with_entry e there)
    later e here there g = (λ l. ap (with_entry e) (g.0 l), λ l. ap (with_entry e) (g.1 l))

    by : ((bs more : List ℕ) → length bs < n → GoesOn (entries_in n bs) more (entries_of (bs ++ more))) → (r : Caused Lack Entry) → framed_at bs ≡ r
        → GoesOn (entry_and r (entries_in n)) more (entries_of (bs ++ more))
    by others (Ok v) is =
        let less = framed_shorter bs v.0 v.1 is in
        subst (λ (there : Entries). GoesOn (with_entry v.0 (entries_in n v.1)) more there) (sym (entries_step (bs ++ more) v.0 (v.1 ++ more) (framed_prompt.ok bs more v.0 v.1 is)))
        (later v.0 (entries_in n v.1) (entries_of (v.1 ++ more)) (others v.1 more (omega (arith, h, less))))
    by others (Err (Missing, left)) is =
        (λ l. absurd (cc l), λ l. ap (λ xs. entries_of (xs ++ more)) (sym (framed_missing bs left is)))
    by others (Err (Broken, left)) is =
        (λ l. ap (λ r. entry_and r (entries_in (length (bs ++ more)))) (framed_prompt.broken bs more left is), λ l. absurd (cc l))

pub entries_go_on : (bs more : List ℕ) → GoesOn (entries_of bs) more (entries_of (bs ++ more))
entries_go_on bs more = go_on (suc (length bs)) bs more (omega arith)

-- ---- records

same_place : (bytes left more : List ℕ) → place_in (bytes ++ more) (left ++ more) ≡ place_in bytes left
same_place bytes left more = let a = length-append bytes more in let b = length-append left more in omega (arith, a, b)

-- a record that is refused is refused for ever
pub refused_for_ever : (bytes more : List ℕ) (at : ℕ) → (journal_of_record bytes).end ≡ Faulty at → journal_of_record (bytes ++ more) ≡ journal_of_record bytes
unfolding journal_of_record
refused_for_ever bytes more at h = by (head_at bytes) refl h
  where
    entries : (head : Head) (rest : List ℕ) (l : Lack) → (entries_of rest).lack ≡ l → end_by l (place_in bytes (entries_of rest).left) ≡ Faulty at
        → recorded_entries (bytes ++ more) head (entries_of (rest ++ more)) ≡ recorded_entries bytes head (entries_of rest)
    entries head rest Missing is k = absurd (cc k)
    entries head rest Broken is k =
        ap (recorded_entries (bytes ++ more) head) ((entries_go_on rest more).0 is)
        ∙ ap (λ n. record { head = Some head; entries = (entries_of rest).entries; end = Faulty n }) (same_place bytes (entries_of rest).left more)
        ∙ ap (λ (l : Lack). record { head = Some head; entries = (entries_of rest).entries; end = end_by l (place_in bytes (entries_of rest).left) }) (sym is)

    by : (r : Caused Lack Head) → head_at bytes ≡ r → (recorded bytes r).end ≡ Faulty at → recorded (bytes ++ more) (head_at (bytes ++ more)) ≡ recorded bytes r
    by (Ok v) is k =
        ap (recorded (bytes ++ more)) (head_prompt.ok bytes more v.0 v.1 is)
        ∙ entries v.0 v.1 (entries_of v.1).lack refl k
    by (Err (Missing, left)) is k = absurd (cc k)
    by (Err (Broken, left)) is k =
        ap (recorded (bytes ++ more)) (head_prompt.broken bytes more left is) ∙ ap (λ n. record { head = None; entries = []; end = Faulty n }) (same_place bytes left more)

begins_broken : (here there : Entries) (more : List ℕ) → there ≡ record { entries = here.entries; lack = Broken; left = here.left ++ more } → BeginsWith here.entries there.entries
begins_broken here there more e = ([], ap (λ r. r.entries) e ∙ sym (append_nil here.entries))
  where
    append_nil : (xs : List Entry) → xs ++ [] ≡ xs
    append_nil [] = refl
    append_nil (x ∷ xs) = ap (λ ys. x ∷ ys) (append_nil xs)

begins_more : (here there : Entries) (others : Entries) → there ≡ behind here.entries others → BeginsWith here.entries there.entries
begins_more here there others e = (others.entries, ap (λ r. r.entries) e)

begins : (bs more : List ℕ) (l : Lack) → (entries_of bs).lack ≡ l → BeginsWith (entries_of bs).entries (entries_of (bs ++ more)).entries
begins bs more Missing is = begins_more (entries_of bs) (entries_of (bs ++ more)) (entries_of ((entries_of bs).left ++ more)) ((entries_go_on bs more).1 is)
begins bs more Broken is = begins_broken (entries_of bs) (entries_of (bs ++ more)) more ((entries_go_on bs more).0 is)

-- a head that is whole stays, and the entries stay
pub records_begin : (bytes more : List ℕ) (head : Head) → (journal_of_record bytes).head ≡ Some head
    → ((journal_of_record (bytes ++ more)).head ≡ Some head) × BeginsWith (journal_of_record bytes).entries (journal_of_record (bytes ++ more)).entries
unfolding journal_of_record
records_begin bytes more head h = by (head_at bytes) refl h
  where
    by : (r : Caused Lack Head) → head_at bytes ≡ r → (recorded bytes r).head ≡ Some head
        → ((recorded (bytes ++ more) (head_at (bytes ++ more))).head ≡ Some head) × BeginsWith (recorded bytes r).entries (recorded (bytes ++ more) (head_at (bytes ++ more))).entries
    by (Ok v) is k =
        subst (λ (q : Caused Lack Head). ((recorded (bytes ++ more) q).head ≡ Some head) × BeginsWith (entries_of v.1).entries (recorded (bytes ++ more) q).entries)
        (sym (head_prompt.ok bytes more v.0 v.1 is)) (k, begins v.1 more (entries_of v.1).lack refl)
    by (Err e) is k = absurd (cc k)
