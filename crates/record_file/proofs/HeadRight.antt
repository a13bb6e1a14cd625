-- A head that is read has a session's size, and rows of an invitation list.
use Rattle.std.proofs.Common.{◌≡◌, ◌≢◌, ℕ, zero, suc, ◌+◌, ◌≤◌, Bool, true, false, List, [], ◌∷◌, ◌++◌, length, refl, ap, sym, ◌∙◌, arith, Ok, Err, Some}
use Rattle.std.specs.Prelude.{All, nat_le, ◌==◌, ◌&&◌, ◌%◌, is_none, if◌then◌else◌}
use Rattle.std.proofs.lemmas.Bool.{and_from, and_parts}
use Rattle.std.proofs.lemmas.Bool.Decides.{nat_tests}
use Rattle.std.proofs.lemmas.List.{length-append}
use Rattle.std.proofs.lemmas.List.Elements.{All-append, All-nil, All-cons}
use Rattle.line_text.specs.Words.{is_same_word}
use Rattle.wire_num.specs.Field.{Read, bytes_at}
use Rattle.wire_num.specs.FieldValue.{is_at_most}
use Rattle.wire_num.specs.Caused.{Caused, then_caused, map_caused}
use Rattle.px_core.specs.Rectangle.{is_session_size}
use Rattle.session_rules.specs.Journal.{Head, Row}
use Rattle.session_rules.specs.Steps.{row_role, is_new_name, are_names_distinct}
use Rattle.session_core.specs.SessionModel.{AreInvited}
use Rattle.script_rules.specs.Script.{is_name, row_limit}
use Rattle.record_rules.specs.Reading.{Lack, byte_at, short_at, last_role, role_numbered, tested, tested_at, is_record_mark, is_width, is_height, is_name_length, is_next_name, row_at, rows_at, head_at}
use Rattle.record_rules.specs.Reading.Lack.{Broken}
use Rattle.record_rules.proofs.HeadsBack.{same_name-≡, same_name-self}

-- ---- what was read

pub record Then {A B : Type 0} (q : Caused Lack A) (f : A → List ℕ → Caused Lack B) (v : B) (rest : List ℕ) : Type 0 where
  pub value : A
  pub more : List ℕ
  pub first : q ≡ Ok (value, more)
  pub later : f value more ≡ Ok (v, rest)

then_ok : {A B : Type 0} (q : Caused Lack A) (f : A → List ℕ → Caused Lack B) (v : B) (rest : List ℕ) → then_caused q f ≡ Ok (v, rest) → Then q f v rest
then_ok (Ok u) f v rest e = record { value = u.0; more = u.1; first = refl; later = e }
then_ok (Err w) f v rest e = absurd (cc e)

pub record Mapped {A B : Type 0} (g : A → B) (q : Caused Lack A) (v : B) (rest : List ℕ) : Type 0 where
  pub value : A
  pub first : q ≡ Ok (value, rest)
  pub is : g value ≡ v

abbrev value_or : {A : Type 0} → A × List ℕ → Caused Lack A → A × List ℕ
value_or other (Ok v) = v
value_or other (Err e) = other

map_ok : {A B : Type 0} (g : A → B) (q : Caused Lack A) (v : B) (rest : List ℕ) → map_caused g q ≡ Ok (v, rest) → Mapped g q v rest
map_ok g (Ok u) v rest e =
    let value : g u.0 ≡ v = ap (λ q. (value_or (g u.0, u.1) q).0) e in
    let left : u.1 ≡ rest = ap (λ q. (value_or (g u.0, u.1) q).1) e in
    record { value = u.0; first = ap (λ xs. Ok (u.0, xs)) left; is = value }
map_ok g (Err w) v rest e = absurd (cc e)

abbrev tested_by : {A : Type 0} → List ℕ → A × List ℕ → Bool → Caused Lack A
tested_by bs u t = if t then Ok u else Err (Broken, bs)

-- a field that was looked at keeps its rule
tested_ok : {A : Type 0} (test : A → Bool) (bs : List ℕ) (r : Read A) (v : A) (rest : List ℕ) → tested test bs r ≡ Ok (v, rest) → test v ≡ true
tested_ok {A = A} test bs (Ok u) v rest e = by (test u.0) refl e
  where
    by : (t : Bool) → test u.0 ≡ t → tested_by bs u t ≡ Ok (v, rest) → test v ≡ true
    by true t k = let same : u.0 ≡ v = ap (λ q. (value_or u q).0) k in ap test (sym same) ∙ t
    by false t k = absurd (cc k)
tested_ok test bs (Err left) v rest e = absurd (cc e)

-- ---- rows

same_word_sym : (a b : List ℕ) → is_same_word a b ≡ false → is_same_word b a ≡ false
same_word_sym a b h = by (is_same_word b a) refl
  where
    by : (t : Bool) → is_same_word b a ≡ t → t ≡ false
    by true e = let same : b ≡ a = same_name-≡ b a e in absurd (cc (h, ap (λ x. is_same_word x b) (sym same), same_name-self b))
    by false e = refl

-- a name that no row has differs from each row's
apart : (name : List ℕ) (row : Row) (rows : List Row) → is_new_name name (row ∷ rows) ≡ true → (is_same_word name row.name ≡ false) × (is_new_name name rows ≡ true)
apart name row rows h = by (is_same_word name row.name) refl h
  where
    by : (t : Bool) → is_same_word name row.name ≡ t → is_none (if t then Some row.role else row_role name rows) ≡ true
        → (is_same_word name row.name ≡ false) × (is_new_name name rows ≡ true)
    by true eq k = absurd (cc k)
    by false eq k = (eq, k)

new_push : (name : List ℕ) (rows : List Row) (row : Row) → is_new_name name rows ≡ true → is_same_word name row.name ≡ false → is_new_name name (rows ++ row ∷ []) ≡ true
new_push name [] row h ne = rw ne refl
new_push name (x ∷ xs) row h ne = by (is_same_word name x.name) h (λ k. new_push name xs row k ne)
  where
    by : (t : Bool) → is_none (if t then Some x.role else row_role name xs) ≡ true → (is_new_name name xs ≡ true → is_new_name name (xs ++ row ∷ []) ≡ true)
        → is_none (if t then Some x.role else row_role name (xs ++ row ∷ [])) ≡ true
    by true k again = absurd (cc k)
    by false k again = again k

distinct_push : (rows : List Row) (row : Row) → are_names_distinct rows ≡ true → is_new_name row.name rows ≡ true → are_names_distinct (rows ++ row ∷ []) ≡ true
distinct_push [] row h new = refl
distinct_push (x ∷ xs) row h new =
    let parts = and_parts (is_new_name x.name xs) (are_names_distinct xs) h in
    let others = apart row.name x xs new in
    and_from _ _ (new_push x.name xs row parts.0 (same_word_sym row.name x.name others.0)) (distinct_push xs row parts.1 others.1)

named : (name : List ℕ) → is_name name ≡ true → name ≢ []
named name h e = let k = ap is_name e in absurd (cc (h, k))

abbrev IsNamed : Row → Type 0
IsNamed row = row.name ≢ []

pub record AreRight (rows : List Row) : Type 0 where
  pub distinct : are_names_distinct rows ≡ true
  pub named : All IsNamed rows

row_right : (earlier : List Row) (bs : List ℕ) (row : Row) (rest : List ℕ) → row_at earlier bs ≡ Ok (row, rest) → is_next_name earlier row.name ≡ true
unfolding row_at
row_right earlier bs row rest e =
    let number = then_ok (tested_at (is_at_most last_role) byte_at bs)
    (λ number more. then_caused (tested_at is_name_length byte_at more) (λ n more. map_caused (λ name. record { name = name; role = role_numbered number }) (tested_at (is_next_name earlier) (bytes_at n) more)))
    row rest e in
    let count = then_ok (tested_at is_name_length byte_at number.more)
    (λ n more. map_caused (λ name. record { name = name; role = role_numbered number.value }) (tested_at (is_next_name earlier) (bytes_at n) more)) row rest number.later in
    let name = map_ok (λ (name : List ℕ). record { name = name; role = role_numbered number.value }) (tested_at (is_next_name earlier) (bytes_at count.value) count.more) row rest count.later in
    ap (λ (r : Row). is_next_name earlier r.name) (sym name.is) ∙ tested_ok (is_next_name earlier) count.more (bytes_at count.value count.more) name.value rest name.first

rows_right : (n : ℕ) (earlier : List Row) (bs : List ℕ) (rows : List Row) (rest : List ℕ) → rows_at n earlier bs ≡ Ok (rows, rest) → AreRight earlier → AreRight rows × (length rows ≡ n + length earlier)
rows_right zero earlier bs rows rest e right =
    let same : earlier ≡ rows = ap (λ q. (value_or (earlier, bs) q).0) e in
    (record { distinct = ap are_names_distinct (sym same) ∙ right.distinct; named = rw (← same) right.named }, (let l = ap length same in omega (arith, l)))
rows_right (suc n) earlier bs rows rest e right =
    let k = then_ok (row_at earlier bs) (λ row more. rows_at n (earlier ++ row ∷ []) more) rows rest e in
    let next = and_parts (is_name k.value.name) (is_new_name k.value.name earlier) (row_right earlier bs k.value k.more k.first) in
    let more = rows_right n (earlier ++ k.value ∷ []) k.more rows rest k.later (record {
      distinct = distinct_push earlier k.value right.distinct next.1;
      named = All-append IsNamed earlier (k.value ∷ []) right.named (All-cons IsNamed k.value [] (named k.value.name next.0) (All-nil IsNamed));
    }) in
    let l = length-append earlier (k.value ∷ []) in
    (more.0, omega (arith, more.1, l))

-- ---- the head

sides : (w h : ℕ) → is_width w ≡ true → is_height h ≡ true → is_session_size w h ≡ true
sides w h a b =
    let k = and_parts (nat_le 4 w && nat_le w 2048) (w % 4 == 0) a in
    let m = and_parts (nat_le 1 h && nat_le h 2048) true b in
    and_from _ _ k.0 (and_from _ _ m.0 k.1)

few : (n : ℕ) → is_at_most row_limit n ≡ true → n ≤ 64
few n h = grind (arith, nat_tests, h)

pub head_right : (bs : List ℕ) (head : Head) (rest : List ℕ) → head_at bs ≡ Ok (head, rest) → (is_session_size head.size.w head.size.h ≡ true) × AreInvited head.rows
unfolding head_at
head_right bs head rest e =
    let mark = then_ok (tested_at is_record_mark (bytes_at 6) bs)
    (λ _ more. then_caused (tested_at is_width short_at more) (λ w more. then_caused (tested_at is_height short_at more) (λ h more. then_caused (tested_at (is_at_most row_limit) byte_at more) (λ n more.
    map_caused (λ (rows : List Row). record { size = record { w = w; h = h }; rows = rows }) (rows_at n [] more))))) head rest e in
    let w = then_ok (tested_at is_width short_at mark.more)
    (λ w more. then_caused (tested_at is_height short_at more) (λ h more. then_caused (tested_at (is_at_most row_limit) byte_at more) (λ n more.
    map_caused (λ (rows : List Row). record { size = record { w = w; h = h }; rows = rows }) (rows_at n [] more)))) head rest mark.later in
    let h = then_ok (tested_at is_height short_at w.more)
    (λ h more. then_caused (tested_at (is_at_most row_limit) byte_at more) (λ n more. map_caused (λ (rows : List Row). record { size = record { w = w.value; h = h }; rows = rows }) (rows_at n [] more))) head rest w.later in
    let n = then_ok (tested_at (is_at_most row_limit) byte_at h.more)
    (λ n more. map_caused (λ (rows : List Row). record { size = record { w = w.value; h = h.value }; rows = rows }) (rows_at n [] more)) head rest h.later in
    let rows = map_ok (λ (rows : List Row). record { size = record { w = w.value; h = h.value }; rows = rows }) (rows_at n.value [] n.more) head rest n.later in
    let right = rows_right n.value [] n.more rows.value rest rows.first (record { distinct = refl; named = All-nil IsNamed }) in
    let count : length rows.value ≡ n.value = omega (arith, right.1) in
    let small = few n.value (tested_ok (is_at_most row_limit) h.more (byte_at h.more) n.value n.more n.first) in (
      ap (λ (x : Head). is_session_size x.size.w x.size.h) (sym rows.is)
          ∙ sides w.value h.value (tested_ok is_width mark.more (short_at mark.more) w.value w.more w.first) (tested_ok is_height w.more (short_at w.more) h.value h.more h.first),
      rw (← rows.is) (record { few = omega (arith, count, small); distinct = right.0.distinct; named = right.0.named }),
    )
