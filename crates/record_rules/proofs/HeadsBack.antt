-- A head that is written is read back, whatever follows it.
use Rattle.std.proofs.Common.{◌≡◌, ℕ, ◌%◌, Bool, true, false, List, [], ◌∷◌, ◌++◌, length, refl, ap, sym, ◌∙◌, arith, Ok, Err, Some, append_assoc, append-nil, eq-eqb}
use Rattle.std.specs.Prelude.{nat_le, ◌==◌, ◌&&◌, not, is_none, if◌then◌else◌}
use Rattle.std.proofs.lemmas.Bool.{and_from, and_parts, eqb-true}
use Rattle.std.proofs.lemmas.Bool.Decides.{nat_tests}
use Rattle.line_text.specs.Words.{is_same_word}
use Rattle.wire_num.specs.Field.{Read, bytes_at}
use Rattle.wire_num.specs.FieldValue.{is_at_most}
use Rattle.wire_num.specs.Caused.{Caused, then_caused, map_caused}
use Rattle.px_core.specs.Rectangle.{is_session_size}
use Rattle.draw_ops.specs.Ranges.{is_u16}
use Rattle.session_rules.specs.declared.entry.Role.{Role}
use Rattle.session_rules.specs.declared.entry.Role.TheVariants.{Owner, Control, View}
use Rattle.session_rules.specs.Journal.{Head, Row}
use Rattle.session_rules.specs.Steps.{row_role, is_new_name, are_names_distinct}
use Rattle.script_rules.specs.Script.{is_name, is_name_byte, all_bytes, row_limit}
use Rattle.record_rules.specs.declared.field.Field.TheVariants.{Short}
use Rattle.record_rules.specs.Fields.{field_bytes, fields_bytes}
use Rattle.record_rules.specs.Tables.{record_mark, role_number, head_fields, row_bytes, rows_bytes, head_bytes, are_named, is_recordable_head}
use Rattle.record_rules.specs.Reading.{Lack, byte_at, short_at, role_numbered, last_role, tested, tested_at, is_record_mark, is_width, is_height, is_name_length, is_next_name, row_at, rows_at, head_at}
use Rattle.record_rules.proofs.FieldsBack.{byte_back, short_back, bytes_back}

pub tested_back : {A : Type 0} (test : A → Bool) (read : List ℕ → Read A) (bs : List ℕ) (v : A) (rest : List ℕ) → read bs ≡ Ok (v, rest) → test v ≡ true → tested_at test read bs ≡ Ok (v, rest)
tested_back test read bs v rest e t = ap (tested test bs) e ∙ ap (λ b. if b then Ok (v, rest) else Err (Lack.Broken, bs)) t

pub caused_back : {C A B : Type 0} (r : Caused C A) (v : A) (rest : List ℕ) (f : A → List ℕ → Caused C B) → r ≡ Ok (v, rest) → then_caused r f ≡ f v rest
caused_back r v rest f e = ap (λ q. then_caused q f) e

-- ---- names

pub same_name-self : (name : List ℕ) → is_same_word name name ≡ true
same_name-self [] = refl
same_name-self (b ∷ bs) = and_from _ _ (eq-eqb b b refl) (same_name-self bs)

pub same_name-≡ : (a b : List ℕ) → is_same_word a b ≡ true → a ≡ b
same_name-≡ [] [] h = refl
same_name-≡ [] (y ∷ ys) h = absurd (cc h)
same_name-≡ (x ∷ xs) [] h = absurd (cc h)
same_name-≡ (x ∷ xs) (y ∷ ys) h = let k = and_parts (x == y) (is_same_word xs ys) h in rw (eqb-true x y k.0, same_name-≡ xs ys k.1) refl

-- a row among others is found by its name
found_among : (row : Row) (xs rs : List Row) → is_new_name row.name (xs ++ row ∷ rs) ≡ false
found_among row [] rs = rw (same_name-self row.name) refl
found_among row (x ∷ xs) rs = by (found_among row xs rs) (is_same_word row.name x.name)
  where
    by : is_new_name row.name (xs ++ row ∷ rs) ≡ false → (b : Bool) → is_none (if b then Some x.role else row_role row.name (xs ++ row ∷ rs)) ≡ false
    by found true = refl
    by found false = found

-- of distinct names one is new to those before it
new_among : (earlier : List Row) (row : Row) (rs : List Row) → are_names_distinct (earlier ++ row ∷ rs) ≡ true → is_new_name row.name earlier ≡ true
new_among [] row rs h = refl
new_among (x ∷ xs) row rs h =
    let k = and_parts (is_new_name x.name (xs ++ row ∷ rs)) (are_names_distinct (xs ++ row ∷ rs)) h in
    by k.0 (new_among xs row rs k.1) (is_same_word row.name x.name) refl
  where
    by : is_new_name x.name (xs ++ row ∷ rs) ≡ true → is_new_name row.name xs ≡ true → (b : Bool) → is_same_word row.name x.name ≡ b
        → is_none (if b then Some x.role else row_role row.name xs) ≡ true
    by new others true e =
        let same = ap (λ n. is_new_name n (xs ++ row ∷ rs)) (same_name-≡ row.name x.name e) in
        absurd (cc (same, new, found_among row xs rs))
    by new others false e = others

-- a name has 1 to 64 bytes
pub name_length : (name : List ℕ) → is_name name ≡ true → is_name_length (length name) ≡ true
name_length [] h = absurd (cc h)
name_length (b ∷ bs) h =
    let k = and_parts (nat_le (length bs) 63 && all_bytes is_name_byte (b ∷ bs)) (not (b == 45)) h in
    let m = and_parts (nat_le (length bs) 63) (all_bytes is_name_byte (b ∷ bs)) k.0 in
    grind (arith, nat_tests, m.0)

-- ---- rows

role_numbered-number : (role : Role) → role_numbered (role_number role) ≡ role
role_numbered-number Owner = refl
role_numbered-number Control = refl
role_numbered-number View = refl

role_number_small : (role : Role) → is_at_most last_role (role_number role) ≡ true
role_number_small Owner = refl
role_number_small Control = refl
role_number_small View = refl

row_back : (earlier : List Row) (row : Row) (rest : List ℕ) → is_name row.name ≡ true → is_new_name row.name earlier ≡ true → row_at earlier (row_bytes row ++ rest) ≡ Ok (row, rest)
unfolding row_at
row_back earlier row rest named new =
    caused_back _ (role_number row.role) (length row.name ∷ (row.name ++ rest))
    (λ number more. then_caused (tested_at is_name_length byte_at more) (λ n more. map_caused (λ name. record { name = name; role = role_numbered number }) (tested_at (is_next_name earlier) (bytes_at n) more)))
    (tested_back (is_at_most last_role) byte_at (role_number row.role ∷ length row.name ∷ (row.name ++ rest)) (role_number row.role) (length row.name ∷ (row.name ++ rest)) (byte_back (role_number row.role) (length row.name ∷ (row.name ++ rest))) (role_number_small row.role))
    ∙ caused_back _ (length row.name) (row.name ++ rest)
    (λ n more. map_caused (λ name. record { name = name; role = role_numbered (role_number row.role) }) (tested_at (is_next_name earlier) (bytes_at n) more))
    (tested_back is_name_length byte_at (length row.name ∷ (row.name ++ rest)) (length row.name) (row.name ++ rest) (byte_back (length row.name) (row.name ++ rest)) (name_length row.name named))
    ∙ ap (map_caused (λ (name : List ℕ). record { name = name; role = role_numbered (role_number row.role) }))
    (tested_back (is_next_name earlier) (bytes_at (length row.name)) (row.name ++ rest) row.name rest (bytes_back (length row.name) row.name rest refl) (and_from (is_name row.name) (is_new_name row.name earlier) named new))
    ∙ ap (λ (role : Role). Ok (record { name = row.name; role = role }, rest)) (role_numbered-number row.role)

rows_back : (earlier rows : List Row) (rest : List ℕ) → are_named rows ≡ true → are_names_distinct (earlier ++ rows) ≡ true → rows_at (length rows) earlier (rows_bytes rows ++ rest) ≡ Ok (earlier ++ rows, rest)
rows_back earlier [] rest named distinct = ap (λ rows. Ok (rows, rest)) (sym (append-nil earlier))
rows_back earlier (row ∷ rows) rest named distinct =
    let k = and_parts (is_name row.name) (are_named rows) named in
    let joined = append_assoc (row_bytes row) (rows_bytes rows) rest in
    let moved = append_assoc earlier (row ∷ []) rows in
    ap (λ bs. then_caused (row_at earlier bs) (λ row more. rows_at (length rows) (earlier ++ row ∷ []) more)) joined
    ∙ caused_back _ row (rows_bytes rows ++ rest) (λ row more. rows_at (length rows) (earlier ++ row ∷ []) more) (row_back earlier row (rows_bytes rows ++ rest) k.0 (new_among earlier row rows distinct))
    ∙ rows_back (earlier ++ row ∷ []) rows rest k.1 (ap are_names_distinct moved ∙ distinct)
    ∙ ap (λ rows. Ok (rows, rest)) moved

-- ---- the head

width_alone : (w h : ℕ) → is_session_size w h ≡ true → is_width w ≡ true
width_alone w h e =
    let k = and_parts (nat_le 4 w && nat_le w 2048) ((nat_le 1 h && nat_le h 2048) && (w % 4 == 0)) e in
    and_from (nat_le 4 w && nat_le w 2048) (w % 4 == 0) k.0 (and_parts (nat_le 1 h && nat_le h 2048) (w % 4 == 0) k.1).1

height_alone : (w h : ℕ) → is_session_size w h ≡ true → is_height h ≡ true
height_alone w h e =
    let k = and_parts (nat_le 4 w && nat_le w 2048) ((nat_le 1 h && nat_le h 2048) && (w % 4 == 0)) e in
    and_from (nat_le 1 h && nat_le h 2048) true (and_parts (nat_le 1 h && nat_le h 2048) (w % 4 == 0) k.1).0 refl

width_small : (w : ℕ) → is_width w ≡ true → is_u16 w ≡ true
width_small w e = let k = and_parts (nat_le 4 w && nat_le w 2048) (w % 4 == 0) e in let m = and_parts (nat_le 4 w) (nat_le w 2048) k.0 in grind (arith, nat_tests, m.1)

height_small : (h : ℕ) → is_height h ≡ true → is_u16 h ≡ true
height_small h e = let k = and_parts (nat_le 1 h && nat_le h 2048) true e in let m = and_parts (nat_le 1 h) (nat_le h 2048) k.0 in grind (arith, nat_tests, m.1)

-- a head that a record can hold is read back
pub head_back : (head : Head) (rest : List ℕ) → is_recordable_head head ≡ true → head_at (head_bytes head ++ rest) ≡ Ok (head, rest)
unfolding head_at
head_back head rest h =
    let k = and_parts (is_session_size head.size.w head.size.h) (nat_le (length head.rows) row_limit && (are_named head.rows && are_names_distinct head.rows)) h in
    let m = and_parts (nat_le (length head.rows) row_limit) (are_named head.rows && are_names_distinct head.rows) k.1 in
    let n = and_parts (are_named head.rows) (are_names_distinct head.rows) m.1 in
    let wide = width_alone head.size.w head.size.h k.0 in
    let high = height_alone head.size.w head.size.h k.0 in
    let behind : List ℕ = rows_bytes head.rows ++ rest in
    caused_back _ record_mark (fields_bytes (head_fields head) ++ behind)
    (λ _ more. then_caused (tested_at is_width short_at more) (λ w more. then_caused (tested_at is_height short_at more) (λ h more. then_caused (tested_at (is_at_most row_limit) byte_at more) (λ n more.
    map_caused (λ (rows : List Row). record { size = record { w = w; h = h }; rows = rows }) (rows_at n [] more)))))
    (tested_back is_record_mark (bytes_at 6) (head_bytes head ++ rest) record_mark (fields_bytes (head_fields head) ++ behind) (bytes_back 6 record_mark (fields_bytes (head_fields head) ++ behind) refl) refl)
    ∙ caused_back _ head.size.w (field_bytes (Short head.size.h) ++ length head.rows ∷ behind)
    (λ w more. then_caused (tested_at is_height short_at more) (λ h more. then_caused (tested_at (is_at_most row_limit) byte_at more) (λ n more.
    map_caused (λ (rows : List Row). record { size = record { w = w; h = h }; rows = rows }) (rows_at n [] more))))
    (tested_back is_width short_at (fields_bytes (head_fields head) ++ behind) head.size.w (field_bytes (Short head.size.h) ++ length head.rows ∷ behind) (short_back head.size.w _ (width_small head.size.w wide)) wide)
    ∙ caused_back _ head.size.h (length head.rows ∷ behind)
    (λ h more. then_caused (tested_at (is_at_most row_limit) byte_at more) (λ n more. map_caused (λ (rows : List Row). record { size = record { w = head.size.w; h = h }; rows = rows }) (rows_at n [] more)))
    (tested_back is_height short_at (field_bytes (Short head.size.h) ++ length head.rows ∷ behind) head.size.h (length head.rows ∷ behind) (short_back head.size.h _ (height_small head.size.h high)) high)
    ∙ caused_back _ (length head.rows) behind (λ n more. map_caused (λ (rows : List Row). record { size = record { w = head.size.w; h = head.size.h }; rows = rows }) (rows_at n [] more))
    (tested_back (is_at_most row_limit) byte_at (length head.rows ∷ behind) (length head.rows) behind (byte_back (length head.rows) behind) m.0)
    ∙ ap (map_caused (λ (rows : List Row). record { size = record { w = head.size.w; h = head.size.h }; rows = rows })) (rows_back [] head.rows rest n.0 n.1)
