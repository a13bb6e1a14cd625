-- What was read is a text: each field that was read stands there.
use Rattle.std.proofs.Common.{◌≡◌, ℕ, ◌+◌, ◌-◌, ◌*◌, ◌≤◌, Bool, true, false, cond, List, [], ◌∷◌, ◌++◌, length, take, drop, refl, ap, sym, ◌∙◌, arith, length-drop, subst}
use Rattle.std.specs.Prelude.{nat_lt, nat_eq, ◌==◌, Ok, Err}
use Rattle.std.specs.List.{starts_with}
use Rattle.std.specs.Cmp.Lexicographic.{same_text}
use Rattle.std.proofs.lemmas.Bool.Decides.{nat_tests}
use Rattle.std.proofs.lemmas.List.{take-append-drop, length-take-le}
use Rattle.wire_num.proofs.Bytes.{bytes_at_is, wanted_is}
use Rattle.wire_num.proofs.Numbers.{big_at_is, little_at_is}
use Rattle.byteorder.specs.Endian.{big_number, little_number}
use Rattle.wire_num.specs.FieldValue.{as_one_field, passing_at, end_at, at_least, rest_count_at}
use Rattle.wire_num.specs.Field.{Read, then_read, map_read, bytes_at, wanted}
use Rattle.wire_num.specs.Number.{big_at, little_at}
use Rattle.wire_num.specs.Length.{per_len_at, long_per_at, ber_len_at}
use Rattle.wire_num.specs.Layout.{Layout, Open, End, Rest, Body, Content, Exactly, Bytes, Any, Big, Little, CountsRest, AtLeast, Length, Counted, Within, Count, OneByte, Packed, Basic, count_at, exactly_at, before, fields_at}
use Rattle.wire_num.specs.Grammar.{IsPacked, IsBasic, IsCount, IsText}
use Rattle.wire_num.proofs.Steps.{then_ok, map_ok, short_ok, passed_ok, one_ok, fits, same_count, big_taken, little_taken}

-- ---- fields that were read

pub bytes_ok : (n : ℕ) (bs : List ℕ) (y : List ℕ × List ℕ) → bytes_at n bs ≡ Ok y → (n ≤ length bs) × (take n bs ≡ y.0) × (drop n bs ≡ y.1)
bytes_ok n bs y e =
    let s = short_ok (nat_lt (length bs) n) bs (take n bs, drop n bs) y (sym (bytes_at_is n bs) ∙ e) in
    (fits n (length bs) s.0, ap (λ p. p.0) s.1, ap (λ p. p.1) s.1)

pub big_ok : (n : ℕ) (bs : List ℕ) (y : ℕ × List ℕ) → big_at n bs ≡ Ok y → (n ≤ length bs) × (big_number n bs ≡ y.0) × (drop n bs ≡ y.1)
big_ok n bs y e =
    let s = short_ok (nat_lt (length bs) n) bs (big_number n bs, drop n bs) y (sym (big_at_is n bs) ∙ e) in
    (fits n (length bs) s.0, ap (λ p. p.0) s.1, ap (λ p. p.1) s.1)

pub little_ok : (n : ℕ) (bs : List ℕ) (y : ℕ × List ℕ) → little_at n bs ≡ Ok y → (n ≤ length bs) × (little_number n bs ≡ y.0) × (drop n bs ≡ y.1)
little_ok n bs y e =
    let s = short_ok (nat_lt (length bs) n) bs (little_number n bs, drop n bs) y (sym (little_at_is n bs) ∙ e) in
    (fits n (length bs) s.0, ap (λ p. p.0) s.1, ap (λ p. p.1) s.1)

pub passing_ok : (test : ℕ → Bool) (read : List ℕ → Read ℕ) (bs : List ℕ) (y : ℕ × List ℕ) → passing_at test read bs ≡ Ok y → (read bs ≡ Ok y) × (test y.0 ≡ true)
unfolding passing_at
passing_ok test read bs y e =
    let s = then_ok (read bs) (λ v rest. cond (test v) (Ok (v, rest)) (Err bs)) y e in
    let v = s.0 in
    let t = passed_ok (test v.0) bs (v.0, v.1) y s.2 in
    let same : v ≡ y = t.1 in
    (s.1 ∙ ap Ok same, sym (ap (λ p. test p.0) same) ∙ t.0)

pub wanted_ok : (ws bs : List ℕ) (y : List ℕ × List ℕ) → wanted ws bs ≡ Ok y → bs ≡ ws ++ y.1
wanted_ok ws bs y e =
    let s = passed_ok (starts_with nat_eq bs ws) bs ([], drop (length ws) bs) y (sym (wanted_is ws bs) ∙ e) in
    let front : ws ≡ take (length ws) bs = same_text ws (take (length ws) bs) (sym s.0) in
    sym (take-append-drop (length ws) bs) ∙ ap (λ xs. xs ++ drop (length ws) bs) (sym front) ∙ ap (λ xs. ws ++ xs) (ap (λ p. p.1) s.1)

abbrev same_read : {A : Type 0} → Read A → Read A → Type 0
same_read r s = r ≡ s

ok_same : {A : Type 0} (x y : A × List ℕ) → same_read (Ok x) (Ok y) → x ≡ y
ok_same x y e = cc

pub end_ok : (bs : List ℕ) (y : List ℕ × List ℕ) → end_at bs ≡ Ok y → (bs ≡ []) × ([] ≡ y.0) × (bs ≡ y.1)
end_ok [] y e = let s = ok_same ([], []) y e in (refl, ap (λ p. p.0) s, ap (λ p. p.1) s)
end_ok (b ∷ bs) y e = absurd (let h : ⊥ = cc in h)

pub exactly_ok : (n : ℕ) (bs : List ℕ) (y : List ℕ × List ℕ) → exactly_at n bs ≡ Ok y → (length bs ≡ n) × ([] ≡ y.1) × (bs ≡ y.0)
unfolding exactly_at
exactly_ok n bs y e =
    let s = passed_ok (length bs == n) bs (bs, []) y e in
    (same_count (length bs) n s.0, ap (λ p. p.1) s.1, ap (λ p. p.0) s.1)

pub at_least_ok : (n : ℕ) (bs : List ℕ) (y : List ℕ × List ℕ) → at_least n bs ≡ Ok y → (n ≤ length bs) × (bs ≡ y.1)
unfolding at_least
at_least_ok n bs y e =
    let s = short_ok (nat_lt (length bs) n) [] ([], bs) y e in
    (fits n (length bs) s.0, ap (λ p. p.1) s.1)

first_byte : (bs : List ℕ) (y : ℕ × List ℕ) → big_at 1 bs ≡ Ok y → bs ≡ y.0 ∷ y.1
first_byte [] y e = let o = big_ok 1 [] y e in absurd (omega (arith, o.0))
first_byte (b ∷ bs) y e =
    let o = big_ok 1 (b ∷ bs) y e in
    let value : b ≡ y.0 = omega (arith, o.1) in
    ap (λ x. x ∷ bs) value ∙ ap (λ xs. y.0 ∷ xs) o.2

pub rest_count_ok : (bs : List ℕ) (y : ℕ × List ℕ) → rest_count_at bs ≡ Ok y → bs ≡ length y.1 ∷ y.1
unfolding rest_count_at
rest_count_ok bs y e =
    let s = then_ok (big_at 1 bs) (λ n rest. cond (length rest == n) (Ok (n, rest)) (Err bs)) y e in
    let v = s.0 in
    let t = passed_ok (length v.1 == v.0) bs (v.0, v.1) y s.2 in
    let same : v ≡ y = t.1 in
    first_byte bs v s.1 ∙ ap (λ n. n ∷ v.1) (sym (same_count (length v.1) v.0 t.0)) ∙ ap (λ p. length p.1 ∷ p.1) same

packed_by : (short : Bool) (b : ℕ) (bs : List ℕ) (y : ℕ × List ℕ) → nat_lt b 128 ≡ short
    → cond short (Ok (b, bs)) (as_one_field (b ∷ bs) (long_per_at b bs)) ≡ Ok y
    → (count : List ℕ) × IsPacked count y.0 × (b ∷ bs ≡ count ++ y.1)
packed_by true b bs y t e =
    let s = ok_same (b, bs) y e in
    (b ∷ [], (grind (arith, nat_tests, t), sym (ap (λ p. p.0) s)), ap (λ p. b ∷ p.1) s)
packed_by false b [] y t e = absurd (let h : ⊥ = cc in h)
packed_by false b (c ∷ cs) y t e =
    let o = one_ok (b ∷ c ∷ cs) (long_per_at b (c ∷ cs)) y e in
    let s = passed_ok (nat_lt b 192) (c ∷ cs) (256 * (b - 128) + c, cs) y o in
    let low = s.0 in
    (b ∷ c ∷ [], (grind (arith, nat_tests, t), grind (arith, nat_tests, low), sym (ap (λ p. p.0) s.1)), ap (λ p. b ∷ c ∷ p.1) s.1)

packed_ok : (bs : List ℕ) (y : ℕ × List ℕ) → per_len_at bs ≡ Ok y → (count : List ℕ) × IsPacked count y.0 × (bs ≡ count ++ y.1)
packed_ok [] y e = absurd (let h : ⊥ = cc in h)
packed_ok (b ∷ bs) y e = packed_by (nat_lt b 128) b bs y refl e

two_bytes : (bs : List ℕ) (y : ℕ × List ℕ) → big_at 2 bs ≡ Ok y → (c : ℕ) × (d : ℕ) × (bs ≡ c ∷ d ∷ y.1) × (y.0 ≡ 256 * c + d)
two_bytes [] y e = let o = big_ok 2 [] y e in absurd (omega (arith, o.0))
two_bytes (c ∷ []) y e = let o = big_ok 2 (c ∷ []) y e in absurd (omega (arith, o.0))
two_bytes (c ∷ d ∷ bs) y e =
    let o = big_ok 2 (c ∷ d ∷ bs) y e in
    (c, d, ap (λ xs. c ∷ d ∷ xs) o.2, omega (arith, o.1))

basic_third : (two : Bool) (b : ℕ) (bs : List ℕ) (y : ℕ × List ℕ) → (b == 130) ≡ two
    → cond two (as_one_field (b ∷ bs) (big_at 2 bs)) (Err (b ∷ bs)) ≡ Ok y
    → (count : List ℕ) × IsBasic count y.0 × (b ∷ bs ≡ count ++ y.1)
basic_third true b bs y t e =
    let s = two_bytes bs y (one_ok (b ∷ bs) (big_at 2 bs) y e) in
    (b ∷ s.0 ∷ s.1 ∷ [], (same_count b 130 t, s.3), ap (λ xs. b ∷ xs) s.2)
basic_third false b bs y t e = absurd (let h : ⊥ = cc in h)

basic_second : (one : Bool) (b : ℕ) (bs : List ℕ) (y : ℕ × List ℕ) → (b == 129) ≡ one
    → cond one (as_one_field (b ∷ bs) (big_at 1 bs)) (cond (b == 130) (as_one_field (b ∷ bs) (big_at 2 bs)) (Err (b ∷ bs))) ≡ Ok y
    → (count : List ℕ) × IsBasic count y.0 × (b ∷ bs ≡ count ++ y.1)
basic_second true b bs y t e =
    let s = first_byte bs y (one_ok (b ∷ bs) (big_at 1 bs) y e) in
    (b ∷ y.0 ∷ [], (same_count b 129 t, refl), ap (λ xs. b ∷ xs) s)
basic_second false b bs y t e = basic_third (b == 130) b bs y refl e

basic_first : (short : Bool) (b : ℕ) (bs : List ℕ) (y : ℕ × List ℕ) → nat_lt b 128 ≡ short
    → cond short (Ok (b, bs)) (cond (b == 129) (as_one_field (b ∷ bs) (big_at 1 bs)) (cond (b == 130) (as_one_field (b ∷ bs) (big_at 2 bs)) (Err (b ∷ bs)))) ≡ Ok y
    → (count : List ℕ) × IsBasic count y.0 × (b ∷ bs ≡ count ++ y.1)
basic_first true b bs y t e =
    let s = ok_same (b, bs) y e in
    (b ∷ [], (grind (arith, nat_tests, t), sym (ap (λ p. p.0) s)), ap (λ p. b ∷ p.1) s)
basic_first false b bs y t e = basic_second (b == 129) b bs y refl e

basic_ok : (bs : List ℕ) (y : ℕ × List ℕ) → ber_len_at bs ≡ Ok y → (count : List ℕ) × IsBasic count y.0 × (bs ≡ count ++ y.1)
basic_ok [] y e = absurd (let h : ⊥ = cc in h)
basic_ok (b ∷ bs) y e = basic_first (nat_lt b 128) b bs y refl e

pub count_ok : (form : Count) (bs : List ℕ) (y : ℕ × List ℕ) → count_at form bs ≡ Ok y → (count : List ℕ) × IsCount form count y.0 × (bs ≡ count ++ y.1)
count_ok OneByte bs y e = (y.0 ∷ [], refl, first_byte bs y e)
count_ok Packed bs y e = packed_ok bs y e
count_ok Basic bs y e = basic_ok bs y e

pub before_ok : {A : Type 0} (after : List ℕ) (r : Read A) (y : A × List ℕ) → before after r ≡ Ok y → (v : A × List ℕ) × (r ≡ Ok v) × (v.0 ≡ y.0) × (after ≡ y.1)
before_ok after (Ok v) y e = let h = ok_same (v.0, after) y e in (v, refl, ap (λ p. p.0) h, ap (λ p. p.1) h)
before_ok after (Err left) y e = absurd (let h : ⊥ = cc in h)

pub regroup : (n : ℕ) (bs after : List ℕ) → drop n bs ≡ after → bs ≡ take n bs ++ after
regroup n bs after e = sym (take-append-drop n bs) ∙ ap (λ xs. take n bs ++ xs) e

-- what was read is a text
pub read_is_text : (layout : Layout) (bytes values left : List ℕ) → fields_at layout bytes ≡ Ok (values, left) → IsText layout bytes values left
read_is_text Open bytes values left e =
    let s = ok_same ([], bytes) (values, left) e in
    (sym (ap (λ p. p.0) s), ap (λ p. p.1) s)
read_is_text End bytes values left e =
    let s = end_ok bytes (values, left) e in
    (sym s.1, s.0, sym s.2 ∙ s.0)
read_is_text Rest bytes values left e =
    let s = ok_same ([], []) (values, left) e in
    (sym (ap (λ p. p.0) s), sym (ap (λ p. p.1) s))
read_is_text (Body form) bytes values left e =
    let s = then_ok (count_at form bytes) (λ n rest. map_read (λ _. n ∷ []) (exactly_at n rest)) (values, left) e in
    let v = s.0 in
    let m = map_ok (λ _. v.0 ∷ []) (exactly_at v.0 v.1) (values, left) s.2 in
    let x = exactly_ok v.0 v.1 m.0 m.1 in
    let c = count_ok form bytes v s.1 in
    let P : ℕ → Type 0 = λ n. IsCount form c.0 n in
    (c.0, v.1, subst P (sym x.0) c.1, c.2, sym m.2 ∙ ap (λ n. n ∷ []) (sym x.0), sym m.3 ∙ sym x.1)
read_is_text (Content form) bytes values left e =
    let s = then_ok (count_at form bytes) (λ n rest. then_read (bytes_at n rest) (λ _ after. map_read (λ _. n ∷ []) (end_at after))) (values, left) e in
    let v = s.0 in
    let c = count_ok form bytes v s.1 in
    let t = then_ok (bytes_at v.0 v.1) (λ _ after. map_read (λ _. v.0 ∷ []) (end_at after)) (values, left) s.2 in
    let w = t.0 in
    let o = bytes_ok v.0 v.1 w t.1 in
    let m = map_ok (λ _. v.0 ∷ []) (end_at w.1) (values, left) t.2 in
    let h = end_ok w.1 m.0 m.1 in
    let none : length (drop v.0 v.1) ≡ 0 = ap length (o.2 ∙ h.0) in
    let size : length v.1 ≡ v.0 = omega (arith, o.0, length-drop v.0 v.1, none) in
    let P : ℕ → Type 0 = λ n. IsCount form c.0 n in
    (c.0, v.1, subst P (sym size) c.1, c.2, sym m.2 ∙ ap (λ n. n ∷ []) (sym size), sym m.3 ∙ sym h.2 ∙ h.0)
read_is_text (Exactly form next) bytes values left e =
    let s = then_ok (count_at form bytes) (λ n rest. then_read (exactly_at n rest) (λ content _. fields_at next content)) (values, left) e in
    let v = s.0 in
    let c = count_ok form bytes v s.1 in
    let t = then_ok (exactly_at v.0 v.1) (λ content _. fields_at next content) (values, left) s.2 in
    let x = exactly_ok v.0 v.1 t.0 t.1 in
    let P : ℕ → Type 0 = λ n. IsCount form c.0 n in
    (c.0, v.1, subst P (sym x.0) c.1, c.2, read_is_text next v.1 values left (ap (fields_at next) x.2 ∙ t.2))
read_is_text (Bytes ws next) bytes values left e =
    let s = then_ok (wanted ws bytes) (λ _ rest. fields_at next rest) (values, left) e in
    (s.0.1, wanted_ok ws bytes s.0 s.1, read_is_text next s.0.1 values left s.2)
read_is_text (Any n next) bytes values left e =
    let s = then_ok (bytes_at n bytes) (λ _ rest. fields_at next rest) (values, left) e in
    let o = bytes_ok n bytes s.0 s.1 in
    (take n bytes, s.0.1, length-take-le n bytes o.0, regroup n bytes s.0.1 o.2, read_is_text next s.0.1 values left s.2)
read_is_text (Big n test next) bytes values left e =
    let s = then_ok (passing_at test (big_at n) bytes) (λ v rest. map_read (λ vs. v ∷ vs) (fields_at next rest)) (values, left) e in
    let v = s.0 in
    let t = passing_ok test (big_at n) bytes v s.1 in
    let o = big_ok n bytes v t.0 in
    let m = map_ok (λ vs. v.0 ∷ vs) (fields_at next v.1) (values, left) s.2 in
    let value : v.0 ≡ big_number n (take n bytes) = sym o.1 ∙ big_taken n bytes o.0 in (
      take n bytes,
      v.1,
      m.0.0,
      length-take-le n bytes o.0,
      sym (ap test value) ∙ t.1,
      regroup n bytes v.1 o.2,
      sym m.2 ∙ ap (λ x. x ∷ m.0.0) value,
      read_is_text next v.1 m.0.0 left (m.1 ∙ ap (λ l. Ok (m.0.0, l)) m.3),
    )
read_is_text (Little n test next) bytes values left e =
    let s = then_ok (passing_at test (little_at n) bytes) (λ v rest. map_read (λ vs. v ∷ vs) (fields_at next rest)) (values, left) e in
    let v = s.0 in
    let t = passing_ok test (little_at n) bytes v s.1 in
    let o = little_ok n bytes v t.0 in
    let m = map_ok (λ vs. v.0 ∷ vs) (fields_at next v.1) (values, left) s.2 in
    let value : v.0 ≡ little_number n (take n bytes) = sym o.1 ∙ little_taken n bytes o.0 in (
      take n bytes,
      v.1,
      m.0.0,
      length-take-le n bytes o.0,
      sym (ap test value) ∙ t.1,
      regroup n bytes v.1 o.2,
      sym m.2 ∙ ap (λ x. x ∷ m.0.0) value,
      read_is_text next v.1 m.0.0 left (m.1 ∙ ap (λ l. Ok (m.0.0, l)) m.3),
    )
read_is_text (CountsRest next) bytes values left e =
    let s = then_ok (rest_count_at bytes) (λ _ rest. fields_at next rest) (values, left) e in
    (s.0.1, rest_count_ok bytes s.0 s.1, read_is_text next s.0.1 values left s.2)
read_is_text (AtLeast n next) bytes values left e =
    let s = then_ok (at_least n bytes) (λ _ rest. fields_at next rest) (values, left) e in
    let o = at_least_ok n bytes s.0 s.1 in
    (o.0, read_is_text next bytes values left (ap (fields_at next) o.1 ∙ s.2))
read_is_text (Length form next) bytes values left e =
    let s = then_ok (count_at form bytes) (λ _ rest. fields_at next rest) (values, left) e in
    let c = count_ok form bytes s.0 s.1 in
    (c.0, s.0.0, s.0.1, c.1, c.2, read_is_text next s.0.1 values left s.2)
read_is_text (Counted form test next) bytes values left e =
    let s = then_ok (passing_at test (count_at form) bytes) (λ n rest. then_read (bytes_at n rest) (λ _ after. fields_at next after)) (values, left) e in
    let v = s.0 in
    let u = passing_ok test (count_at form) bytes v s.1 in
    let c = count_ok form bytes v u.0 in
    let t = then_ok (bytes_at v.0 v.1) (λ _ after. fields_at next after) (values, left) s.2 in
    let o = bytes_ok v.0 v.1 t.0 t.1 in
    let P : ℕ → Type 0 = λ n. IsCount form c.0 n in
    let size : length (take v.0 v.1) ≡ v.0 = length-take-le v.0 v.1 o.0 in (
      c.0,
      take v.0 v.1,
      t.0.1,
      subst P (sym size) c.1,
      ap test size ∙ u.1,
      c.2 ∙ ap (λ xs. c.0 ++ xs) (regroup v.0 v.1 t.0.1 o.2),
      read_is_text next t.0.1 values left t.2,
    )
read_is_text (Within form inner next) bytes values left e =
    let after_all : List ℕ → List ℕ → Read (List ℕ) = λ vs after. map_read (λ more. vs ++ more) (fields_at next after) in
    let inside : List ℕ → Read (List ℕ) = λ content. then_read (fields_at inner content) (λ vs rest. map_read (λ _. vs) (end_at rest)) in
    let s = then_ok (count_at form bytes) (λ n rest. then_read (bytes_at n rest) (λ content after. then_read (before after (inside content)) after_all)) (values, left) e in
    let v = s.0 in
    let c = count_ok form bytes v s.1 in
    let t = then_ok (bytes_at v.0 v.1) (λ content after. then_read (before after (inside content)) after_all) (values, left) s.2 in
    let w = t.0 in
    let o = bytes_ok v.0 v.1 w t.1 in
    let u = then_ok (before w.1 (inside w.0)) after_all (values, left) t.2 in
    let b = before_ok w.1 (inside w.0) u.0 u.1 in
    let f = then_ok (fields_at inner w.0) (λ vs rest. map_read (λ _. vs) (end_at rest)) b.0 b.1 in
    let x = f.0 in
    let g = map_ok (λ _. x.0) (end_at x.1) b.0 f.2 in
    let h = end_ok x.1 g.0 g.1 in
    let m = map_ok (λ more. u.0.0 ++ more) (fields_at next u.0.1) (values, left) u.2 in
    let P : ℕ → Type 0 = λ n. IsCount form c.0 n in
    let size : length w.0 ≡ v.0 = ap length (sym o.1) ∙ length-take-le v.0 v.1 o.0 in (
      c.0,
      w.0,
      w.1,
      x.0,
      m.0.0,
      subst P (sym size) c.1,
      read_is_text inner w.0 x.0 [] (f.1 ∙ ap (λ l. Ok (x.0, l)) h.0),
      c.2 ∙ ap (λ xs. c.0 ++ xs) (regroup v.0 v.1 w.1 o.2 ∙ ap (λ xs. xs ++ w.1) o.1),
      sym m.2 ∙ ap (λ vs. vs ++ m.0.0) (sym (g.2 ∙ b.2)),
      read_is_text next w.1 m.0.0 left (ap (fields_at next) b.3 ∙ m.1 ∙ ap (λ l. Ok (m.0.0, l)) m.3),
    )
