-- A field is refused just where no text of it stands, and at its first byte.
use Rattle.std.proofs.Common.{◌≡◌, ℕ, ◌<◌, Bool, true, false, cond, List, [], ◌∷◌, ◌++◌, length, take, drop, refl, ap, sym, ◌∙◌, arith}
use Rattle.std.specs.Prelude.{nat_lt, nat_eq, ◌==◌, Ok, Err}
use Rattle.std.specs.List.{starts_with}
use Rattle.std.proofs.lemmas.Bool.Decides.{nat_tests}
use Rattle.std.proofs.lemmas.List.{length-take-le}
use Rattle.wire_num.proofs.Bytes.{bytes_at_is, wanted_is, taken_few}
use Rattle.wire_num.proofs.Numbers.{big_at_is, little_at_is}
use Rattle.byteorder.specs.Endian.{big_number, little_number}
use Rattle.wire_num.specs.FieldValue.{as_one_field, passing_at, end_at, at_least, rest_count_at}
use Rattle.wire_num.specs.Field.{Read, then_read, bytes_at, wanted}
use Rattle.wire_num.specs.Number.{big_at, little_at}
use Rattle.wire_num.specs.Length.{per_len_at, long_per_at, ber_len_at}
use Rattle.wire_num.specs.Layout.{Count, OneByte, Packed, Basic, count_at, exactly_at}
use Rattle.wire_num.specs.Refusal.{Missing, IsSomeCount, IsPassingCount}
use Rattle.wire_num.proofs.Steps.{big_taken, little_taken}
use Rattle.wire_num.proofs.ReadIsText.{bytes_ok, big_ok, little_ok, passing_ok, wanted_ok, rest_count_ok, count_ok, regroup}
use Rattle.wire_num.proofs.TextIsRead.{bytes_there, big_there, little_there, passing_again, wanted_again, rest_count_again, count_again}

-- ---- a refusal is at the first byte

pub short_err : {A : Type 0} (b : Bool) (bs left : List ℕ) (x : A × List ℕ) → cond b (Err bs) (Ok x) ≡ Err left → (b ≡ true) × (bs ≡ left)
short_err true bs left x e = (refl, cc)
short_err false bs left x e = absurd (let h : ⊥ = cc in h)

pub passed_err : {A : Type 0} (b : Bool) (bs left : List ℕ) (x : A × List ℕ) → cond b (Ok x) (Err bs) ≡ Err left → (b ≡ false) × (bs ≡ left)
passed_err true bs left x e = absurd (let h : ⊥ = cc in h)
passed_err false bs left x e = (refl, cc)

one_err : {A : Type 0} (whole : List ℕ) (r : Read A) (left : List ℕ) → as_one_field whole r ≡ Err left → whole ≡ left
one_err whole (Ok v) left e = absurd (let h : ⊥ = cc in h)
one_err whole (Err l) left e = cc

pub bytes_err : (n : ℕ) (bs left : List ℕ) → bytes_at n bs ≡ Err left → (length bs < n) × (bs ≡ left)
bytes_err n bs left e =
    let s = short_err (nat_lt (length bs) n) bs left (take n bs, drop n bs) (sym (bytes_at_is n bs) ∙ e) in
    let short = s.0 in
    (grind (arith, nat_tests, short), s.1)

big_err : (n : ℕ) (bs left : List ℕ) → big_at n bs ≡ Err left → bs ≡ left
big_err n bs left e = (short_err (nat_lt (length bs) n) bs left (big_number n bs, drop n bs) (sym (big_at_is n bs) ∙ e)).1

pub little_err : (n : ℕ) (bs left : List ℕ) → little_at n bs ≡ Err left → bs ≡ left
little_err n bs left e = (short_err (nat_lt (length bs) n) bs left (little_number n bs, drop n bs) (sym (little_at_is n bs) ∙ e)).1

passing_by : (r : Read ℕ) (test : ℕ → Bool) (bs left : List ℕ) → ((l : List ℕ) → r ≡ Err l → bs ≡ l)
    → then_read r (λ v rest. cond (test v) (Ok (v, rest)) (Err bs)) ≡ Err left → bs ≡ left
passing_by (Ok v) test bs left at e = (passed_err (test v.0) bs left (v.0, v.1) e).1
passing_by (Err l) test bs left at e = at l refl ∙ (let h : l ≡ left = cc in h)

pub passing_err : (test : ℕ → Bool) (read : List ℕ → Read ℕ) (bs left : List ℕ) → ((l : List ℕ) → read bs ≡ Err l → bs ≡ l) → passing_at test read bs ≡ Err left
    → bs ≡ left
unfolding passing_at
passing_err test read bs left at e = passing_by (read bs) test bs left at e

wanted_err : (ws bs left : List ℕ) → wanted ws bs ≡ Err left → bs ≡ left
wanted_err ws bs left e = (passed_err (starts_with nat_eq bs ws) bs left ([], drop (length ws) bs) (sym (wanted_is ws bs) ∙ e)).1

pub end_err : (bs left : List ℕ) → end_at bs ≡ Err left → (0 < length bs) × (bs ≡ left)
end_err [] left e = absurd (let h : ⊥ = cc in h)
end_err (b ∷ bs) left e = (omega arith, cc)

pub at_least_err : (n : ℕ) (bs left : List ℕ) → at_least n bs ≡ Err left → (length bs < n) × ([] ≡ left)
unfolding at_least
at_least_err n bs left e =
    let s = short_err (nat_lt (length bs) n) [] left ([], bs) e in
    let short = s.0 in
    (grind (arith, nat_tests, short), s.1)

rest_count_err_by : (r : Read ℕ) (bs left : List ℕ) → ((l : List ℕ) → r ≡ Err l → bs ≡ l)
    → then_read r (λ n rest. cond (length rest == n) (Ok (n, rest)) (Err bs)) ≡ Err left → bs ≡ left
rest_count_err_by (Ok v) bs left at e = (passed_err (length v.1 == v.0) bs left (v.0, v.1) e).1
rest_count_err_by (Err l) bs left at e = at l refl ∙ (let h : l ≡ left = cc in h)

rest_count_err : (bs left : List ℕ) → rest_count_at bs ≡ Err left → bs ≡ left
unfolding rest_count_at
rest_count_err bs left e = rest_count_err_by (big_at 1 bs) bs left (λ l h. big_err 1 bs l h) e

packed_err_by : (short : Bool) (b : ℕ) (bs left : List ℕ) → cond short (Ok (b, bs)) (as_one_field (b ∷ bs) (long_per_at b bs)) ≡ Err left → b ∷ bs ≡ left
packed_err_by true b bs left e = absurd (let h : ⊥ = cc in h)
packed_err_by false b bs left e = one_err (b ∷ bs) (long_per_at b bs) left e

packed_err : (bs left : List ℕ) → per_len_at bs ≡ Err left → bs ≡ left
packed_err [] left e = cc
packed_err (b ∷ bs) left e = packed_err_by (nat_lt b 128) b bs left e

basic_err_by : (short one two : Bool) (b : ℕ) (bs left : List ℕ)
    → cond short (Ok (b, bs)) (cond one (as_one_field (b ∷ bs) (big_at 1 bs)) (cond two (as_one_field (b ∷ bs) (big_at 2 bs)) (Err (b ∷ bs)))) ≡ Err left
    → b ∷ bs ≡ left
basic_err_by true one two b bs left e = absurd (let h : ⊥ = cc in h)
basic_err_by false true two b bs left e = one_err (b ∷ bs) (big_at 1 bs) left e
basic_err_by false false true b bs left e = one_err (b ∷ bs) (big_at 2 bs) left e
basic_err_by false false false b bs left e = cc

basic_err : (bs left : List ℕ) → ber_len_at bs ≡ Err left → bs ≡ left
basic_err [] left e = cc
basic_err (b ∷ bs) left e = basic_err_by (nat_lt b 128) (b == 129) (b == 130) b bs left e

count_err : (form : Count) (bs left : List ℕ) → count_at form bs ≡ Err left → bs ≡ left
count_err OneByte bs left e = big_err 1 bs left e
count_err Packed bs left e = packed_err bs left e
count_err Basic bs left e = basic_err bs left e

-- ---- where bytes are too few, or left over

pub bytes_short : (n : ℕ) (bs : List ℕ) → length bs < n → bytes_at n bs ≡ Err bs
bytes_short n bs h = taken_few n bs bs h

pub at_least_short : (n : ℕ) (bs : List ℕ) → length bs < n → at_least n bs ≡ Err []
unfolding at_least
at_least_short n bs h =
    let short : nat_lt (length bs) n ≡ true = grind (arith, nat_tests, h) in
    rw short refl

pub end_over : (bs : List ℕ) → 0 < length bs → end_at bs ≡ Err bs
end_over [] h = absurd (omega (arith, h))
end_over (b ∷ bs) h = refl

other_by : {A : Type 0} (b : Bool) (bs : List ℕ) (x : A × List ℕ) → (b ≡ true → ⊥) → cond b (Ok x) (Err bs) ≡ Err bs
other_by true bs x h = absurd (h refl)
other_by false bs x h = refl

pub exactly_other : (n : ℕ) (bs : List ℕ) → (length bs ≡ n → ⊥) → exactly_at n bs ≡ Err bs
unfolding exactly_at
exactly_other n bs h = other_by (length bs == n) bs (bs, []) (λ e. h (grind (arith, nat_tests, e)))

pub exactly_err : (n : ℕ) (bs left : List ℕ) → exactly_at n bs ≡ Err left → bs ≡ left
unfolding exactly_at
exactly_err n bs left e = (passed_err (length bs == n) bs left (bs, []) e).1

-- ---- fields and their texts

pub both : {A : Type 0} (r : Read A) (y : A × List ℕ) (left : List ℕ) → r ≡ Ok y → r ≡ Err left → ⊥
both (Ok v) y left e h = let k : ⊥ = cc in k
both (Err l) y left e h = let k : ⊥ = cc in k

-- the field is read just where a text of it stands, and else refused at its first byte
pub record Exact {A : Type 0} (IsField : List ℕ → List ℕ → Type 0) (read : List ℕ → Read A) : Type 0 where
  pub there : (text more : List ℕ) → IsField text more → (v : A) × (read (text ++ more) ≡ Ok (v, more))
  pub found : (bytes : List ℕ) (y : A × List ℕ) → read bytes ≡ Ok y → (text : List ℕ) × (bytes ≡ text ++ y.1) × IsField text y.1
  pub place : (bytes left : List ℕ) → read bytes ≡ Err left → bytes ≡ left

pub missing : {A : Type 0} (IsField : List ℕ → List ℕ → Type 0) (read : List ℕ → Read A) → Exact IsField read → (bytes left : List ℕ) → read bytes ≡ Err left
    → Missing IsField bytes left
missing IsField read x bytes left e =
    (λ text more whole is. let t = x.there text more is in both (read bytes) (t.0, more) left (ap read whole ∙ t.1) e, sym (x.place bytes left e))

refuses_by : {A : Type 0} (IsField : List ℕ → List ℕ → Type 0) (r : Read A) (bytes left : List ℕ)
    → ((y : A × List ℕ) → r ≡ Ok y → (text : List ℕ) × (bytes ≡ text ++ y.1) × IsField text y.1) → ((l : List ℕ) → r ≡ Err l → bytes ≡ l)
    → Missing IsField bytes left → r ≡ Err left
refuses_by IsField (Ok y) bytes left found place m = let f = found y refl in absurd (m.0 f.0 y.1 f.1 f.2)
refuses_by IsField (Err l) bytes left found place m = ap Err (sym (place l refl) ∙ sym m.1)

pub refuses : {A : Type 0} (IsField : List ℕ → List ℕ → Type 0) (read : List ℕ → Read A) → Exact IsField read → (bytes left : List ℕ)
    → Missing IsField bytes left → read bytes ≡ Err left
refuses IsField read x bytes left m = refuses_by IsField (read bytes) bytes left (x.found bytes) (x.place bytes) m

abbrev pub IsWanted : List ℕ → List ℕ → List ℕ → Type 0
IsWanted ws text more = text ≡ ws

abbrev pub IsSkipped : ℕ → List ℕ → List ℕ → Type 0
IsSkipped n text more = length text ≡ n

abbrev pub IsBig : ℕ → (ℕ → Bool) → List ℕ → List ℕ → Type 0
IsBig n test text more = (length text ≡ n) × (test (big_number n text) ≡ true)

abbrev pub IsLittle : ℕ → (ℕ → Bool) → List ℕ → List ℕ → Type 0
IsLittle n test text more = (length text ≡ n) × (test (little_number n text) ≡ true)

abbrev pub CountsMore : List ℕ → List ℕ → Type 0
CountsMore text more = text ≡ length more ∷ []

abbrev pub IsTested : Count → (ℕ → Bool) → List ℕ → List ℕ → Type 0
IsTested form test text more = (n : ℕ) × IsPassingCount form test text n

pub wanted_exact : (ws : List ℕ) → Exact (IsWanted ws) (wanted ws)
wanted_exact ws = record {
  there = λ text more is. ([], ap (λ xs. wanted ws (xs ++ more)) is ∙ wanted_again ws more);
  found = λ bytes y e. (ws, wanted_ok ws bytes y e, refl);
  place = wanted_err ws;
}

pub bytes_exact : (n : ℕ) → Exact (IsSkipped n) (bytes_at n)
bytes_exact n = record {
  there = λ text more is. (text, bytes_there n text more is);
  found = λ bytes y e. let o = bytes_ok n bytes y e in (take n bytes, regroup n bytes y.1 o.2, length-take-le n bytes o.0);
  place = λ bytes left e. (bytes_err n bytes left e).1;
}

pub big_exact : (n : ℕ) (test : ℕ → Bool) → Exact (IsBig n test) (passing_at test (big_at n))
big_exact n test = record {
  there = λ text more is.
      (big_number n text, passing_again test (big_at n) (text ++ more) (big_number n text) more (big_there n text more is.0) is.1);
  found = λ bytes y e.
      let t = passing_ok test (big_at n) bytes y e in
      let o = big_ok n bytes y t.0 in
      (take n bytes, regroup n bytes y.1 o.2, (length-take-le n bytes o.0, ap test (sym (big_taken n bytes o.0) ∙ o.1) ∙ t.1));
  place = λ bytes left e. passing_err test (big_at n) bytes left (λ l g. big_err n bytes l g) e;
}

pub little_exact : (n : ℕ) (test : ℕ → Bool) → Exact (IsLittle n test) (passing_at test (little_at n))
little_exact n test = record {
  there = λ text more is.
      (little_number n text, passing_again test (little_at n) (text ++ more) (little_number n text) more (little_there n text more is.0) is.1);
  found = λ bytes y e.
      let t = passing_ok test (little_at n) bytes y e in
      let o = little_ok n bytes y t.0 in
      (take n bytes, regroup n bytes y.1 o.2, (length-take-le n bytes o.0, ap test (sym (little_taken n bytes o.0) ∙ o.1) ∙ t.1));
  place = λ bytes left e. passing_err test (little_at n) bytes left (λ l g. little_err n bytes l g) e;
}

pub rest_count_exact : Exact CountsMore rest_count_at
rest_count_exact = record {
  there = λ text more is. (length more, ap (λ xs. rest_count_at (xs ++ more)) is ∙ rest_count_again more);
  found = λ bytes y e. (length y.1 ∷ [], rest_count_ok bytes y e, refl);
  place = rest_count_err;
}

pub count_exact : (form : Count) → Exact (IsSomeCount form) (count_at form)
count_exact form = record {
  there = λ text more is. (is.0, count_again form text is.0 more is.1);
  found = λ bytes y e. let c = count_ok form bytes y e in (c.0, c.2, (y.0, c.1));
  place = count_err form;
}

pub passing_count_exact : (form : Count) (test : ℕ → Bool) → Exact (IsTested form test) (passing_at test (count_at form))
passing_count_exact form test = record {
  there = λ text more is. (is.0, passing_again test (count_at form) (text ++ more) is.0 more (count_again form text is.0 more is.1.0) is.1.1);
  found = λ bytes y e.
      let t = passing_ok test (count_at form) bytes y e in
      let c = count_ok form bytes y t.0 in
      (c.0, c.2, (y.0, (c.1, t.1)));
  place = λ bytes left e. passing_err test (count_at form) bytes left (λ l g. count_err form bytes l g) e;
}
