-- Steps of reading, and the numbers of the first bytes.
use Rattle.std.proofs.Common.{◌≡◌, ℕ, zero, suc, ◌+◌, ◌*◌, ◌^◌, ◌≤◌, Bool, true, false, cond, List, [], ◌∷◌, ◌++◌, length, take, drop, refl, ap, sym, ◌∙◌, arith}
use Rattle.std.specs.Prelude.{nat_lt, ◌==◌, Ok, Err, slice_index}
use Rattle.std.proofs.lemmas.Bool.Decides.{nat_tests}
use Rattle.std.proofs.lemmas.List.{take-append-drop, length-take-le}
use Rattle.std.proofs.Math.ListN.{get_or-append}
use Rattle.byteorder.specs.Endian.{big_number, big_from, little_number, little_from}
use Rattle.wire_num.specs.FieldValue.{as_one_field, end_at}
use Rattle.wire_num.specs.Field.{Read, then_read, map_read}

-- ---- steps of reading

pub then_ok : {A B : Type 0} (r : Read A) (f : A → List ℕ → Read B) (y : B × List ℕ) → then_read r f ≡ Ok y → (v : A × List ℕ) × (r ≡ Ok v) × (f v.0 v.1 ≡ Ok y)
then_ok (Ok v) f y e = (v, refl, e)
then_ok (Err left) f y e = absurd (let h : ⊥ = cc in h)

pub map_ok : {A B : Type 0} (f : A → B) (r : Read A) (y : B × List ℕ) → map_read f r ≡ Ok y → (v : A × List ℕ) × (r ≡ Ok v) × (f v.0 ≡ y.0) × (v.1 ≡ y.1)
map_ok f (Ok v) y e = let h : (f v.0, v.1) ≡ y = cc in (v, refl, ap (λ p. p.0) h, ap (λ p. p.1) h)
map_ok f (Err left) y e = absurd (let h : ⊥ = cc in h)

pub short_ok : {A : Type 0} (b : Bool) (bs : List ℕ) (x y : A × List ℕ) → cond b (Err bs) (Ok x) ≡ Ok y → (b ≡ false) × (x ≡ y)
short_ok true bs x y e = absurd (let h : ⊥ = cc in h)
short_ok false bs x y e = (refl, cc)

pub passed_ok : {A : Type 0} (b : Bool) (bs : List ℕ) (x y : A × List ℕ) → cond b (Ok x) (Err bs) ≡ Ok y → (b ≡ true) × (x ≡ y)
passed_ok true bs x y e = (refl, cc)
passed_ok false bs x y e = absurd (let h : ⊥ = cc in h)

pub one_ok : {A : Type 0} (whole : List ℕ) (r : Read A) (y : A × List ℕ) → as_one_field whole r ≡ Ok y → r ≡ Ok y
one_ok whole (Ok v) y e = e
one_ok whole (Err left) y e = absurd (let h : ⊥ = cc in h)

pub fits : (n m : ℕ) → nat_lt m n ≡ false → n ≤ m
fits n m e = grind (arith, nat_tests, e)

pub not_short : (n m : ℕ) → n ≤ m → nat_lt m n ≡ false
not_short n m h = grind (arith, nat_tests, h)

pub same_count : (n m : ℕ) → (n == m) ≡ true → n ≡ m
same_count n m e = grind (arith, nat_tests, e)

pub counts : (n : ℕ) → (n == n) ≡ true
counts n = grind (arith, nat_tests)

-- ---- numbers of the first bytes

pub big_front_from : (i n : ℕ) (xs ys : List ℕ) → i + n ≤ length xs → big_from i n (xs ++ ys) ≡ big_from i n xs
big_front_from i zero xs ys h = refl
big_front_from i (suc n) xs ys h =
    ap (λ b. b * 256 ^ n + big_from (suc i) n (xs ++ ys)) (get_or-append xs ys 0 i (omega (arith, h)))
    ∙ ap (λ k. slice_index xs i * 256 ^ n + k) (big_front_from (suc i) n xs ys (omega (arith, h)))

pub big_front : (n : ℕ) (xs ys : List ℕ) → n ≤ length xs → big_number n (xs ++ ys) ≡ big_number n xs
big_front n xs ys h = big_front_from 0 n xs ys (omega (arith, h))

pub little_front_from : (i n : ℕ) (xs ys : List ℕ) → i + n ≤ length xs → little_from i n (xs ++ ys) ≡ little_from i n xs
little_front_from i zero xs ys h = refl
little_front_from i (suc n) xs ys h =
    ap (λ b. b + 256 * little_from (suc i) n (xs ++ ys)) (get_or-append xs ys 0 i (omega (arith, h)))
    ∙ ap (λ k. slice_index xs i + 256 * k) (little_front_from (suc i) n xs ys (omega (arith, h)))

pub little_front : (n : ℕ) (xs ys : List ℕ) → n ≤ length xs → little_number n (xs ++ ys) ≡ little_number n xs
little_front n xs ys h = little_front_from 0 n xs ys (omega (arith, h))

pub big_taken : (n : ℕ) (bs : List ℕ) → n ≤ length bs → big_number n bs ≡ big_number n (take n bs)
big_taken n bs h =
    ap (big_number n) (sym (take-append-drop n bs)) ∙ big_front n (take n bs) (drop n bs) (omega (arith, length-take-le n bs h))

pub little_taken : (n : ℕ) (bs : List ℕ) → n ≤ length bs → little_number n bs ≡ little_number n (take n bs)
little_taken n bs h =
    ap (little_number n) (sym (take-append-drop n bs)) ∙ little_front n (take n bs) (drop n bs) (omega (arith, length-take-le n bs h))

-- ---- the end, as a test of the length

pub end_is : (bs : List ℕ) → end_at bs ≡ cond (length bs == 0) (Ok ([], bs)) (Err bs)
end_is [] = refl
end_is (b ∷ bs) = let some : (length (b ∷ bs) == 0) ≡ false = grind (arith, nat_tests) in rw some refl
