-- A field of so many bytes: what was written is read, and reading is a test of the length.
use Rattle.std.proofs.Common.{◌≡◌, ℕ, zero, suc, ◌<◌, ◌≤◌, Bool, true, false, List, [], ◌∷◌, ◌++◌, length, take, drop, refl, ap, sym, arith, Ok, Err}
use Rattle.std.specs.Prelude.{nat_lt, nat_eq, ◌==◌, ◌&&◌, if◌then◌else◌}
use lib.Pointwise.{pointwise}
use Rattle.std.specs.List.{starts_with}
use Rattle.std.proofs.lemmas.Bool.Decides.{nat_tests}
use Rattle.wire_num.specs.Field.{Read, map_read, kept, taken, bytes_at, wanted_from, wanted}

pub taken_back : (whole xs rest : List ℕ) → taken whole (length xs) (xs ++ rest) ≡ Ok (xs, rest)
taken_back whole [] rest = refl
taken_back whole (x ∷ xs) rest = ap (map_read (λ ys. x ∷ ys)) (taken_back whole xs rest)

pub taken_all : (whole xs : List ℕ) → taken whole (length xs) xs ≡ Ok (xs, [])
taken_all whole [] = refl
taken_all whole (x ∷ xs) = ap (map_read (λ ys. x ∷ ys)) (taken_all whole xs)

pub taken_enough : (n : ℕ) (whole bs : List ℕ) → n ≤ length bs → taken whole n bs ≡ Ok (take n bs, drop n bs)
taken_enough zero whole bs h = refl
taken_enough (suc n) whole [] h = absurd (omega (arith, h))
taken_enough (suc n) whole (b ∷ bs) h = ap (map_read (λ xs. b ∷ xs)) (taken_enough n whole bs (omega (arith, h)))

pub taken_few : (n : ℕ) (whole bs : List ℕ) → length bs < n → taken whole n bs ≡ Err whole
taken_few zero whole bs h = absurd (omega (arith, h))
taken_few (suc n) whole [] h = refl
taken_few (suc n) whole (b ∷ bs) h = ap (map_read (λ xs. b ∷ xs)) (taken_few n whole bs (omega (arith, h)))

-- a field cut off as two pieces
pub taken_split : (n : ℕ) (bs front back : List ℕ) → n ≤ length bs → front ≡ take n bs → back ≡ drop n bs → Ok (front, back) ≡ taken bs n bs
taken_split n bs front back h f b = rw (f, b) (sym (taken_enough n bs bs h))

bytes_by : (short : Bool) (n : ℕ) (bs : List ℕ) → nat_lt (length bs) n ≡ short → bytes_at n bs ≡ (if short then Err bs else Ok (take n bs, drop n bs))
bytes_by true n bs e = taken_few n bs bs (grind (arith, nat_tests, e))
bytes_by false n bs e = taken_enough n bs bs (grind (arith, nat_tests, e))

kept_by : (t p : Bool) (read : Read (List ℕ)) (whole : List ℕ) (v : List ℕ × List ℕ) →
    read ≡ (if p then Ok v else Err whole) → kept t read whole ≡ (if t && p then Ok v else Err whole)
kept_by true p read whole v e = e
kept_by false p read whole v e = refl

wanted_by : (whole ws bs : List ℕ) →
    wanted_from whole ws bs ≡ (if pointwise nat_eq ws (take (length ws) bs) then Ok ([], drop (length ws) bs) else Err whole)
wanted_by whole [] bs = refl
wanted_by whole (w ∷ ws) [] = refl
wanted_by whole (w ∷ ws) (b ∷ bs) =
    kept_by (w == b) (pointwise nat_eq ws (take (length ws) bs)) (wanted_from whole ws bs) whole ([], drop (length ws) bs) (wanted_by whole ws bs)

-- certain bytes are a test of the front
pub wanted_is : (ws bs : List ℕ) → wanted ws bs ≡ (if starts_with nat_eq bs ws then Ok ([], drop (length ws) bs) else Err bs)
wanted_is ws bs = wanted_by bs ws bs

-- a test of the length, and the first bytes
pub bytes_at_is : (n : ℕ) (bs : List ℕ) → bytes_at n bs ≡ (if nat_lt (length bs) n then Err bs else Ok (take n bs, drop n bs))
bytes_at_is n bs = bytes_by (nat_lt (length bs) n) n bs refl
