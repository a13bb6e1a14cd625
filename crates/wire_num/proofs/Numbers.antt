-- Numbers that are written are read back, and a number in bytes is that of `byteorder`.
use Rattle.std.proofs.Common.{◌≡◌, ℕ, zero, suc, ◌+◌, ◌*◌, ◌/◌, ◌%◌, ◌^◌, ◌<◌, ◌≤◌, Bool, true, false, List, [], ◌∷◌, ◌++◌, length, take, drop, refl, ap, sym, ◌∙◌, arith, add-mul, mul_comm, mul_assoc, add_assoc}
use Rattle.std.specs.Prelude.{Ok, Err, ◌-◌, nat_lt, slice_index, if◌then◌else◌, All, ℤ, pos, negsuc, ◌-ℤ◌}
use Rattle.std.specs.Int.{byte_at, bytes_low_first, bytes_high_first}
use Rattle.std.proofs.lemmas.Bool.Decides.{nat_tests}
use Rattle.std.proofs.lemmas.Int.{ints}
use Rattle.std.proofs.lemmas.List.Elements.{All-nil, All-cons}
use Rattle.std.proofs.Math.Seq.{take-length}
use Rattle.std.proofs.Math.Nat.{div-div-eq-div-mul}
use Rattle.byteorder.specs.Endian.{little_bytes, big_bytes, little_number, little_from, big_number, big_from, twos_complement}
use Rattle.byteorder.proofs.Bytes.{pow256}
use Rattle.wire_num.specs.Field.{map_read, taken}
use Rattle.wire_num.specs.Number.{little_value, big_value, big_after, little_at, big_at, unsigned, IsSigned, little_signed, little_signed_at}
use Rattle.wire_num.proofs.Bytes.{taken_back, taken_enough, taken_few}

-- ---- the bytes of a number

length-low_first : (i n x : ℕ) → length (bytes_low_first i n x) ≡ n
length-low_first i zero x = refl
length-low_first i (suc n) x = ap suc (length-low_first (suc i) n x)

pub length-little : (n x : ℕ) → length (little_bytes n x) ≡ n
length-little n x = length-low_first 0 n x

pub length-big : (n x : ℕ) → length (big_bytes n x) ≡ n
length-big zero x = refl
length-big (suc n) x = ap suc (length-big n x)

byte_below : (i x : ℕ) → byte_at i x < 256
byte_below zero x = omega arith
byte_below (suc i) x = omega arith

low_first_are_bytes : (i n x : ℕ) → All (λ b. b < 256) (bytes_low_first i n x)
low_first_are_bytes i zero x = All-nil (λ b. b < 256)
low_first_are_bytes i (suc n) x = All-cons (λ b. b < 256) (byte_at i x) (bytes_low_first (suc i) n x) (byte_below i x) (low_first_are_bytes (suc i) n x)

pub little_are_bytes : (n x : ℕ) → All (λ b. b < 256) (little_bytes n x)
little_are_bytes n x = low_first_are_bytes 0 n x

pub big_are_bytes : (n x : ℕ) → All (λ b. b < 256) (big_bytes n x)
big_are_bytes zero x = All-nil (λ b. b < 256)
big_are_bytes (suc n) x = All-cons (λ b. b < 256) (byte_at n x) (big_bytes n x) (byte_below n x) (big_are_bytes n x)

-- ---- read back

byte_is : (i x : ℕ) → byte_at i x ≡ x / 256 ^ i % 256
byte_is zero x = omega arith
byte_is (suc i) x = refl

next_byte : (i x : ℕ) → x / 256 ^ i / 256 ≡ x / 256 ^ suc i
next_byte i x = div-div-eq-div-mul x (256 ^ i) 256 ∙ ap (λ z. x / z) (grind arith)

low_first_back : (i n x : ℕ) → x / 256 ^ i < 256 ^ n → little_value (bytes_low_first i n x) ≡ x / 256 ^ i
low_first_back i zero x h = omega (arith, h)
low_first_back i (suc n) x h =
    let power : 256 ^ suc n ≡ 256 * 256 ^ n = grind arith in
    let next = next_byte i x in
    let below : x / 256 ^ suc i < 256 ^ n = omega (arith, power, h, next) in
    ap (λ b. b + 256 * little_value (bytes_low_first (suc i) n x)) (byte_is i x)
    ∙ ap (λ y. x / 256 ^ i % 256 + 256 * y) (low_first_back (suc i) n x below ∙ sym next) ∙ omega arith

-- the bytes of a number give it back
pub little_back : (n x : ℕ) → x < 256 ^ n → little_value (little_bytes n x) ≡ x
little_back n x h =
    let whole : x / 256 ^ 0 ≡ x = omega arith in
    low_first_back 0 n x (omega (arith, h, whole)) ∙ whole

-- a number's high part and its lowest bytes, the highest of them first
high_first_back : (n x : ℕ) → big_after (x / 256 ^ n) (bytes_high_first n x) ≡ x
high_first_back zero x = omega arith
high_first_back (suc n) x =
    let next : 256 * (x / 256 ^ suc n) + byte_at n x ≡ x / 256 ^ n = ap (λ y. 256 * y + byte_at n x) (sym (next_byte n x)) ∙ ap (λ b. 256 * (x / 256 ^ n / 256) + b) (byte_is n x) ∙ omega arith in
    ap (λ y. big_after y (bytes_high_first n x)) next ∙ high_first_back n x

pub big_back : (n x : ℕ) → x < 256 ^ n → big_value (big_bytes n x) ≡ x
big_back n x h =
    let none : 0 ≡ x / 256 ^ n = grind (arith, h) in
    ap (λ y. big_after y (bytes_high_first n x)) none ∙ high_first_back n x

bytes_taken : (n : ℕ) (whole xs rest : List ℕ) → length xs ≡ n → taken whole n (xs ++ rest) ≡ Ok (xs, rest)
bytes_taken n whole xs rest e = ap (λ m. taken whole m (xs ++ rest)) (sym e) ∙ taken_back whole xs rest

-- a number's field
pub little_at_back : (n x : ℕ) (rest : List ℕ) → x < 256 ^ n → little_at n (little_bytes n x ++ rest) ≡ Ok (x, rest)
little_at_back n x rest h =
    ap (map_read little_value) (bytes_taken n (little_bytes n x ++ rest) (little_bytes n x) rest (length-little n x)) ∙ ap (λ y. Ok (y, rest)) (little_back n x h)

pub big_at_back : (n x : ℕ) (rest : List ℕ) → x < 256 ^ n → big_at n (big_bytes n x ++ rest) ≡ Ok (x, rest)
big_at_back n x rest h =
    ap (map_read big_value) (bytes_taken n (big_bytes n x ++ rest) (big_bytes n x) rest (length-big n x)) ∙ ap (λ y. Ok (y, rest)) (big_back n x h)

-- half of the numbers of n bytes stand for negative ones
half : (n : ℕ) → 1 ≤ n → 256 ^ n ≡ 2 * 2 ^ (8 * n - 1)
half zero h = absurd (omega (arith, h))
half (suc n) h =
    let next : 8 * suc n ≡ suc (8 * suc n - 1) = omega arith in
    pow256 (suc n) ∙ ap (λ k. 2 ^ k) next ∙ grind arith

signed_is : (n : ℕ) (z : ℤ) → 1 ≤ n → IsSigned n z → twos_complement n (unsigned n z) ≡ z
signed_is n (pos x) some h =
    let low : nat_lt x (2 ^ (8 * n - 1)) ≡ true = grind (arith, nat_tests, h) in
    ap (λ t. if t then pos x else pos x -ℤ pos (2 ^ (8 * n))) low
signed_is n (negsuc x) some h =
    let size = half n some in
    let whole : 2 ^ (8 * n) ≡ 256 ^ n = sym (pow256 n) in
    let high : nat_lt (256 ^ n - suc x) (2 ^ (8 * n - 1)) ≡ false = grind (arith, nat_tests, h, size) in
    let value : pos (256 ^ n - suc x) -ℤ pos (256 ^ n) ≡ negsuc x = grind (arith, ints, h, size) in
    ap (λ t. if t then pos (256 ^ n - suc x) else pos (256 ^ n - suc x) -ℤ pos (2 ^ (8 * n))) high
    ∙ ap (λ p. pos (256 ^ n - suc x) -ℤ pos p) whole ∙ value

signed_below : (n : ℕ) (z : ℤ) → 1 ≤ n → IsSigned n z → unsigned n z < 256 ^ n
signed_below n (pos x) some h = omega (arith, h, half n some)
signed_below n (negsuc x) some h = omega (arith, h, half n some)

pub little_signed_at_back : (n : ℕ) (z : ℤ) (rest : List ℕ) → 1 ≤ n → IsSigned n z → little_signed_at n (little_signed n z ++ rest) ≡ Ok (z, rest)
little_signed_at_back n z rest some h =
    ap (map_read (λ x. twos_complement n x)) (little_at_back n (unsigned n z) rest (signed_below n z some h)) ∙ ap (λ y. Ok (y, rest)) (signed_is n z some h)

-- a field of one byte
pub byte_at_back : (b : ℕ) (rest : List ℕ) → little_at 1 (b ∷ rest) ≡ Ok (b, rest)
byte_at_back b rest = let same : b + 256 * 0 ≡ b = omega arith in ap (λ n. Ok (n, rest)) same

-- ---- byteorder's numbers

little_next : (i n x : ℕ) (xs : List ℕ) → little_from (suc i) n (x ∷ xs) ≡ little_from i n xs
little_next i zero x xs = refl
little_next i (suc n) x xs = ap (λ y. slice_index xs i + 256 * y) (little_next (suc i) n x xs)

big_next : (i n x : ℕ) (xs : List ℕ) → big_from (suc i) n (x ∷ xs) ≡ big_from i n xs
big_next i zero x xs = refl
big_next i (suc n) x xs = ap (λ y. slice_index xs i * 256 ^ n + y) (big_next (suc i) n x xs)

-- the number in the first bytes
pub little_front : (n : ℕ) (bs : List ℕ) → n ≤ length bs → little_value (take n bs) ≡ little_number n bs
little_front zero bs h = refl
little_front (suc n) [] h = absurd (omega (arith, h))
little_front (suc n) (b ∷ bs) h = ap (λ y. b + 256 * y) (little_front n bs (omega (arith, h)) ∙ sym (little_next 0 n b bs))

shifted : (a b p : ℕ) → (256 * a + b) * p ≡ a * (256 * p) + b * p
shifted a b p = add-mul (256 * a) b p ∙ ap (λ y. y + b * p) (ap (λ y. y * p) (mul_comm 256 a) ∙ mul_assoc a 256 p)

big_front_after : (n a : ℕ) (bs : List ℕ) → n ≤ length bs → big_after a (take n bs) ≡ a * 256 ^ n + big_number n bs
big_front_after zero a bs h = omega arith
big_front_after (suc n) a [] h = absurd (omega (arith, h))
big_front_after (suc n) a (b ∷ bs) h =
    let power : 256 * 256 ^ n ≡ 256 ^ suc n = grind arith in
    big_front_after n (256 * a + b) bs (omega (arith, h))
    ∙ ap (λ y. y + big_number n bs) (shifted a b (256 ^ n) ∙ ap (λ p. a * p + b * 256 ^ n) power)
    ∙ add_assoc (a * 256 ^ suc n) (b * 256 ^ n) (big_number n bs)
    ∙ ap (λ y. a * 256 ^ suc n + (b * 256 ^ n + y)) (sym (big_next 0 n b bs))

pub big_front : (n : ℕ) (bs : List ℕ) → n ≤ length bs → big_value (take n bs) ≡ big_number n bs
big_front n bs h = big_front_after n 0 bs h ∙ omega arith

-- all bytes of a list
pub little_number_is : (bs : List ℕ) → little_number (length bs) bs ≡ little_value bs
little_number_is bs = sym (little_front (length bs) bs (omega arith)) ∙ ap little_value (take-length bs)

pub big_number_is : (bs : List ℕ) → big_number (length bs) bs ≡ big_value bs
big_number_is bs = sym (big_front (length bs) bs (omega arith)) ∙ ap big_value (take-length bs)

little_by : (short : Bool) (n : ℕ) (bs : List ℕ) → nat_lt (length bs) n ≡ short → little_at n bs ≡ (if short then Err bs else Ok (little_number n bs, drop n bs))
little_by true n bs e = ap (map_read little_value) (taken_few n bs bs (grind (arith, nat_tests, e)))
little_by false n bs e =
    let enough : n ≤ length bs = grind (arith, nat_tests, e) in
    ap (map_read little_value) (taken_enough n bs bs enough) ∙ ap (λ x. Ok (x, drop n bs)) (little_front n bs enough)

-- a test of the length, and the number in the first bytes
pub little_at_is : (n : ℕ) (bs : List ℕ) → little_at n bs ≡ (if nat_lt (length bs) n then Err bs else Ok (little_number n bs, drop n bs))
little_at_is n bs = little_by (nat_lt (length bs) n) n bs refl

big_by : (short : Bool) (n : ℕ) (bs : List ℕ) → nat_lt (length bs) n ≡ short → big_at n bs ≡ (if short then Err bs else Ok (big_number n bs, drop n bs))
big_by true n bs e = ap (map_read big_value) (taken_few n bs bs (grind (arith, nat_tests, e)))
big_by false n bs e =
    let enough : n ≤ length bs = grind (arith, nat_tests, e) in
    ap (map_read big_value) (taken_enough n bs bs enough) ∙ ap (λ x. Ok (x, drop n bs)) (big_front n bs enough)

pub big_at_is : (n : ℕ) (bs : List ℕ) → big_at n bs ≡ (if nat_lt (length bs) n then Err bs else Ok (big_number n bs, drop n bs))
big_at_is n bs = big_by (nat_lt (length bs) n) n bs refl
