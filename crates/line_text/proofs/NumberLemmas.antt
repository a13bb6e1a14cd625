-- How long numbers and lines of words are.
use Rattle.std.proofs.Common.{◌≡◌, ℕ, suc, ◌+◌, ◌*◌, ◌^◌, ◌<◌, ◌≤◌, Bool, true, false, cond, List, [], ◌∷◌, ◌++◌, length, Some, None, sym, ap, ◌∙◌, refl, arith, length-append}
use Rattle.std.specs.Prelude.{◌==◌}
use Rattle.std.specs.List.{join_with_byte}
use Rattle.std.specs.Char.{is_digit, digit_value}
use Rattle.std.proofs.Math.Nat.{pow-le-pow_right, pow-suc}
use Rattle.std.proofs.lemmas.Bool.Decides.{nat_tests}
use Rattle.std.proofs.lemmas.List.Splits.{join_with_byte-slice_split}
use Rattle.line_text.specs.Words.{words_of}
use Rattle.line_text.specs.Numbers.{digits_behind, number_of}

-- each digit makes a number ten times as large
grown : (n d rest m : ℕ) → (10 * n + d) * rest ≤ m → n * (rest * 10) ≤ m
grown n d rest m le = grind arith

grown_by : (n m len : ℕ) (b : ℕ) (bs : List ℕ) (test : Bool) → cond test (digits_behind 10 (10 * n + digit_value b) bs) None ≡ Some m →
    (digits_behind 10 (10 * n + digit_value b) bs ≡ Some m → (10 * n + digit_value b) * 10 ^ len ≤ m) → n * 10 ^ suc len ≤ m
grown_by n m len b bs true e next = rw (pow-suc) (grown n (digit_value b) (10 ^ len) m (next e))
grown_by n m len b bs false e next = cc

digits_grow : (n m : ℕ) (bs : List ℕ) → digits_behind 10 n bs ≡ Some m → n * 10 ^ length bs ≤ m
digits_grow n m [] e = let same : n ≡ m = cc in omega (arith, same)
digits_grow n m (b ∷ bs) e = grown_by n m (length bs) b bs (is_digit b 10) e (λ h. digits_grow (10 * n + digit_value b) m bs h)

-- a first digit that isn't 0
first_digit : (b : ℕ) → (b == 48) ≡ false → is_digit b 10 ≡ true → 1 ≤ digit_value b
first_digit b other digit = grind (arith, nat_tests)

shorter : (len k power m d : ℕ) → (suc k ≤ len → 10 ^ suc k ≤ power) → 1 ≤ d → d * power ≤ m → m < 10 ^ suc k → suc len ≤ suc k
shorter len k power m d far some le lt = let least : power ≤ m = grind arith in grind (arith, far)

short_by : (b m k : ℕ) (rest : List ℕ) (test : Bool) → is_digit b 10 ≡ test → (b == 48) ≡ false → cond test (digits_behind 10 (10 * 0 + digit_value b) rest) None ≡ Some m →
    m < 10 ^ suc k → suc (length rest) ≤ suc k
short_by b m k rest true digit other e lt =
    let some : 0 < 10 = omega arith in
    let first : 1 ≤ 10 * 0 + digit_value b = omega (arith, first_digit b other digit) in
    shorter (length rest) k (10 ^ length rest) m (10 * 0 + digit_value b) (λ far. pow-le-pow_right some far) first (digits_grow (10 * 0 + digit_value b) m rest e) lt
short_by b m k rest false digit other e lt = cc

short_number : (b m k : ℕ) (rest : List ℕ) (test : Bool) → (b == 48) ≡ test → cond test None (digits_behind 10 0 (b ∷ rest)) ≡ Some m → m < 10 ^ suc k → suc (length rest) ≤ suc k
short_number b m k rest true other e lt = cc
short_number b m k rest false other e lt = short_by b m k rest (is_digit b 10) refl other e lt

-- a number below a power of ten has no more digits than that
pub number_is_short : (word : List ℕ) (m k : ℕ) → number_of word ≡ Some m → m < 10 ^ suc k → length word ≤ suc k
number_is_short [] m k e lt = omega arith
number_is_short (b ∷ []) m k e lt = omega arith
number_is_short (b ∷ c ∷ bs) m k e lt = short_number b m k (c ∷ bs) (b == 48) refl e lt

-- a line of three words is as long as these and two spaces
pub length-three_words : (line first second third : List ℕ) → words_of line ≡ first ∷ second ∷ third ∷ [] → length line ≡ length first + length second + length third + 2
length-three_words line first second third is =
    let whole : first ++ 32 ∷ (second ++ 32 ∷ third) ≡ line = ap (join_with_byte 32) (sym is) ∙ join_with_byte-slice_split 32 line in
    omega (arith, ap length whole, length-append first (32 ∷ (second ++ 32 ∷ third)), length-append second (32 ∷ third))
