-- Colours of six hexadecimal digits.
use Rattle.std.proofs.Common.{◌≡◌, ℕ, zero, suc, ◌+◌, ◌*◌, ◌^◌, ◌<◌, ◌≤◌, List, [], ◌∷◌, length, take, drop, refl, ap, sym, ◌∙◌, subst, arith, Some, None, Bool, true, false, replicate, get_or, IsTrue}
use Rattle.std.specs.Prelude.{Option, ⊤, IfSome, IfOk, Result, Ok, Err, option_map, ◌==◌, if◌then◌else◌}
use Rattle.std.specs.Bool.{then_some}
use Rattle.std.specs.Char.{is_digit, digit_value}
use Rattle.std.proofs.Math.Nat.{mul-le-mul_right, mul_assoc, mul_comm, pow-succ'}
use Rattle.std.proofs.lemmas.Bool.{and_from, and_parts}
use Rattle.std.proofs.lemmas.Bool.Decides.{nat_tests}
use Rattle.px_core.specs.Colors.{is_color, are_colors}
use Rattle.line_text.specs.Numbers.{digits_behind}
use Rattle.line_text.specs.Hexadecimal.{hexadecimal_of, hexadecimals, hexadecimals_of, with_first}

-- what holds of a value that may be missing, where it is there
abbrev pub Found : {A : Type 0} → Option A → (A → Type 0) → Type 0
Found None P = ⊤
Found (Some a) P = P a

weaker : (P Q : ℕ → Type 0) (o : Option ℕ) → ((n : ℕ) → P n → Q n) → Found o P → Found o Q
weaker P Q None f h = tt
weaker P Q (Some n) f h = f n h

room : (n d m k : ℕ) → d < 16 → m < ((16 * n + d) + 1) * 16 ^ k → m < (n + 1) * 16 ^ suc k
room n d m k low h =
    let more : ((16 * n + d) + 1) * 16 ^ k ≤ (16 * (n + 1)) * 16 ^ k = mul-le-mul_right (16 ^ k) (omega (arith, low)) in
    let same : (n + 1) * (16 * 16 ^ k) ≡ (16 * (n + 1)) * 16 ^ k = sym (mul_assoc (n + 1) 16 (16 ^ k)) ∙ ap (λ x. x * 16 ^ k) (mul_comm (n + 1) 16) in
    let power : (n + 1) * 16 ^ suc k ≡ (n + 1) * (16 * 16 ^ k) = ap (λ x. (n + 1) * x) (pow-succ' 16 k) in
    omega (arith, h, more, same, power)

digits_by : (n b : ℕ) (bs : List ℕ) (t : Bool) → is_digit b 16 ≡ t → Found (digits_behind 16 (16 * n + digit_value b) bs) (λ m. m < ((16 * n + digit_value b) + 1) * 16 ^ length bs)
    → Found (if t then digits_behind 16 (16 * n + digit_value b) bs else None) (λ m. m < (n + 1) * 16 ^ suc (length bs))
digits_by n b bs true e rest = let low : digit_value b < 16 = grind (arith, nat_tests, e) in
    weaker (λ m. m < ((16 * n + digit_value b) + 1) * 16 ^ length bs) (λ m. m < (n + 1) * 16 ^ suc (length bs)) (digits_behind 16 (16 * n + digit_value b) bs)
    (λ m h. room n (digit_value b) m (length bs) low h) rest
digits_by n b bs false e rest = tt

digits_below : (n : ℕ) (bs : List ℕ) → Found (digits_behind 16 n bs) (λ m. m < (n + 1) * 16 ^ length bs)
digits_below n [] = omega arith
digits_below n (b ∷ bs) = digits_by n b bs (is_digit b 16) refl (digits_below (16 * n + digit_value b) bs)

is_a_color : (n : ℕ) → n < 2 ^ 24 → is_color n ≡ true
is_a_color n h = grind (arith, nat_tests, h)

-- six digits write a colour
pub six_digits : (word : List ℕ) → Found (hexadecimal_of 6 word) (λ n. is_color n ≡ true)
six_digits word = by (length word == 6) refl
  where
    by : (t : Bool) → (length word == 6) ≡ t → Found (if t then digits_behind 16 0 word else None) (λ n. is_color n ≡ true)
    by true e = let long : length word ≡ 6 = grind (arith, nat_tests, e) in
        weaker (λ m. m < (0 + 1) * 16 ^ length word) (λ m. is_color m ≡ true) (digits_behind 16 0 word)
        (λ m h. let power : 16 ^ length word ≡ 16 ^ 6 = ap (λ k. 16 ^ k) long in is_a_color m (omega (arith, h, power))) (digits_below 0 word)
    by false e = tt

with_first_colors : (first : Option ℕ) (rest : Option (List ℕ)) → Found first (λ n. is_color n ≡ true) → Found rest (λ ns. are_colors ns ≡ true) → Found (with_first first rest) (λ ns. are_colors ns ≡ true)
with_first_colors None rest hf hr = tt
with_first_colors (Some n) None hf hr = tt
with_first_colors (Some n) (Some ns) hf hr = and_from (is_color n) (are_colors ns) hf hr

empty_colors : (t : Bool) → Found (then_some t []) (λ ns. are_colors ns ≡ true)
empty_colors true = refl
empty_colors false = tt

all_colors : (count : ℕ) (word : List ℕ) → Found (hexadecimals count 6 word) (λ ns. are_colors ns ≡ true)
all_colors zero word = empty_colors (length word == 0)
all_colors (suc count) word = with_first_colors (hexadecimal_of 6 (take 6 word)) (hexadecimals count 6 (drop 6 word)) (six_digits (take 6 word)) (all_colors count (drop 6 word))

pub colors_of_digits : (word : List ℕ) → Found (hexadecimals_of 6 word) (λ ns. are_colors ns ≡ true)
colors_of_digits word = all_colors _ word

-- numbers of six digits each are colours
pub colors_of : (word : List ℕ) (o : Option (List ℕ)) → o ≡ hexadecimals_of 6 word → Found o (λ ns. are_colors ns ≡ true)
colors_of word o e = subst (λ p. Found p (λ ns. are_colors ns ≡ true)) (sym e) (all_colors _ word)

-- one colour again and again
pub one_color : (n color : ℕ) → IsTrue (are_colors (color ∷ [])) → IsTrue (are_colors (replicate n color))
one_color zero color h = refl
one_color (suc n) color h = and_from (is_color color) (are_colors (replicate n color)) (and_parts (is_color color) true h).0 (one_color n color h)

if_colors : {A : Type 0} (items : A → List ℕ) (word : List ℕ) (o : Option A) → option_map items o ≡ hexadecimals_of 6 word → IfSome o (λ a. IsTrue (are_colors (items a)))
if_colors items word None e = tt
if_colors items word (Some a) e = colors_of word (Some (items a)) e

-- numbers of six digits each that were read are colours
pub read_are_colors : {A E : Type 0} (items : A → List ℕ) (word : List ℕ) (r : Result (Option A) E) → IfOk r (λ found. option_map items found ≡ hexadecimals_of 6 word)
    → IfOk r (λ found. IfSome found (λ a. IsTrue (are_colors (items a))))
read_are_colors items word (Ok o) h = if_colors items word o h
read_are_colors items word (Err e) h = tt

-- the first of some colours, again and again
pub first_color : (n : ℕ) (colors : List ℕ) → 1 ≤ length colors → IsTrue (are_colors colors) → IsTrue (are_colors (replicate n (get_or colors 0 0)))
first_color n [] some h = let none : ⊥ = omega (arith, some) in absurd none
first_color n (color ∷ colors) some h = one_color n color (and_from (is_color color) true (and_parts (is_color color) (are_colors colors) h).0 refl)
