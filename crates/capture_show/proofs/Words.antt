-- Digits that are all of lower case, and the bytes that they write.
use Rattle.std.proofs.Common.{◌≡◌, ℕ, zero, suc, ◌+◌, ◌-◌, ◌*◌, ◌/◌, ◌%◌, ◌<◌, Bool, true, false, List, Some, [], ◌∷◌, ◌++◌, length, get_or, take, refl, ap, sym, ◌∙◌, arith, append_assoc}
use Rattle.std.specs.Prelude.{◌==◌, nat_le, nat_lt, is_some, if◌then◌else◌}
use Rattle.std.specs.Char.{digit_char}
use Rattle.std.proofs.lemmas.Bool.{and_parts}
use Rattle.std.proofs.lemmas.Bool.Decides.{nat_tests}
use Rattle.std.proofs.lemmas.List.{take_more}
use Rattle.std.specs.List.{All}
use Rattle.std.proofs.lemmas.List.Elements.{All-nil, All-cons}
use Rattle.line_text.specs.Hexadecimal.{hexadecimal_text}
use Rattle.line_text.proofs.HexadecimalLemmas.{hexadecimal_text-append}
use Rattle.script_rules.specs.Script.{all_bytes}
use Rattle.script_rules.specs.Capture.{is_lower_digit, bytes_word}
use Rattle.script_rules.proofs.ReadBack.{bytes_word-text}

pub all_bytes-at : (test : ℕ → Bool) (xs : List ℕ) (i : ℕ) → all_bytes test xs ≡ true → i < length xs → test (get_or xs i 0) ≡ true
all_bytes-at test [] i e inside = absurd (omega (arith, inside))
all_bytes-at test (x ∷ xs) zero e inside = (and_parts (test x) (all_bytes test xs) e).0
all_bytes-at test (x ∷ xs) (suc i) e inside = all_bytes-at test xs i (and_parts (test x) (all_bytes test xs) e).1 (omega (arith, inside))

-- a byte more, with its digits
pub byte_more : (digits bytes : List ℕ) (at high low : ℕ) → length digits ≡ 2 * length bytes → at < length bytes → take (2 * at) digits ≡ hexadecimal_text (take at bytes)
    → digit_char high ≡ get_or digits (2 * at) 0 → digit_char low ≡ get_or digits (2 * at + 1) 0 → high < 16 → low < 16
    → take (2 * (at + 1)) digits ≡ hexadecimal_text (take at bytes ++ (16 * high + low) ∷ [])
byte_more digits bytes at high low room inside written first second small less =
    let place : 2 * (at + 1) ≡ (2 * at + 1) + 1 = omega arith in
    let h : (16 * high + low) / 16 ≡ high = omega (arith, small, less) in
    let l : (16 * high + low) % 16 ≡ low = omega (arith, small, less) in
    ap (λ n. take n digits) place
    ∙ take_more digits (2 * at + 1) 0 (omega (arith, room, inside))
    ∙ ap (λ xs. xs ++ get_or digits (2 * at + 1) 0 ∷ []) (take_more digits (2 * at) 0 (omega (arith, room, inside)))
    ∙ append_assoc (take (2 * at) digits) (get_or digits (2 * at) 0 ∷ []) (get_or digits (2 * at + 1) 0 ∷ [])
    ∙ ap (λ xs. xs ++ get_or digits (2 * at) 0 ∷ get_or digits (2 * at + 1) 0 ∷ []) written
    ∙ ap (λ x. hexadecimal_text (take at bytes) ++ x ∷ get_or digits (2 * at + 1) 0 ∷ []) (sym first ∙ ap digit_char (sym h))
    ∙ ap (λ x. hexadecimal_text (take at bytes) ++ digit_char ((16 * high + low) / 16) ∷ x ∷ []) (sym second ∙ ap digit_char (sym l))
    ∙ sym (hexadecimal_text-append (take at bytes) ((16 * high + low) ∷ []))

-- digits are of bytes
pub has_bytes : (bytes digits : List ℕ) → hexadecimal_text bytes ≡ digits → 0 < length digits → 0 < length bytes
has_bytes [] digits e some = let none : 0 ≡ length digits = ap length e in omega (arith, none, some)
has_bytes (b ∷ bytes) digits e some = omega arith

-- ---- a word that is digits writes bytes

abbrev value_of : ℕ → ℕ
value_of d = if nat_le d 57 then d - 48 else d - 87

digit_is : (d : ℕ) → is_lower_digit d ≡ true → digit_char (value_of d) ≡ d
digit_is d lower = grind (arith, nat_tests, lower)

value_is_small : (d : ℕ) → is_lower_digit d ≡ true → value_of d < 16
value_is_small d lower = grind (arith, nat_tests, lower)

-- the bytes that digits write
abbrev written : List ℕ → List ℕ
written [] = []
written (high ∷ []) = []
written (high ∷ low ∷ digits) = (16 * value_of high + value_of low) ∷ written digits

-- the digits of a byte of two values
byte_text : (high low h l : ℕ) (digits bytes : List ℕ) → digit_char h ≡ high → digit_char l ≡ low → h < 16 → l < 16 → hexadecimal_text bytes ≡ digits
    → hexadecimal_text ((16 * h + l) ∷ bytes) ≡ high ∷ low ∷ digits
byte_text high low h l digits bytes first second small less rest =
    let first_half : (16 * h + l) / 16 ≡ h = omega (arith, small, less) in
    let second_half : (16 * h + l) % 16 ≡ l = omega (arith, small, less) in
    ap (λ n. digit_char n ∷ digit_char ((16 * h + l) % 16) ∷ hexadecimal_text bytes) first_half
    ∙ ap (λ n. digit_char h ∷ digit_char n ∷ hexadecimal_text bytes) second_half
    ∙ ap (λ b. b ∷ digit_char l ∷ hexadecimal_text bytes) first
    ∙ ap (λ b. high ∷ b ∷ hexadecimal_text bytes) second
    ∙ ap (λ ds. high ∷ low ∷ ds) rest

written_text : (digits : List ℕ) → all_bytes is_lower_digit digits ≡ true → length digits % 2 ≡ 0 → hexadecimal_text (written digits) ≡ digits
written_text [] lower even = refl
written_text (high ∷ []) lower even = absurd (omega (arith, even))
written_text (high ∷ low ∷ digits) lower even =
    let one = and_parts (is_lower_digit high) (all_bytes is_lower_digit (low ∷ digits)) lower in
    let two = and_parts (is_lower_digit low) (all_bytes is_lower_digit digits) one.1 in
    byte_text high low (value_of high) (value_of low) digits (written digits) (digit_is high one.0) (digit_is low two.0)
    (value_is_small high one.0) (value_is_small low two.0) (written_text digits two.1 (omega (arith, even)))

written_small : (digits : List ℕ) → all_bytes is_lower_digit digits ≡ true → All (λ b. b < 256) (written digits)
written_small [] lower = All-nil (λ b. b < 256)
written_small (high ∷ []) lower = All-nil (λ b. b < 256)
written_small (high ∷ low ∷ digits) lower =
    let one = and_parts (is_lower_digit high) (all_bytes is_lower_digit (low ∷ digits)) lower in
    let two = and_parts (is_lower_digit low) (all_bytes is_lower_digit digits) one.1 in
    All-cons (λ b. b < 256) (16 * value_of high + value_of low) (written digits)
    (omega (arith, value_is_small high one.0, value_is_small low two.0)) (written_small digits two.1)

word_is : (word : List ℕ) → 0 < length word → length word % 2 ≡ 0 → all_bytes is_lower_digit word ≡ true → bytes_word word ≡ Some (written word)
word_is word some even lower =
    let text = written_text word lower even in
    ap bytes_word (sym text) ∙ bytes_word-text (written word) (has_bytes (written word) word text some) (written_small word lower)

-- where its number of digits is even, what decides is whether each is one
pub is_word : (word : List ℕ) → 0 < length word → length word % 2 ≡ 0 → all_bytes is_lower_digit word ≡ is_some (bytes_word word)
is_word word some even = by (all_bytes is_lower_digit word) refl
  where
    by : (test : Bool) → all_bytes is_lower_digit word ≡ test → test ≡ is_some (bytes_word word)
    by true e = sym (ap is_some (word_is word some even e))
    by false e =
        let long : nat_lt 0 (length word) ≡ true = grind (arith, nat_tests, some) in
        let halves : (length word % 2 == 0) ≡ true = grind (arith, nat_tests, even) in
        rw (long, halves, e) refl

-- a word that writes bytes has digits
pub word_has_digits : (word : List ℕ) → is_some (bytes_word word) ≡ true → 0 < length word
word_has_digits [] some = absurd (cc some)
word_has_digits (digit ∷ digits) some = omega arith
