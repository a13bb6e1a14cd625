-- What is written in a capture is read back: its lines, its words, and the bytes of its hexadecimal lines.
use Rattle.std.proofs.Common.{◌≡◌, ℕ, ◌+◌, ◌*◌, ◌/◌, ◌%◌, ◌<◌, List, [], ◌∷◌, ◌++◌, length, refl, ap, ◌∙◌, arith, Some, true, false, append_assoc}
use Rattle.std.specs.Prelude.{◌==◌, nat_lt, All}
use Rattle.std.specs.Char.{digit_char, is_digit}
use Rattle.std.proofs.lemmas.Bool.Decides.{nat_tests}
use Rattle.std.proofs.lemmas.Str.{digit_value-digit_char}
use Rattle.std.proofs.lemmas.List.Splits.{slice_split_at, slice_split_none, length-slice_split}
use Rattle.std.proofs.lemmas.List.Elements.{All-nil, All-cons, All-head, All-tail}
use Rattle.std.specs.List.{slice_split}
use Rattle.line_text.specs.Lines.{line_feed, lines_of, lines_of_parts}
use Rattle.line_text.specs.Words.{words_of}
use Rattle.line_text.specs.Hexadecimal.{hexadecimal_of, hexadecimals, hexadecimal_text, with_first}
use Rattle.script_rules.specs.Script.{all_bytes}
use Rattle.script_rules.specs.Capture.{ended, is_lower_digit, bytes_word}

-- no byte of a text is this one
abbrev pub Lacks : ℕ → List ℕ → Type 0
Lacks byte text = All (λ b. (b == byte) ≡ false) text

-- ---- lines

-- a part before others is an ended line
before_others : (text : List ℕ) (parts : List (List ℕ)) → 0 < length parts → lines_of_parts (text ∷ parts) ≡ record { text = text; ended = true } ∷ lines_of_parts parts
before_others text [] h = absurd (omega arith)
before_others text (part ∷ parts) h = refl

-- an ended line at the front of a text
pub lines_of-ended : (text more : List ℕ) → Lacks line_feed text → lines_of (ended text ++ more) ≡ record { text = text; ended = true } ∷ lines_of more
lines_of-ended text more clean =
    ap lines_of (append_assoc text (line_feed ∷ []) more)
    ∙ ap lines_of_parts (slice_split_at (λ b. b == line_feed) text line_feed more clean refl)
    ∙ before_others text (slice_split (λ b. b == line_feed) more) (omega (arith, length-slice_split (λ b. b == line_feed) more))

-- ---- words

pub words_of-first : (word rest : List ℕ) → Lacks 32 word → words_of (word ++ 32 ∷ rest) ≡ word ∷ words_of rest
words_of-first word rest clean = slice_split_at (λ b. b == 32) word 32 rest clean refl

pub words_of-last : (word : List ℕ) → Lacks 32 word → words_of word ≡ word ∷ []
words_of-last word clean = slice_split_none (λ b. b == 32) word clean

-- ---- hexadecimal bytes

high_half : (b : ℕ) → b < 256 → b / 16 < 16
high_half b h = omega arith

low_half : (b : ℕ) → b % 16 < 16
low_half b = omega arith

digit_is_lower : (d : ℕ) → d < 16 → is_lower_digit (digit_char d) ≡ true
digit_is_lower d h = grind (arith, nat_tests)

digit_is_other : (byte d : ℕ) → byte < 48 → d < 16 → (digit_char d == byte) ≡ false
digit_is_other byte d low h = grind (arith, nat_tests)

digit_is_digit : (d : ℕ) → d < 16 → is_digit (digit_char d) 16 ≡ true
digit_is_digit d h = rw (digit_value-digit_char d (omega arith)) (grind (arith, nat_tests))

two_digits : (b : ℕ) → b < 256 → hexadecimal_of 2 (digit_char (b / 16) ∷ digit_char (b % 16) ∷ []) ≡ Some b
two_digits b h =
    let sum : 16 * (16 * 0 + b / 16) + b % 16 ≡ b = omega arith in
    rw (digit_is_digit (b / 16) (high_half b h), digit_value-digit_char (b / 16) (omega (arith, high_half b h)), digit_is_digit (b % 16) (low_half b), digit_value-digit_char (b % 16) (omega (arith, low_half b))) (ap Some sum)

hexadecimals-text : (bs : List ℕ) → All (λ b. b < 256) bs → hexadecimals (length bs) 2 (hexadecimal_text bs) ≡ Some bs
hexadecimals-text [] h = refl
hexadecimals-text (b ∷ bs) h =
    ap (λ o. with_first o (hexadecimals (length bs) 2 (hexadecimal_text bs))) (two_digits b (All-head (λ x. x < 256) b bs h))
    ∙ ap (with_first (Some b)) (hexadecimals-text bs (All-tail (λ x. x < 256) b bs h))

length-text : (bs : List ℕ) → length (hexadecimal_text bs) ≡ 2 * length bs
length-text [] = refl
length-text (b ∷ bs) = omega (arith, length-text bs)

text_is_lower : (bs : List ℕ) → All (λ b. b < 256) bs → all_bytes is_lower_digit (hexadecimal_text bs) ≡ true
text_is_lower [] h = refl
text_is_lower (b ∷ bs) h =
    rw (digit_is_lower (b / 16) (high_half b (All-head (λ x. x < 256) b bs h)), digit_is_lower (b % 16) (low_half b), text_is_lower bs (All-tail (λ x. x < 256) b bs h)) refl

pub text_lacks : (byte : ℕ) (bs : List ℕ) → byte < 48 → All (λ b. b < 256) bs → Lacks byte (hexadecimal_text bs)
text_lacks byte [] low h = All-nil (λ b. (b == byte) ≡ false)
text_lacks byte (b ∷ bs) low h =
    All-cons (λ c. (c == byte) ≡ false) (digit_char (b / 16)) (digit_char (b % 16) ∷ hexadecimal_text bs) (digit_is_other byte (b / 16) low (high_half b (All-head (λ x. x < 256) b bs h)))
    (All-cons (λ c. (c == byte) ≡ false) (digit_char (b % 16)) (hexadecimal_text bs) (digit_is_other byte (b % 16) low (low_half b)) (text_lacks byte bs low (All-tail (λ x. x < 256) b bs h)))

-- the bytes that a hexadecimal word writes
pub bytes_word-text : (bs : List ℕ) → 0 < length bs → All (λ b. b < 256) bs → bytes_word (hexadecimal_text bs) ≡ Some bs
bytes_word-text bs some h =
    let n = length-text bs in
    let even : (length (hexadecimal_text bs) % 2 == 0) ≡ true = grind (arith, nat_tests) in
    let long : nat_lt 0 (length (hexadecimal_text bs)) ≡ true = grind (arith, nat_tests) in
    let half : length (hexadecimal_text bs) / 2 ≡ length bs = omega (arith, n) in
    rw (long, even, text_is_lower bs h, half, hexadecimals-text bs h) refl
