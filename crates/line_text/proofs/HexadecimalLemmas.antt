-- Hexadecimal numbers and digits in a row.
use Rattle.std.proofs.Common.{◌≡◌, ℕ, suc, ◌+◌, ◌-◌, ◌/◌, ◌%◌, ◌<◌, ◌≤◌, List, [], ◌∷◌, ◌++◌, length, get_or, take, drop, Some, None, sym, ap, ◌∙◌, refl, arith, append_assoc, add-one}
use Rattle.std.specs.declared.option.Option.{Option}
use Rattle.std.specs.Option.{option_map}
use Rattle.std.specs.Char.{digit_char}
use Rattle.std.proofs.Math.Nat.{div-eq-sub-div, div-eq_of_lt}
use Rattle.std.proofs.lemmas.List.{take_more, take-append-drop}
use Rattle.line_text.specs.Hexadecimal.{hexadecimal_of, hexadecimals, hexadecimals_of, with_first, hexadecimal_text}

-- digits of bytes in a row
pub hexadecimal_text-append : (xs ys : List ℕ) → hexadecimal_text (xs ++ ys) ≡ hexadecimal_text xs ++ hexadecimal_text ys
hexadecimal_text-append [] ys = refl
hexadecimal_text-append (x ∷ xs) ys = ap (λ ds. digit_char (x / 16) ∷ digit_char (x % 16) ∷ ds) (hexadecimal_text-append xs ys)

-- the digits of one more byte
pub hexadecimal_more : (bytes : List ℕ) (i : ℕ) → i < length bytes →
    hexadecimal_text (take (i + 1) bytes) ≡ hexadecimal_text (take i bytes) ++ digit_char (get_or bytes i 0 / 16) ∷ digit_char (get_or bytes i 0 % 16) ∷ []
hexadecimal_more bytes i lt = rw (take_more bytes i 0 lt) (hexadecimal_text-append (take i bytes) (get_or bytes i 0 ∷ []))

-- the digits of a front of the bytes and of those after it
pub hexadecimal_rest : (bytes : List ℕ) (i : ℕ) → hexadecimal_text bytes ≡ hexadecimal_text (take i bytes) ++ hexadecimal_text (drop i bytes)
hexadecimal_rest bytes i = ap hexadecimal_text (sym (take-append-drop i bytes)) ∙ hexadecimal_text-append (take i bytes) (drop i bytes)

-- a word with room for a number begins with it
pub hexadecimals_first : (digits : ℕ) (word : List ℕ) → 1 ≤ digits → digits ≤ length word → length (drop digits word) ≡ length word - digits →
    hexadecimals_of digits word ≡ with_first (hexadecimal_of digits (take digits word)) (hexadecimals_of digits (drop digits word))
hexadecimals_first digits word some room len =
    let above : 0 < digits = omega arith in
    let count : length word / digits ≡ suc (length (drop digits word) / digits) = div-eq-sub-div above room ∙ add-one ((length word - digits) / digits) ∙ ap (λ n. suc (n / digits)) (sym len) in
    ap (λ n. hexadecimals n digits word) count

-- a word without room for one writes numbers only where it is empty
pub hexadecimals_none : (digits : ℕ) (word : List ℕ) → length word < digits → hexadecimals_of digits word ≡ hexadecimals 0 digits word
hexadecimals_none digits word short = ap (λ n. hexadecimals n digits word) (div-eq_of_lt short)

-- one more number that was read
pub numbers_more : (front : List ℕ) (n : ℕ) (rest : Option (List ℕ)) →
    option_map (λ ns. (front ++ n ∷ []) ++ ns) rest ≡ option_map (λ ns. front ++ ns) (with_first (Some n) rest)
numbers_more front n None = refl
numbers_more front n (Some ns) = ap Some (append_assoc front (n ∷ []) ns)
