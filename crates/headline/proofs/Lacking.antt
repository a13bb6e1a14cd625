-- Texts that lack a byte: decimal numbers lack every byte below the digits, and a viewer's number is read back.
use Rattle.std.proofs.Common.{◌≡◌, ℕ, zero, suc, ◌+◌, ◌*◌, ◌/◌, ◌%◌, ◌^◌, ◌<◌, ◌≤◌, List, [], ◌∷◌, ◌++◌, length, get_or, refl, ap, sym, ◌∙◌, arith, Some, None}
use Rattle.std.proofs.Common.{Bool, true, false}
use Rattle.std.specs.Prelude.{◌==◌, ◌&&◌, not, nat_le, decimal, if◌then◌else◌}
use Rattle.std.specs.Fmt.{digits, digits_onto, digit_glyph}
use Rattle.std.specs.Bool.{then_some}
use Rattle.std.specs.Option.{option_and_then}
use Rattle.std.specs.Str.Parse.{AllDigits, digits_value, digits_value_after}
use Rattle.std.specs.Char.{is_digit, digit_value}
use Rattle.std.proofs.lemmas.Fmt.{decimal_is_IsNumeral, first_decimal}
use Rattle.std.proofs.lemmas.Bool.{and_parts}
use Rattle.std.proofs.lemmas.Bool.Decides.{nat_tests}
use Rattle.std.proofs.lemmas.List.Elements.{All-nil, All-cons, All-append}
use Rattle.line_text.specs.Numbers.{digits_behind, number_of}
use Rattle.script_rules.specs.Script.{viewer_limit}
use Rattle.script_rules.specs.Capture.{viewer_word}
use Rattle.script_rules.proofs.ReadBack.{Lacks}

pub lacks_nil : (byte : ℕ) → Lacks byte []
lacks_nil byte = All-nil (λ b. (b == byte) ≡ false)

pub lacks_cons : (byte b : ℕ) (text : List ℕ) → (b == byte) ≡ false → Lacks byte text → Lacks byte (b ∷ text)
lacks_cons byte b text other h = All-cons (λ c. (c == byte) ≡ false) b text other h

pub lacks_append : (byte : ℕ) (xs ys : List ℕ) → Lacks byte xs → Lacks byte ys → Lacks byte (xs ++ ys)
lacks_append byte xs ys hx hy = All-append (λ b. (b == byte) ≡ false) xs ys hx hy

-- ---- a text that is known

abbrev pub all_other : ℕ → List ℕ → Bool
all_other byte [] = true
all_other byte (b ∷ text) = not (b == byte) && all_other byte text

is_false : (t : Bool) → not t ≡ true → t ≡ false
is_false true e = sym e
is_false false e = refl

pub lacks_by : (byte : ℕ) (text : List ℕ) → all_other byte text ≡ true → Lacks byte text
lacks_by byte [] e = lacks_nil byte
lacks_by byte (b ∷ text) e =
    let p = and_parts (not (b == byte)) (all_other byte text) e in
    lacks_cons byte b text (is_false (b == byte) p.0) (lacks_by byte text p.1)

-- ---- decimal numbers

glyph_is_other : (byte d : ℕ) → byte < 48 → d < 10 → (digit_glyph false d == byte) ≡ false
glyph_is_other byte d low small = grind (arith, nat_tests)

last_digit : (n : ℕ) → n % 10 < 10
last_digit n = omega arith

lacks_either : (byte : ℕ) (b : Bool) (xs ys : List ℕ) → Lacks byte xs → Lacks byte ys → Lacks byte (if b then xs else ys)
lacks_either byte true xs ys hx hy = hx
lacks_either byte false xs ys hx hy = hy

digits_lack : (byte k n : ℕ) (text : List ℕ) → byte < 48 → Lacks byte text → Lacks byte (digits_onto k 10 false n text)
digits_lack byte zero n text low h = h
digits_lack byte (suc k) n text low h =
    let glyph = digit_glyph false (n % 10) in
    let more = lacks_cons byte glyph text (glyph_is_other byte (n % 10) low (last_digit n)) h in
    lacks_either byte (n / 10 == 0) (glyph ∷ text) (digits_onto k 10 false (n / 10) (glyph ∷ text)) more (digits_lack byte k (n / 10) (glyph ∷ text) low more)

-- digits are 48 to 57
pub decimal_lacks : (byte n : ℕ) → byte < 48 → Lacks byte (decimal n)
unfolding digits
decimal_lacks byte n low = digits_lack byte 64 n [] low (lacks_nil byte)

-- ---- numbers that are read back

is_a_digit : (c : ℕ) → digit_value c < 10 → is_digit c 10 ≡ true
is_a_digit c h = grind (arith, nat_tests, h)

digits_are_read : (n : ℕ) (ds : List ℕ) → AllDigits 10 ds → digits_behind 10 n ds ≡ Some (digits_value_after 10 n ds)
digits_are_read n [] h = refl
digits_are_read n (c ∷ cs) h =
    let same : 10 * n + digit_value c ≡ n * 10 + digit_value c = omega arith in
    ap (λ b. if b then digits_behind 10 (10 * n + digit_value c) cs else None) (is_a_digit c h.0) ∙ digits_are_read (10 * n + digit_value c) cs h.1
    ∙ ap (λ m. Some (digits_value_after 10 m cs)) same

no_zero : (b : ℕ) → 48 < b → (b == 48) ≡ false
no_zero b h = grind (arith, nat_tests, h)

numeral_is_read : (ds : List ℕ) → 0 < length ds → 48 < get_or ds 0 0 → AllDigits 10 ds → number_of ds ≡ Some (digits_value 10 ds)
numeral_is_read [] some first h = absurd (omega arith)
numeral_is_read (b ∷ []) some first h = digits_are_read 0 (b ∷ []) h
numeral_is_read (b ∷ c ∷ ds) some first h =
    ap (λ t. if t then None else digits_behind 10 0 (b ∷ c ∷ ds)) (no_zero b first) ∙ digits_are_read 0 (b ∷ c ∷ ds) h

decimal_is_read : (n : ℕ) → 0 < n → n < 2 ^ 64 → number_of (decimal n) ≡ Some n
decimal_is_read n some small =
    let is = decimal_is_IsNumeral n small in
    numeral_is_read (decimal n) is.0.0 (first_decimal n some small) is.0.1 ∙ ap Some is.1

-- a viewer's number
pub viewer_is_read : (v : ℕ) → 0 < v → v ≤ viewer_limit → viewer_word (decimal v) ≡ Some v
viewer_is_read v some most =
    let within : nat_le v viewer_limit ≡ true = grind (arith, nat_tests, most) in
    let above : nat_le 1 v ≡ true = grind (arith, nat_tests, some) in
    ap (λ o. option_and_then (λ n. then_some (nat_le 1 n) n) (option_and_then (λ n. then_some (nat_le n viewer_limit) n) o))
    (decimal_is_read v some (omega (arith, most)))
    ∙ ap (λ b. option_and_then (λ n. then_some (nat_le 1 n) n) (then_some b v)) within ∙ ap (λ b. then_some b v) above
