-- A name is ASCII, and short.
use Rattle.std.specs.Prelude.{ℕ, ◌≡◌, ◌==◌, ◌<◌, ◌≤◌, zero, suc, nat_le, nat_lt, Bool, true, false, ◌&&◌, not, List, [], ◌∷◌, length, slice_index}
use Rattle.std.proofs.Common.{refl, arith}
use Rattle.std.proofs.lemmas.Bool.{and_parts}
use Rattle.std.proofs.lemmas.Bool.Decides.{nat_tests}
use Rattle.std.specs.Str.{IsAscii}
use Rattle.std.proofs.lemmas.Str.Ascii.{IsAscii-nil}
use Rattle.info_lic.specs.Name.{IsName}
use Rattle.script_rules.specs.Script.{is_name, is_name_byte, all_bytes}

small : (b : ℕ) → is_name_byte b ≡ true → b < 128
small b h = by (nat_lt b 128) refl
  where
    by : (t : Bool) → nat_lt b 128 ≡ t → b < 128
    by true eq = grind (arith, nat_tests, eq)
    by false eq =
        let above : 128 ≤ b = grind (arith, nat_tests, eq) in
        let no : is_name_byte b ≡ false = grind (arith, nat_tests, above) in
        absurd (cc (no, h))

ascii : (bs : List ℕ) → all_bytes is_name_byte bs ≡ true → IsAscii bs
ascii [] h = IsAscii-nil
ascii (b ∷ bs) h =
    let parts = and_parts (is_name_byte b) (all_bytes is_name_byte bs) h in
    λ i. by (small b parts.0) (ascii bs parts.1) i
  where
    by : b < 128 → IsAscii bs → (i : ℕ) → slice_index (b ∷ bs) i < 128
    by low rest zero = low
    by low rest (suc i) = rest i

pub is_short_ascii : (name : List ℕ) → is_name name ≡ true → IsName name
is_short_ascii [] h = absurd (cc h)
is_short_ascii (b ∷ bs) h =
    let parts = and_parts (nat_le (length bs) 63 && all_bytes is_name_byte (b ∷ bs)) (not (b == 45)) h in
    let both = and_parts (nat_le (length bs) 63) (all_bytes is_name_byte (b ∷ bs)) parts.0 in
    let short = both.0 in
    record { short = grind (arith, nat_tests, short); ascii = ascii (b ∷ bs) both.1 }
