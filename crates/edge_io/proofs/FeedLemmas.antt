-- Where a byte first stands.
use Rattle.std.proofs.Common.{◌≡◌, ℕ, ◌<◌, Bool, true, false, cond, List, length, Some, None, position, get_or, refl, sym, arith, ap}
use Rattle.std.specs.Prelude.{Option, nat_lt, ◌==◌}
use Rattle.std.specs.List.{position_or_len}
use Rattle.std.proofs.lemmas.Bool.Decides.{nat_tests}
use Rattle.std.proofs.lemmas.List.Sums.{position_or_len_is}
use Rattle.memchr.specs.Find.{IsFirstByte, is_byte}

fails : (test : Bool) → ¬ (test ≡ true) → test ≡ false
fails true never = absurd (never refl)
fails false never = refl

place_found : (place len at : ℕ) (test : Bool) → nat_lt place len ≡ test → place ≡ at → at < len → Some at ≡ cond test (Some place) None
place_found place len at true is e lt = ap Some (sym e)
place_found place len at false is e lt = let none : ⊥ = grind (arith, nat_tests) in absurd none

place_missing : (place len : ℕ) (test : Bool) → nat_lt place len ≡ test → place ≡ len → None ≡ cond test (Some place) None
place_missing place len true is e = let none : ⊥ = grind (arith, nat_tests) in absurd none
place_missing place len false is e = refl

-- the first byte that a search finds
pub first_is_position : (a : ℕ) (bytes : List ℕ) (found : Option ℕ) → IsFirstByte (is_byte a) bytes found → found ≡ position (λ b. b == a) bytes
first_is_position a bytes None h =
    let whole : position_or_len (is_byte a) bytes ≡ length bytes =
    position_or_len_is (is_byte a) bytes (length bytes) 0 (omega arith) (λ k lt. fails (is_byte a (get_or bytes k 0)) (h k (omega arith) lt)) (λ lt. absurd (omega (arith, lt))) in
    place_missing (position_or_len (is_byte a) bytes) (length bytes) _ refl whole
first_is_position a bytes (Some at) h =
    let place : position_or_len (is_byte a) bytes ≡ at =
    position_or_len_is (is_byte a) bytes at 0 (omega (arith, h.0.high)) (λ k lt. fails (is_byte a (get_or bytes k 0)) (h.0.before k (omega arith) lt)) (λ lt. h.1) in
    place_found (position_or_len (is_byte a) bytes) (length bytes) at _ refl place h.0.high
