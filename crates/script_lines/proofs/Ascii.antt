-- Lines of ASCII bytes.
use Rattle.std.proofs.Common.{◌≡◌, ℕ, zero, suc, ◌≤◌, Bool, true, false, List, [], ◌∷◌, refl, sym, ap, arith}
use Rattle.std.specs.Prelude.{◌<◌, ◌&&◌, slice_index}
use Rattle.std.specs.Bool.{MatchBool}
use Rattle.std.specs.Str.{IsAscii, IsNotAscii}
use Rattle.std.proofs.lemmas.Bool.{and_from}
use Rattle.std.proofs.lemmas.Bool.Decides.{nat_tests}
use Rattle.script_rules.specs.Script.{all_bytes, is_ascii}

is_small : (b : ℕ) → b < 128 → is_ascii b ≡ true
is_small b h = grind (arith, nat_tests, h)

is_large : (b : ℕ) → 128 ≤ b → is_ascii b ≡ false
is_large b h = grind (arith, nat_tests, h)

all_small : (bs : List ℕ) → IsAscii bs → all_bytes is_ascii bs ≡ true
all_small [] h = refl
all_small (b ∷ bs) h = and_from (is_ascii b) (all_bytes is_ascii bs) (is_small b (h 0)) (all_small bs (λ i. h (suc i)))

and_false : (a b : Bool) → b ≡ false → (a && b) ≡ false
and_false true b e = e
and_false false b e = refl

some_large : (bs : List ℕ) (i : ℕ) → 128 ≤ slice_index bs i → all_bytes is_ascii bs ≡ false
some_large [] i h = let none : ⊥ = omega (arith, h) in absurd none
some_large (b ∷ bs) zero h = ap (λ t. t && all_bytes is_ascii bs) (is_large b h)
some_large (b ∷ bs) (suc i) h = and_false (is_ascii b) (all_bytes is_ascii bs) (some_large bs i h)

-- a test of whether bytes are ASCII
pub ascii_is : (bs : List ℕ) (test : Bool) → MatchBool test (IsAscii bs) (IsNotAscii bs) → test ≡ all_bytes is_ascii bs
ascii_is bs true h = sym (all_small bs h)
ascii_is bs false h = sym (some_large bs h.0 h.1)
