-- Signed numbers that are written are read back.
use Rattle.std.proofs.Common.{◌≡◌, ℕ, ℤ, pos, negsuc, List, ◌++◌, ap, ◌∙◌, arith, true}
use Rattle.std.specs.Prelude.{Ok, ◌+ℤ◌, ◌-ℤ◌}
use Rattle.std.proofs.lemmas.Int.{ints}
use Rattle.std.proofs.lemmas.Bool.Decides.{nat_tests}
use Rattle.wire_num.specs.Field.{then_read, given}
use Rattle.wire_num.specs.Number.{little_signed, little_signed_at}
use Rattle.order_fields.specs.OrderTable.{fits_coordinate}
use Rattle.order_fields.specs.OrderStream.{moved_at}
use Rattle.order_fields.specs.OrderDelta.{is_byte}

-- a signed number of one byte
pub byte_back : (d : ℤ) (rest : List ℕ) → is_byte d ≡ true → little_signed_at 1 (little_signed 1 d ++ rest) ≡ Ok (d, rest)
byte_back (pos n) rest h = grind (arith, ints, nat_tests)
byte_back (negsuc n) rest h = grind (arith, ints, nat_tests)

-- a signed number of two bytes
pub signed_back : (z : ℤ) (rest : List ℕ) → fits_coordinate z ≡ true → little_signed_at 2 (little_signed 2 z ++ rest) ≡ Ok (z, rest)
signed_back (pos n) rest h = grind (arith, ints, nat_tests)
signed_back (negsuc n) rest h = grind (arith, ints, nat_tests)

-- a difference
pub moved_back : (l z : ℤ) (rest : List ℕ) → is_byte (z -ℤ l) ≡ true → fits_coordinate z ≡ true → moved_at l (little_signed 1 (z -ℤ l) ++ rest) ≡ Ok (z, rest)
moved_back l z rest near fits =
    let sum : l +ℤ (z -ℤ l) ≡ z = omega (arith, ints) in
    ap (λ r. then_read r (λ d more. given (fits_coordinate (l +ℤ d)) (l +ℤ d) more (little_signed 1 (z -ℤ l) ++ rest))) (byte_back (z -ℤ l) rest near)
    ∙ ap (λ y. given (fits_coordinate y) y rest (little_signed 1 (z -ℤ l) ++ rest)) sum ∙ ap (λ b. given b z rest (little_signed 1 (z -ℤ l) ++ rest)) fits
