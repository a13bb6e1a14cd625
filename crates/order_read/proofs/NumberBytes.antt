-- Numbers of fields: what `byteorder` reads in a field's bytes, and that it fits.
use Rattle.std.proofs.Common.{◌≡◌, ◌≤◌, ◌<◌, ◌*◌, ◌+◌, ◌-◌, ◌^◌, ℕ, zero, suc, ℤ, pos, negsuc, List, [], ◌∷◌, length, refl, ap, sym, ◌∙◌, arith, Bool, true, false}
use Rattle.std.proofs.Math.Facts.{to_z-neg}
use Rattle.std.proofs.lemmas.Int.{ints, to_z_pos}
use Rattle.std.proofs.lemmas.Bool.Decides.{nat_tests}
use Rattle.std.specs.Int.{w8, cast_signed}
use Rattle.order_fields.specs.OrderTable.{fits_coordinate}
use Rattle.std.proofs.Math.Nat.{pow-le-pow_right}
use Rattle.std.specs.Prelude.{Ok, slice_index, nat_lt, ◌-ℤ◌, if◌then◌else◌}
use Rattle.std.proofs.lemmas.Grind.{common_steps}
use Rattle.byteorder.specs.Endian.{little_number, little_from, twos_complement}
use Rattle.wire_num.specs.Field.{map_read, bytes_at}
use Rattle.wire_num.specs.Number.{little_value, little_at, big_at, little_signed_at}
use Rattle.wire_num.proofs.Bytes.{bytes_at_is}

-- so many bytes of any value are so many
pub counted : (n : ℕ) (bs part more : List ℕ) → bytes_at n bs ≡ Ok (part, more) → length part ≡ n
counted n bs part more e = grind (arith, common_steps, sym (bytes_at_is n bs) ∙ e)

-- a byte is the same number either way
pub one_byte : (bs : List ℕ) → little_at 1 bs ≡ big_at 1 bs
one_byte [] = refl
one_byte (b ∷ bs) = let same : b + 256 * 0 ≡ 256 * 0 + b = omega arith in ap (λ n. Ok (n, bs)) same

-- the numbers that stand in bytes which are there
pub signed_read : (n : ℕ) (bs part more : List ℕ) (z : ℤ) → bytes_at n bs ≡ Ok (part, more) → z ≡ twos_complement (length part) (little_value part) → little_signed_at n bs ≡ Ok (z, more)
signed_read n bs part more z e is =
    let same : twos_complement n (little_value part) ≡ z = ap (λ k. twos_complement k (little_value part)) (sym (counted n bs part more e)) ∙ sym is in
    ap (λ r. map_read (λ x. twos_complement n x) (map_read little_value r)) e ∙ ap (λ x. Ok (x, more)) same

-- ---- they fit

little_below_from : (i n : ℕ) (xs : List ℕ) → ((k : ℕ) → slice_index xs k < 256) → little_from i n xs < 256 ^ n
little_below_from i zero xs h = omega arith
little_below_from i (suc n) xs h =
    let here : slice_index xs i < 256 = h i in
    let more : little_from (suc i) n xs < 256 ^ n = little_below_from (suc i) n xs h in
    omega arith

pub little_below : (n : ℕ) (xs : List ℕ) → ((k : ℕ) → slice_index xs k < 256) → little_number n xs < 256 ^ n
little_below n xs h = little_below_from 0 n xs h

pub short_below : (n x : ℕ) → n ≤ 7 → x < 256 ^ n → x < 2 ^ 63
short_below n x few h = let most : 256 ^ n ≤ 256 ^ 7 = pow-le-pow_right (omega arith) few in omega arith

-- ---- a signed number of one byte

signed_by : (low : Bool) (x : ℕ) → nat_lt x 128 ≡ low → x < 256 → cast_signed w8 x ≡ twos_complement 1 x
signed_by true x e h =
    let small : x < 2 ^ 7 = grind (arith, nat_tests, e) in
    to_z_pos w8 x small ∙ sym (ap (λ b. if b then pos x else pos x -ℤ pos 256) e)
signed_by false x e h =
    let large : 128 ≤ x = grind (arith, nat_tests, e) in
    let k : ℕ = 255 - x in
    let is : 256 - suc k ≡ x = omega (arith, large, h) in
    let few : k < 2 ^ 7 = omega (arith, large, h) in
    let same : negsuc k ≡ pos x -ℤ pos 256 = omega (arith, ints, large, h) in
    sym (ap (cast_signed w8) is) ∙ to_z-neg w8 k few ∙ same ∙ sym (ap (λ b. if b then pos x else pos x -ℤ pos 256) e)

pub signed_byte_is : (x : ℕ) → x < 256 → cast_signed w8 x ≡ twos_complement 1 x
signed_byte_is x h = signed_by (nat_lt x 128) x refl h

pub signed_byte_fits : (x : ℕ) → x < 256 → fits_coordinate (twos_complement 1 x) ≡ true
signed_byte_fits x h = fits_by (nat_lt x 128) x refl h
  where
    fits_by : (low : Bool) (x : ℕ) → nat_lt x 128 ≡ low → x < 256 → fits_coordinate (if low then pos x else pos x -ℤ pos 256) ≡ true
    fits_by true x e h = grind (arith, ints, nat_tests, h)
    fits_by false x e h = let large : 128 ≤ x = grind (arith, nat_tests, e) in grind (arith, ints, nat_tests, h, large)

-- one byte, read as the signed number that it is
pub signed_byte_read : (n : ℕ) (bs more : List ℕ) (z : ℤ) → little_at 1 bs ≡ Ok (n, more) → z ≡ twos_complement 1 n → little_signed_at 1 bs ≡ Ok (z, more)
signed_byte_read n bs more z e is = ap (map_read (λ x. twos_complement 1 x)) e ∙ ap (λ x. Ok (x, more)) (sym is)
