-- The number of a stretch's common part.
use Rattle.std.proofs.Common.{◌≡◌, ℕ, ap, arith}
use Rattle.std.specs.Prelude.{ℤ, pos, negsuc, ◌+ℤ◌, ◌-ℤ◌, ◌≤ℤ◌, ◌≤◌, refl}
use Rattle.std.specs.Int.{int_max, int_min}
use Rattle.std.proofs.lemmas.Int.{ints, clamps}
use Rattle.px_core.specs.declared.rectangle.Rect.{Rect}
use Rattle.px_core.specs.Picture.{nat_of}
use Rattle.px_core.specs.Rectangle.{common, common_length, IsPlaced}
use Rattle.px_core.proofs.TilePixels.{pos-nat_of}

pub nat_of_is : (z : ℤ) (k : ℕ) → pos k ≡ z → k ≡ nat_of z
nat_of_is z k h = ap nat_of h

pub nat_of_none : (z : ℤ) → z ≤ℤ pos 0 → 0 ≡ nat_of z
nat_of_none (pos n) h = let none : 0 ≡ n = omega (arith, ints, h) in none
nat_of_none (negsuc n) h = refl

-- the common part of two stretches is no longer than the first
length_short : (a : ℤ) (m : ℕ) (b : ℤ) (n : ℕ) → common_length a m b n ≤ m
length_short a m b n = let long = pos-nat_of (int_min (a +ℤ pos m) (b +ℤ pos n) -ℤ int_max a b) in omega (arith, ints, clamps, long)

-- the later start of two, within what calls may be given
later_placed : (a b : ℤ) → negsuc 65535 ≤ℤ a → a ≤ℤ pos 65536 → b ≤ℤ pos 65536 → (negsuc 65535 ≤ℤ int_max a b) × (int_max a b ≤ℤ pos 65536)
later_placed a b low high other = (omega (arith, ints, clamps), omega (arith, ints, clamps))

pub common_placed : (a b : Rect) → IsPlaced a → IsPlaced b → IsPlaced (common a b)
common_placed a b h k =
    let x = later_placed a.x b.x h.left h.right k.right in
    let y = later_placed a.y b.y h.above h.below k.below in
    record {
      left = x.0;
      right = x.1;
      above = y.0;
      below = y.1;
      wide = omega (arith, length_short a.x a.w b.x b.w, h.wide);
      high = omega (arith, length_short a.y a.h b.y b.h, h.high);
    }
