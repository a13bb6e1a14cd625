-- Pixels of 16 bits that are all the same.
use Rattle.std.proofs.Common.{◌≡◌, ℕ, zero, suc, replicate, refl}
use Rattle.std.specs.Prelude.{true}
use Rattle.std.proofs.lemmas.Bool.{and_from}
use Rattle.px_core.specs.declared.depth.Depth.TheVariants.{Bits16}
use Rattle.px_core.specs.Pixels.{is_pixel, are_pixels}

pub replicated_are_pixels : (n pixel : ℕ) → is_pixel Bits16 pixel ≡ true → are_pixels Bits16 (replicate n pixel) ≡ true
replicated_are_pixels zero pixel h = refl
replicated_are_pixels (suc n) pixel h = and_from _ _ h (replicated_are_pixels n pixel h)
