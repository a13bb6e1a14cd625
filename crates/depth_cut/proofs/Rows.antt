-- Worked values of 16 bits: a cut colour, one in a field, a tile of one colour and a single pixel packed.
use Rattle.std.proofs.Common.{◌≡◌, [], ◌∷◌, replicate, length, refl}
use Rattle.std.specs.Prelude.{◌*◌, nat_lt, false}
use Rattle.px_core.specs.declared.depth.Depth.TheVariants.{Bits16}
use Rattle.px_core.specs.Depth.{bytes_in, cut_color, wide_color}
use Rattle.order_fields.specs.NamedDrawing.{wire_color}
use Rattle.run_lengths.specs.Packer.{packed}

cut_is : cut_color 0x123456 ≡ 0x11AA
unfolding cut_color
cut_is = refl

wide_is : wide_color 0x11AA ≡ 0x103450
unfolding wide_color
wide_is = refl

-- AA 11 00 as red, green and blue
in_field : wire_color Bits16 0x123456 ≡ 0xAA1100
unfolding cut_color
in_field = refl

-- a colour run of the first row, and background to the end
one_color : packed Bits16 64 (replicate 4096 0xF800) ≡ 0x60 ∷ 0x20 ∷ 0x00 ∷ 0xF8 ∷ 0xF0 ∷ 0xC0 ∷ 0x0F ∷ []
one_color = refl

-- three bytes against two
one_pixel : packed Bits16 1 (0x11AA ∷ []) ≡ 0x81 ∷ 0xAA ∷ 0x11 ∷ []
one_pixel = refl

goes_raw : nat_lt (length (packed Bits16 1 (0x11AA ∷ []))) (bytes_in Bits16 * 1) ≡ false
goes_raw = refl
