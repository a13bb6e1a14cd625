-- The fields of a record: their bytes, and what has place in them.
use Rattle.std.specs.Prelude.{ℕ, Bool, true, ◌&&◌, ℤ, negsuc, pos, int_le, List, [], ◌∷◌, flat_map}
use Rattle.byteorder.specs.Endian.{little_bytes, big_bytes}
use Rattle.wire_num.specs.Number.{little_signed}
use Rattle.px_core.specs.Colors.{is_color}
use Rattle.draw_ops.specs.Ranges.{is_u8, is_u16, is_u32}
use Rattle.record_rules.specs.declared.field.Field.{Field}
use Rattle.record_rules.specs.declared.field.Field.TheVariants.{Byte, Short, Long, SignedByte, SignedShort, Color}

abbrev pub field_bytes : Field → List ℕ
field_bytes (Byte n) = n ∷ []
field_bytes (Short n) = little_bytes 2 n
field_bytes (Long n) = little_bytes 4 n
field_bytes (SignedByte z) = little_signed 1 z
field_bytes (SignedShort z) = little_signed 2 z
field_bytes (Color color) = big_bytes 3 color

-- fields one after the other
abbrev pub fields_bytes : List Field → List ℕ
fields_bytes fs = flat_map field_bytes fs

-- a colour after the other
abbrev pub colors_bytes : List ℕ → List ℕ
colors_bytes colors = flat_map (big_bytes 3) colors

-- the pairs of a run: code and delta, a byte each
abbrev pub pairs_bytes : List (ℕ × ℕ) → List ℕ
pairs_bytes pairs = flat_map (λ p. p.0 ∷ p.1 ∷ []) pairs

-- ---- what has place

-- signed numbers of 8 and of 16 bits
abbrev pub is_i8 : ℤ → Bool
is_i8 z = int_le (negsuc 0x7F) z && int_le z (pos 0x7F)

abbrev pub is_i16 : ℤ → Bool
is_i16 z = int_le (negsuc 0x7FFF) z && int_le z (pos 0x7FFF)

abbrev pub is_in_place : Field → Bool
is_in_place (Byte n) = is_u8 n
is_in_place (Short n) = is_u16 n
is_in_place (Long n) = is_u32 n
is_in_place (SignedByte z) = is_i8 z
is_in_place (SignedShort z) = is_i16 z
is_in_place (Color color) = is_color color

abbrev pub are_in_place : List Field → Bool
are_in_place [] = true
are_in_place (f ∷ fs) = is_in_place f && are_in_place fs
