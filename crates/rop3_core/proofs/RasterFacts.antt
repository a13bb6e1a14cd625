-- The well-known codes, worked by hand. Red bytes F0, CC, AA list each case of the three bits once, so that red is the code.
use Rattle.std.proofs.Common.{◌≡◌, ℕ, true, false, Some, None, refl}
use Rattle.rop3_core.specs.Rop3.{ternary_raster, is_pattern_needed, is_source_needed, is_destination_needed}
use Rattle.rop3_core.specs.Palette.{maybe_raster}

abbrev worked : ℕ → ℕ
worked code = ternary_raster code 0xF000FF 0xCCFF00 0xAA0F55

blackness : worked 0x00 ≡ 0x000000
unfolding ternary_raster
blackness = refl

destination_inverted : worked 0x55 ≡ 0x55F0AA
unfolding ternary_raster
destination_inverted = refl

pattern_inverts : worked 0x5A ≡ 0x5A0FAA
unfolding ternary_raster
pattern_inverts = refl

source_inverts : worked 0x66 ≡ 0x66F055
unfolding ternary_raster
source_inverts = refl

source_and_destination : worked 0x88 ≡ 0x880F00
unfolding ternary_raster
source_and_destination = refl

source_copied : worked 0xCC ≡ 0xCCFF00
unfolding ternary_raster
source_copied = refl

source_or_destination : worked 0xEE ≡ 0xEEFF55
unfolding ternary_raster
source_or_destination = refl

pattern_copied : worked 0xF0 ≡ 0xF000FF
unfolding ternary_raster
pattern_copied = refl

whiteness : worked 0xFF ≡ 0xFFFFFF
unfolding ternary_raster
whiteness = refl

pattern_where_source : worked 0xC0 ≡ 0xC00000
unfolding ternary_raster
pattern_where_source = refl

source_chooses_destination : worked 0xB8 ≡ 0xB80FFF
unfolding ternary_raster
source_chooses_destination = refl

high_bits_are_dropped : ternary_raster 0x55 0 0 0x12345678 ≡ 0xCBA987
unfolding ternary_raster
high_bits_are_dropped = refl

copy_needs_the_source_alone : (is_pattern_needed 0xCC ≡ false) × (is_source_needed 0xCC ≡ true) × (is_destination_needed 0xCC ≡ false)
copy_needs_the_source_alone = (refl, refl, refl)

unknown_destination_is_covered : maybe_raster 0xCC None (Some 0x123456) None ≡ Some 0x123456
unfolding ternary_raster
unknown_destination_is_covered = refl

unknown_destination_shows : maybe_raster 0x66 (Some 0) (Some 0x123456) None ≡ None
unfolding ternary_raster
unknown_destination_shows = refl
