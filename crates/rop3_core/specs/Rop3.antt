-- Ternary raster operations: [MS-RDPEGDI] 2.2.2.2.1.1.1.7, Ternary Raster Operation Index. Colours are numbers below 2^24.
use Rattle.std.specs.Prelude.{◌≢◌, ℕ, zero, suc, ◌+◌, ◌*◌, ◌/◌, ◌%◌, ◌^◌, ◌<◌, ◌==◌, Bool, not, ◌||◌}
use Rattle.std.specs.Int.{bit_at}

-- the bit that an operation's code has for one bit of pattern, source and destination
abbrev pub raster_bit : ℕ → ℕ → ℕ → ℕ → ℕ
raster_bit code p s d = bit_at code (4 * p + (2 * s + d))

-- the operation on the lowest bits, so many, of the three operands
abbrev pub raster_bits : ℕ → ℕ → ℕ → ℕ → ℕ → ℕ
raster_bits zero code p s d = 0
raster_bits (suc n) code p s d = raster_bit code (p % 2) (s % 2) (d % 2) + 2 * raster_bits n code (p / 2) (s / 2) (d / 2)

-- the colour whose bit k is bit 4p + 2s + d of the code, of the bits k of pattern, source and destination
unfoldable pub ternary_raster : ℕ → ℕ → ℕ → ℕ → ℕ
ternary_raster code p s d = raster_bits 24 code p s d

-- some change of the pattern alone changes the result
abbrev pub DependsOnPattern : ℕ → Type 0
DependsOnPattern code = (p : ℕ) × (q : ℕ) × (s : ℕ) × (d : ℕ)
    × (p < 2 ^ 24) × (q < 2 ^ 24) × (s < 2 ^ 24) × (d < 2 ^ 24) × (ternary_raster code p s d ≢ ternary_raster code q s d)

-- some change of the source alone changes the result
abbrev pub DependsOnSource : ℕ → Type 0
DependsOnSource code = (p : ℕ) × (s : ℕ) × (t : ℕ) × (d : ℕ)
    × (p < 2 ^ 24) × (s < 2 ^ 24) × (t < 2 ^ 24) × (d < 2 ^ 24) × (ternary_raster code p s d ≢ ternary_raster code p t d)

-- some change of the destination alone changes the result
abbrev pub DependsOnDestination : ℕ → Type 0
DependsOnDestination code = (p : ℕ) × (s : ℕ) × (d : ℕ) × (e : ℕ)
    × (p < 2 ^ 24) × (s < 2 ^ 24) × (d < 2 ^ 24) × (e < 2 ^ 24) × (ternary_raster code p s d ≢ ternary_raster code p s e)

-- two bits of the code differ
abbrev pub bits_differ : ℕ → ℕ → ℕ → Bool
bits_differ code i j = not (bit_at code i == bit_at code j)

-- the test of dependence on the pattern: its bit weighs 4 in a place of the code
abbrev pub is_pattern_needed : ℕ → Bool
is_pattern_needed code = (bits_differ code 0 4 || bits_differ code 1 5) || (bits_differ code 2 6 || bits_differ code 3 7)

-- the test of dependence on the source: its bit weighs 2
abbrev pub is_source_needed : ℕ → Bool
is_source_needed code = (bits_differ code 0 2 || bits_differ code 1 3) || (bits_differ code 4 6 || bits_differ code 5 7)

-- the test of dependence on the destination: its bit weighs 1
abbrev pub is_destination_needed : ℕ → Bool
is_destination_needed code = (bits_differ code 0 1 || bits_differ code 2 3) || (bits_differ code 4 5 || bits_differ code 6 7)
