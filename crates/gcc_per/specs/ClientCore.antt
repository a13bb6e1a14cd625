-- Client Core Data ([MS-RDPBCGR] 2.2.1.3.2). Offsets count from behind the header of four bytes.
use Rattle.std.specs.Prelude.{ℕ, ◌+◌, ◌==◌, nat_le, Bool, false, not, ◌&&◌, ◌||◌, List, length, drop, Option, Some, None, if◌then◌else◌}
use Rattle.std.specs.Option.{option_map}
use Rattle.byteorder.specs.Endian.{little_number}
use Rattle.wire_num.specs.FieldValue.{has_bits}
use Rattle.px_core.specs.declared.depth.Depth.{Depth}
use Rattle.px_core.specs.declared.depth.Depth.TheVariants.{Bits24, Bits16}
use Rattle.px_core.specs.Depth.{bits_in}
use Rattle.gcc_per.specs.declared.client_core.Desktop.{Desktop}

-- the number of two bytes at an offset, where it is wholly there
abbrev pub number_within : ℕ → List ℕ → Option ℕ
number_within at bs = if nat_le (at + 2) (length bs) then Some (little_number 2 (drop at bs)) else None

-- a depth in supportedColorDepths: its bit
abbrev pub supported_bits : Depth → ℕ
supported_bits Bits24 = 0x0001
supported_bits Bits16 = 0x0002

-- a depth in postBeta2ColorDepth
abbrev pub post_beta2 : Depth → ℕ
post_beta2 Bits24 = 0xCA04
post_beta2 Bits16 = 0xCA03

-- supportedColorDepths says which depths are offered; where it isn't there, highColorDepth; where neither is, postBeta2ColorDepth
abbrev pub offers : Depth → Option ℕ → Option ℕ → Option ℕ → Bool
offers depth (Some supported) high post = has_bits (supported_bits depth) supported
offers depth None (Some high) post = high == bits_in depth
offers depth None None (Some post) = post == post_beta2 depth
offers depth None None None = false

-- highColorDepth asks for 16 bits
abbrev pub asks_for_16 : Option ℕ → Bool
asks_for_16 (Some high) = high == 16
asks_for_16 None = false

-- the depth, where 24 or 16 bits are offered: 24 wherever these are, unless 16 are offered and asked for
abbrev pub depth_of_offers : Option ℕ → Option ℕ → Option ℕ → Option Depth
depth_of_offers supported high post =
    if offers Bits16 supported high post && (asks_for_16 high || not (offers Bits24 supported high post)) then Some Bits16
    else (if offers Bits24 supported high post then Some Bits24 else None)

-- supportedColorDepths; highColorDepth; postBeta2ColorDepth
abbrev pub core_depth : List ℕ → Option Depth
core_depth content = depth_of_offers (number_within 138 content) (number_within 136 content) (number_within 128 content)

-- desktopWidth, desktopHeight and clientBuild, at a depth
abbrev pub desktop_at : List ℕ → Depth → Desktop
desktop_at content depth = record {
  width = little_number 2 (drop 4 content);
  height = little_number 2 (drop 6 content);
  build = little_number 4 (drop 16 content);
  depth = depth;
}

-- the desktop at its depth, where there is one
unfoldable pub desktop_of : List ℕ → Option Desktop
desktop_of content = option_map (desktop_at content) (core_depth content)
