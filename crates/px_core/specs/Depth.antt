-- Colours of 24 bits, 65536 * red + 256 * green + blue, as a viewer of 16 bits is shown them: 2048 * red + 32 * green + blue, of 5, 6 and 5 bits.
use Rattle.std.specs.Prelude.{ℕ, ◌+◌, ◌*◌, ◌/◌, ◌%◌, List, map, Option, Some}
use Rattle.px_core.specs.declared.depth.Depth.{Depth}
use Rattle.px_core.specs.declared.depth.Depth.TheVariants.{Bits24, Bits16}

-- the bits, and the bytes, of a pixel
abbrev pub bits_in : Depth → ℕ
bits_in Bits24 = 24
bits_in Bits16 = 16

abbrev pub bytes_in : Depth → ℕ
bytes_in Bits24 = 3
bytes_in Bits16 = 2

-- the colour whose every bit is 1
abbrev pub white : Depth → ℕ
white Bits24 = 0xFFFFFF
white Bits16 = 0xFFFF

-- the style of a brush that is an entry of the brush cache
abbrev pub brush_style : Depth → ℕ
brush_style Bits24 = 0x85
brush_style Bits16 = 0x84

-- the format, and the bytes, of the pixels of a brush that goes into the brush cache
abbrev pub brush_format : Depth → ℕ
brush_format Bits24 = 0x05
brush_format Bits16 = 0x04

abbrev pub brush_bytes : Depth → ℕ
brush_bytes Bits24 = 192
brush_bytes Bits16 = 128

-- a colour cut to 16 bits: the highest five bits of red, six of green and five of blue
unfoldable pub cut_color : ℕ → ℕ
cut_color c = 2048 * (c / 65536 / 8) + (32 * ((c / 256) % 256 / 4) + (c % 256) / 8)

-- a colour of 16 bits in 24; the bits that it doesn't have are 0
unfoldable pub wide_color : ℕ → ℕ
wide_color v = 65536 * (8 * (v / 2048)) + (256 * (4 * ((v / 32) % 64)) + 8 * (v % 32))

-- a colour of the session as a viewer of this depth is shown it
abbrev pub shown : Depth → ℕ → ℕ
shown Bits24 c = c
shown Bits16 c = cut_color c

-- a colour as a viewer of this depth has it
abbrev pub seen : Depth → ℕ → Option ℕ
seen d c = Some (shown d c)

abbrev pub shown_colors : Depth → List ℕ → List ℕ
shown_colors d cs = map (shown d) cs
