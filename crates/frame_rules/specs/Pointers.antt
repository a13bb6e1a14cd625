-- The pointer that a session shows: who holds control, and what was typed last. Its shape of 8 by 8, as the bytes that a message has of it.
use Rattle.std.specs.Prelude.{ℕ, ◌+◌, ◌-◌, ◌*◌, ◌/◌, ◌%◌, ◌==◌, Bool, List, [], ◌∷◌, ◌++◌, map, reverse, replicate, take, Option, Some, None, if◌then◌else◌}
use Rattle.byteorder.specs.Endian.{little_bytes}
use Rattle.px_core.specs.declared.surface.Size.{Size}
use Rattle.session_rules.specs.declared.entry.Entry.{Entry}
use Rattle.session_rules.specs.Board.{sign_of}
use Rattle.session_rules.specs.Journal.{holder_at}
use Rattle.session_rules.specs.Typing.{last_typed}

-- the viewer that holds control, modulo 16, and the code that was typed last, 0 for none
pub record Pointer : Type 0 where
  pub holder : ℕ
  pub code : ℕ

abbrev pub code_shown : Option ℕ → ℕ
code_shown None = 0
code_shown (Some code) = code

-- the pointer after the first n entries
abbrev pub pointer_at : Size → List Entry → ℕ → Pointer
pointer_at size j n = record { holder = holder_at size j n % 16; code = code_shown (last_typed (take n j)) }

-- ---- the shape

-- the arrow: row k has the columns 0 to k, the leftmost the highest bit
abbrev pub arrow : List ℕ
arrow = 0x80 ∷ 0xC0 ∷ 0xE0 ∷ 0xF0 ∷ 0xF8 ∷ 0xFC ∷ 0xFE ∷ 0xFF ∷ []

-- the rows of 8 columns, from the top: the sign of the code, or the arrow where nothing was typed
abbrev pub rows_of : ℕ → List ℕ
rows_of code = if code == 0 then arrow else sign_of code

-- a colour for each holder: blue is its lowest byte
abbrev pub pointer_color : ℕ → ℕ
pointer_color holder = ((holder + 1) * 1118481) % 16777216

abbrev pub joined : List (List ℕ) → List ℕ
joined [] = []
joined (xs ∷ xss) = xs ++ joined xss

-- a byte of a pixel's colour, where the row has the column of this bit
abbrev pub part_of : ℕ → ℕ → ℕ → ℕ
part_of row bit part = if row / bit % 2 == 1 then part else 0

-- the colours of a row, each blue, green and red; a pixel that isn't set is 0
abbrev pub row_colors : List ℕ → ℕ → List ℕ
row_colors color row = joined (map (λ bit. map (part_of row bit) color) (128 ∷ 64 ∷ 32 ∷ 16 ∷ 8 ∷ 4 ∷ 2 ∷ 1 ∷ []))

-- The shapes of a viewer have 8 columns; those of a cautious one are wide: 16, of which the right eight are clear.
-- The colours of a row, and its mask: bit 0 where a pixel is set, and a row is a whole number of two bytes.
abbrev pub wide_colors : Bool → List ℕ → ℕ → List ℕ
wide_colors wide color row = row_colors color row ++ (if wide then replicate 24 0 else [])

abbrev pub wide_mask : Bool → ℕ → List ℕ
wide_mask wide row = (255 - row) ∷ (if wide then 0xFF else 0) ∷ []

-- both of rows from the top, written from the bottom row up
abbrev pub colors_up : Bool → List ℕ → List ℕ → List ℕ
colors_up wide color rows = joined (map (wide_colors wide color) (reverse rows))

abbrev pub masks_up : Bool → List ℕ → List ℕ
masks_up wide rows = joined (map (wide_mask wide) (reverse rows))

-- the bytes of a shape: its colours and its mask
pub record Shape : Type 0 where
  pub xor : List ℕ
  pub mask : List ℕ

abbrev pub shape_of : Bool → Pointer → Shape
shape_of wide p = record {
  xor = colors_up wide (little_bytes 3 (pointer_color p.holder)) (rows_of p.code);
  mask = masks_up wide (rows_of p.code);
}

-- ---- keys

-- a pointer as one number, by which caches know it
abbrev pub pointer_key : Pointer → ℕ
pointer_key p = 256 * p.holder + p.code

abbrev pub pointer_of_key : ℕ → Pointer
pointer_of_key key = record { holder = key / 256; code = key % 256 }

abbrev pub key_shape : Bool → ℕ → Shape
key_shape wide key = shape_of wide (pointer_of_key key)
