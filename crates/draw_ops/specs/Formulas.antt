-- What drawings make of pixels: formulas over any palette, the same for the session's picture and for the picture that a client has.
use Rattle.std.specs.Prelude.{ℕ, ◌+◌, ◌-◌, ◌*◌, ◌/◌, ◌%◌, ◌^◌, ◌==◌, nat_le, Bool, ◌&&◌, ℤ, pos, ◌+ℤ◌, ◌-ℤ◌, nat_abs, int_le, List, [], ◌∷◌, Option}
use Rattle.std.specs.Prelude.{Some, None, if◌then◌else◌}
use Rattle.std.specs.Ordering.{int_eq}
use Rattle.std.specs.Int.{int_min}
use Rattle.px_core.specs.declared.surface.Size.{Size}
use Rattle.px_core.specs.declared.rectangle.Rect.{Rect}
use Rattle.px_core.specs.Picture.{item, nat_of, pixel_in, rows_of, Area, everywhere, nowhere, both, either, Formula, painted}
use Rattle.px_core.specs.Rectangle.{boxed, in_rect, joint}
use Rattle.rop3_core.specs.Palette.{Palette}
use Rattle.draw_ops.specs.Content.{ImageOf, GlyphOf}

-- ---- formulas and operands

-- an operand of a raster operation: a colour for each pixel
abbrev pub Operand : Type 0 → Type 0
Operand A = ℤ → ℤ → A

-- one known colour, whatever was there
abbrev pub solid : {A : Type 0} → Palette A → ℕ → Formula A
solid palette color x y old = palette.known color

-- the raster operation of pattern, source and old pixel
abbrev pub rastered : {A : Type 0} → Palette A → ℕ → Operand A → Operand A → Formula A
rastered palette code pattern source x y old = palette.mixed code (pattern x y) (source x y) old

-- the operand's colour, whatever was there
abbrev pub replaced : {A : Type 0} → Operand A → Formula A
replaced source x y old = source x y

-- an operand that a shape hasn't counts as 0
abbrev pub absent : {A : Type 0} → Palette A → Operand A
absent palette x y = palette.known 0

-- the brush's pixel at (x mod 8, y mod 8)
abbrev pub brushed : {A : Type 0} → Palette A → List ℕ → Operand A
brushed palette brush x y = palette.known (item brush (8 * (nat_of y % 8) + nat_of x % 8) 0)

-- the pixel of some rows that is as far from (sx, sy) as the pixel is from the rectangle's corner
abbrev pub shifted : {A : Type 0} → List (List A) → A → Rect → ℤ → ℤ → Operand A
shifted rows other r sx sy x y = pixel_in rows other ((x -ℤ r.x) +ℤ sx) ((y -ℤ r.y) +ℤ sy)

-- likewise in an image, of which each pixel is known
abbrev pub imaged : {A : Type 0} → Palette A → List (List ℕ) → Rect → ℤ → ℤ → Operand A
imaged palette rows r sx sy x y = palette.known (shifted rows 0 r sx sy x y)

abbrev pub image_rows : ImageOf → List (List ℕ)
image_rows image = rows_of image.w image.h image.pixels

-- ---- glyphs

-- the cell of a glyph that a pen at (x, y) draws
abbrev pub glyph_cell : GlyphOf → ℤ → ℤ → Rect
glyph_cell glyph x y = boxed (x +ℤ glyph.x) (y +ℤ glyph.y) glyph.cx glyph.cy

-- the bit of a glyph's rows at a column and a row of its cell; each row is padded to bytes, and its highest bit is on the left
abbrev pub is_bit_set : ℕ → List ℕ → ℕ → ℕ → Bool
is_bit_set cx bits column row = (item bits ((cx + 7) / 8 * row + column / 8) 0 / 2 ^ (7 - column % 8)) % 2 == 1

-- the pixels of a cell whose bit is one
abbrev pub inked : Rect → List ℕ → Area
inked cell bits x y = in_rect cell x y && is_bit_set cell.w bits (nat_of (x -ℤ cell.x)) (nat_of (y -ℤ cell.y))

abbrev pub glyph_area : Option GlyphOf → ℤ → ℤ → Area
glyph_area None x y = nowhere
glyph_area (Some glyph) x y = inked (glyph_cell glyph x y) glyph.bits

-- the pixels of a run's glyphs: the delta of each is added to x before it is drawn
abbrev pub run_area : (ℕ → Option GlyphOf) → ℤ → ℤ → List (ℕ × ℕ) → Area
run_area glyphs x y [] = nowhere
run_area glyphs x y (p ∷ ps) = either (glyph_area (glyphs p.0) (x +ℤ pos p.1) y) (run_area glyphs (x +ℤ pos p.1) y ps)

-- the cells of a run's glyphs
abbrev pub cell_of : Option GlyphOf → ℤ → ℤ → List Rect → List Rect
cell_of None x y cells = cells
cell_of (Some glyph) x y cells = glyph_cell glyph x y ∷ cells

abbrev pub run_cells : (ℕ → Option GlyphOf) → ℤ → ℤ → List (ℕ × ℕ) → List Rect
run_cells glyphs x y [] = []
run_cells glyphs x y (p ∷ ps) = cell_of (glyphs p.0) (x +ℤ pos p.1) y (run_cells glyphs (x +ℤ pos p.1) y ps)

-- the smallest rectangle that has all cells
abbrev pub joint_of : List Rect → Rect
joint_of [] = boxed (pos 0) (pos 0) 0 0
joint_of (cell ∷ []) = cell
joint_of (cell ∷ next ∷ cells) = joint cell (joint_of (next ∷ cells))

-- ---- lines

-- so many steps from one number towards another
abbrev pub towards : ℤ → ℤ → ℕ → ℤ
towards from to n = if int_le from to then from +ℤ pos n else from -ℤ pos n

-- whether (u, v) is a pixel of a line from (u0, v0) to (u1, v1) that is at least as long, du, in its first coordinate as in the other, dv
abbrev pub is_on_long_line : ℤ → ℤ → ℤ → ℤ → ℕ → ℕ → ℤ → ℤ → Bool
is_on_long_line u0 v0 u1 v1 du dv u v = (nat_le (nat_abs (u -ℤ u0)) du && int_eq (towards u0 u1 (nat_abs (u -ℤ u0))) u)
    && int_eq (towards v0 v1 ((2 * (nat_abs (u -ℤ u0) * dv) + du) / (2 * du))) v

-- the pixels of a line: one for each step along its longer side
abbrev pub line_area : ℤ → ℤ → ℤ → ℤ → Area
line_area x0 y0 x1 y1 x y = if nat_le (nat_abs (y1 -ℤ y0)) (nat_abs (x1 -ℤ x0))
    then is_on_long_line x0 y0 x1 y1 (nat_abs (x1 -ℤ x0)) (nat_abs (y1 -ℤ y0)) x y
    else is_on_long_line y0 x0 y1 x1 (nat_abs (y1 -ℤ y0)) (nat_abs (x1 -ℤ x0)) y x

-- the box of a line's ends
abbrev pub line_rect : ℤ → ℤ → ℤ → ℤ → Rect
line_rect x0 y0 x1 y1 = boxed (int_min x0 x1) (int_min y0 y1) (nat_abs (x1 -ℤ x0) + 1) (nat_abs (y1 -ℤ y0) + 1)

-- ---- paintings

-- what a drawing does to a picture: its rectangle, the pixels in it that it changes, and what becomes of them
pub record Painting (A : Type 0) : Type 0 where
  pub rect : Rect
  pub area : Area
  pub formula : Formula A

-- a painting of a whole rectangle
abbrev pub over_rect : {A : Type 0} → Rect → Formula A → Painting A
over_rect r f = record { rect = r; area = everywhere; formula = f }

-- a painting that changes nothing
abbrev pub no_painting : {A : Type 0} → Painting A
no_painting = record { rect = boxed (pos 0) (pos 0) 0 0; area = nowhere; formula = λ x y old. old }

-- the pixels that a painting changes: those of its rectangle, its area and the clip
abbrev pub painted_area : {A : Type 0} → Area → Painting A → Area
painted_area clip p = both clip (both (in_rect p.rect) p.area)

-- the picture after a painting: each pixel that it changes becomes what the formula says of the old picture, and each other one stays
abbrev pub picture_after : {A : Type 0} → Size → Area → Painting A → List A → List A
picture_after size clip p old = painted size (painted_area clip p) p.formula old
