-- What a drawing does: each new pixel is a formula of the old state.
use Rattle.std.specs.Prelude.{ℕ, ◌+◌, ℤ, pos, List, [], ◌∷◌, Option, Some, None, option_map}
use Rattle.px_core.specs.declared.surface.Size.{Size}
use Rattle.px_core.specs.declared.rectangle.Rect.{Rect}
use Rattle.px_core.specs.Picture.{listed, rows_of, pixel_at, where_chosen}
use Rattle.px_core.specs.Rectangle.{boxed, in_clip, cut_out}
use Rattle.rop3_core.specs.Palette.{session_colors}
use Rattle.draw_ops.specs.declared.shape.Drawing.{Drawing}
use Rattle.draw_ops.specs.declared.shape.Shape.{Shape}
use Rattle.draw_ops.specs.declared.shape.Shape.TheVariants.{Fill, Dst, Pat, Copy, Blit, Blit3, Text, Line, Save, Restore, LoadImage, LoadBrush, LoadGlyph}
use Rattle.draw_ops.specs.Content.{ImageOf, GlyphOf}
use Rattle.draw_ops.specs.Slots.{SurfaceState, Loaded, lookup, filled_slot, glyph_slot}
use Rattle.draw_ops.specs.Formulas.{Operand, solid, rastered, replaced, absent, brushed, shifted, imaged, image_rows, run_area, run_cells, joint_of}
use Rattle.draw_ops.specs.Formulas.{line_area, line_rect, Painting, over_rect, no_painting, painted_area, picture_after}

-- ---- operands from slots; the operand of an empty slot is absent

abbrev pub content_of : {A : Type 0} → Option (Loaded A) → Option A
content_of o = option_map (λ l. l.content) o

abbrev pub pattern_of : Option (List ℕ) → Operand ℕ
pattern_of None = absent session_colors
pattern_of (Some brush) = brushed session_colors brush

abbrev pub source_of : Option ImageOf → Rect → ℤ → ℤ → Operand ℕ
source_of None r sx sy = absent session_colors
source_of (Some image) r sx sy = imaged session_colors (image_rows image) r sx sy

-- the brush in a slot as a pattern
abbrev pub pattern_in : SurfaceState → ℕ → Operand ℕ
pattern_in st brush = pattern_of (content_of (lookup brush st.brushes))

-- the image in a slot as a source
abbrev pub source_in : SurfaceState → ℕ → Rect → ℤ → ℤ → Operand ℕ
source_in st image r sx sy = source_of (content_of (lookup image st.images)) r sx sy

-- the glyphs of a font by their codes
abbrev pub glyphs_in : SurfaceState → ℕ → ℕ → Option GlyphOf
glyphs_in st font code = content_of (lookup (glyph_slot font code) st.glyphs)

-- ---- what a drawing paints

abbrev pub mixing : Rect → ℕ → Operand ℕ → Operand ℕ → Painting ℕ
mixing r code pattern source = over_rect r (rastered session_colors code pattern source)

-- the glyphs of a run in one colour
abbrev pub writing : (ℕ → Option GlyphOf) → ℤ → ℤ → ℕ → List (ℕ × ℕ) → Painting ℕ
writing glyphs x y color run = record { rect = joint_of (run_cells glyphs x y run); area = run_area glyphs x y run; formula = solid session_colors color }

-- a block's pixels, with the upper left one at (x, y)
abbrev pub restoring : Option ImageOf → ℤ → ℤ → Painting ℕ
restoring None x y = no_painting
restoring (Some block) x y = over_rect (boxed x y block.w block.h)
    (replaced (imaged session_colors (image_rows block) (boxed x y block.w block.h) (pos 0) (pos 0)))

-- what a shape paints over a state
abbrev pub painting_of : Size → SurfaceState → Shape → Painting ℕ
painting_of size st (Fill r color) = over_rect r (solid session_colors color)
painting_of size st (Dst r code) = mixing r code (absent session_colors) (absent session_colors)
painting_of size st (Pat r code brush) = mixing r code (pattern_in st brush) (absent session_colors)
painting_of size st (Copy r code sx sy) = mixing r code (absent session_colors) (shifted (rows_of size.w size.h st.picture) 0 r sx sy)
painting_of size st (Blit r code image sx sy) = mixing r code (absent session_colors) (source_in st image r sx sy)
painting_of size st (Blit3 r code image sx sy brush) = mixing r code (pattern_in st brush) (source_in st image r sx sy)
painting_of size st (Text x y color font run) = writing (glyphs_in st font) x y color run
painting_of size st (Line x0 y0 x1 y1 color) = record { rect = line_rect x0 y0 x1 y1; area = line_area x0 y0 x1 y1; formula = solid session_colors color }
painting_of size st (Save slot r) = no_painting
painting_of size st (Restore slot x y) = restoring (lookup slot st.blocks) x y
painting_of size st (LoadImage slot image) = no_painting
painting_of size st (LoadBrush slot brush) = no_painting
painting_of size st (LoadGlyph font code glyph) = no_painting

-- ---- the state after a drawing

-- what is loaded now is loaded by the next drawing; drawings are numbered from 1
abbrev pub loaded : {A : Type 0} → SurfaceState → A → Loaded A
loaded st content = record { number = st.count + 1; content = content }

-- the pixels of a rectangle, to be saved
abbrev pub block_of : Size → SurfaceState → Rect → ImageOf
block_of size st r = record { w = r.w; h = r.h; pixels = cut_out size st.picture 0 r }

-- the state with its slots as they are after a shape
abbrev pub slots_after : Size → SurfaceState → Shape → SurfaceState
slots_after size st (Fill r color) = st
slots_after size st (Dst r code) = st
slots_after size st (Pat r code brush) = st
slots_after size st (Copy r code sx sy) = st
slots_after size st (Blit r code image sx sy) = st
slots_after size st (Blit3 r code image sx sy brush) = st
slots_after size st (Text x y color font run) = st
slots_after size st (Line x0 y0 x1 y1 color) = st
slots_after size st (Save slot r) = record st { blocks = filled_slot slot (block_of size st r) st.blocks }
slots_after size st (Restore slot x y) = st
slots_after size st (LoadImage slot image) = record st { images = filled_slot slot (loaded st image) st.images }
slots_after size st (LoadBrush slot brush) = record st { brushes = filled_slot slot (loaded st brush) st.brushes }
slots_after size st (LoadGlyph font code glyph) = record st { glyphs = filled_slot (glyph_slot font code) (loaded st glyph) st.glyphs }

-- pixel (x, y) after a drawing, from its old colour
abbrev pub drawn_pixel : Size → SurfaceState → Drawing → ℤ → ℤ → ℕ → ℕ
drawn_pixel size st d x y old = let p = painting_of size st d.shape in where_chosen (painted_area (in_clip d.clip) p x y) p.formula x y old

-- row y of the picture after a drawing, pixel by pixel from the left
abbrev pub drawn_row : Size → SurfaceState → Drawing → ℕ → List ℕ
drawn_row size st d y = listed size.w 0 (λ x. drawn_pixel size st d (pos x) (pos y) (pixel_at size st.picture 0 x y))

-- the picture after a drawing
abbrev pub drawn_picture : Size → SurfaceState → Drawing → List ℕ
drawn_picture size st d = picture_after size (in_clip d.clip) (painting_of size st d.shape) st.picture

-- the state after a drawing: the picture is painted over the old state, the slots change as the shape says, and the drawing takes the next number
abbrev pub state_after_drawing : Size → SurfaceState → Drawing → SurfaceState
state_after_drawing size st d = record (slots_after size st d.shape) { picture = drawn_picture size st d; count = st.count + 1 }

abbrev pub state_after_drawings : Size → SurfaceState → List Drawing → SurfaceState
state_after_drawings size st [] = st
state_after_drawings size st (d ∷ ds) = state_after_drawings size (state_after_drawing size st d) ds
