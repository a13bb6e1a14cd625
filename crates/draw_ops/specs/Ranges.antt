-- The ranges of a drawing's numbers: in the logic numbers have no bound, and no call can make what lies outside of these.
use Rattle.std.specs.Prelude.{◌≡◌, ℕ, ◌==◌, nat_lt, Bool, true, ◌&&◌, ℤ, pos, negsuc, int_le, List, [], ◌∷◌, length, Option, Some, None}
use Rattle.px_core.specs.declared.rectangle.Rect.{Rect}
use Rattle.draw_ops.specs.declared.shape.Drawing.{Drawing}
use Rattle.draw_ops.specs.declared.shape.Shape.{Shape}
use Rattle.draw_ops.specs.declared.shape.Shape.TheVariants.{Fill, Dst, Pat, Copy, Blit, Blit3, Text, Line, Save, Restore, LoadImage, LoadBrush, LoadGlyph}
use Rattle.draw_ops.specs.Content.{ImageOf, GlyphOf}
use Rattle.px_core.specs.Colors.{is_color, are_colors}

-- numbers of 8, 16 and 32 bits
abbrev pub is_u8 : ℕ → Bool
is_u8 n = nat_lt n 0x100

abbrev pub is_u16 : ℕ → Bool
is_u16 n = nat_lt n 0x10000

abbrev pub is_u32 : ℕ → Bool
is_u32 n = nat_lt n 0x100000000

-- signed numbers of 32 bits
abbrev pub is_i32 : ℤ → Bool
is_i32 z = int_le (negsuc 0x7FFFFFFF) z && int_le z (pos 0x7FFFFFFF)

abbrev pub are_bytes : List ℕ → Bool
are_bytes [] = true
are_bytes (b ∷ bs) = is_u8 b && are_bytes bs

abbrev pub are_byte_pairs : List (ℕ × ℕ) → Bool
are_byte_pairs [] = true
are_byte_pairs (p ∷ ps) = (is_u8 p.0 && is_u8 p.1) && are_byte_pairs ps

abbrev pub is_point_in_range : ℤ → ℤ → Bool
is_point_in_range x y = is_i32 x && is_i32 y

abbrev pub is_rect_in_range : Rect → Bool
is_rect_in_range r = is_point_in_range r.x r.y && (is_u32 r.w && is_u32 r.h)

abbrev pub is_image_in_range : ImageOf → Bool
is_image_in_range image = (is_u16 image.w && is_u16 image.h) && are_colors image.pixels

-- a brush has 64 colours
abbrev pub is_brush_in_range : List ℕ → Bool
is_brush_in_range brush = length brush == 64 && are_colors brush

abbrev pub is_glyph_in_range : GlyphOf → Bool
is_glyph_in_range glyph = (is_point_in_range glyph.x glyph.y && (is_u16 glyph.cx && is_u16 glyph.cy)) && are_bytes glyph.bits

abbrev pub is_clip_in_range : Option Rect → Bool
is_clip_in_range None = true
is_clip_in_range (Some clip) = is_rect_in_range clip

-- each number of a shape is in its type's range, and each colour is one
abbrev pub is_shape_in_range : Shape → Bool
is_shape_in_range (Fill r color) = is_rect_in_range r && is_color color
is_shape_in_range (Dst r code) = is_rect_in_range r && is_u8 code
is_shape_in_range (Pat r code brush) = is_rect_in_range r && (is_u8 code && is_u8 brush)
is_shape_in_range (Copy r code sx sy) = is_rect_in_range r && (is_u8 code && is_point_in_range sx sy)
is_shape_in_range (Blit r code image sx sy) = is_rect_in_range r && ((is_u8 code && is_u8 image) && is_point_in_range sx sy)
is_shape_in_range (Blit3 r code image sx sy brush) = is_rect_in_range r && ((is_u8 code && is_u8 image) && (is_point_in_range sx sy && is_u8 brush))
is_shape_in_range (Text x y color font run) = is_point_in_range x y && ((is_color color && is_u8 font) && are_byte_pairs run)
is_shape_in_range (Line x0 y0 x1 y1 color) = (is_point_in_range x0 y0 && is_point_in_range x1 y1) && is_color color
is_shape_in_range (Save slot r) = is_u8 slot && is_rect_in_range r
is_shape_in_range (Restore slot x y) = is_u8 slot && is_point_in_range x y
is_shape_in_range (LoadImage slot image) = is_u8 slot && is_image_in_range image
is_shape_in_range (LoadBrush slot brush) = is_u8 slot && is_brush_in_range brush
is_shape_in_range (LoadGlyph font code glyph) = (is_u8 font && is_u8 code) && is_glyph_in_range glyph

abbrev pub is_drawing_in_range : Drawing → Bool
is_drawing_in_range d = is_shape_in_range d.shape && is_clip_in_range d.clip

-- the colours of a shape
abbrev pub colors_of : Shape → List ℕ
colors_of (Fill r color) = color ∷ []
colors_of (Dst r code) = []
colors_of (Pat r code brush) = []
colors_of (Copy r code sx sy) = []
colors_of (Blit r code image sx sy) = []
colors_of (Blit3 r code image sx sy brush) = []
colors_of (Text x y color font run) = color ∷ []
colors_of (Line x0 y0 x1 y1 color) = color ∷ []
colors_of (Save slot r) = []
colors_of (Restore slot x y) = []
colors_of (LoadImage slot image) = image.pixels
colors_of (LoadBrush slot brush) = brush
colors_of (LoadGlyph font code glyph) = []

-- every colour of a drawing is one
abbrev pub HasColors : Drawing → Type 0
HasColors d = are_colors (colors_of d.shape) ≡ true
