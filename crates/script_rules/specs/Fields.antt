-- The fields of a script's line, and the drawings that they ask for.
use Rattle.std.specs.Prelude.{ℕ, ◌+◌, ◌*◌, ◌/◌, ◌==◌, nat_lt, nat_le, Bool, true, false, ◌&&◌, ℤ, pos, List, [], ◌∷◌, length, replicate, if◌then◌else◌, codes}
use Rattle.std.specs.declared.option.Option.{Option}
use Rattle.std.specs.declared.option.Option.TheVariants.{Some, None}
use Rattle.std.specs.Bool.{then_some}
use Rattle.std.specs.Option.{option_map, option_and_then}
use Rattle.px_core.specs.declared.rectangle.Rect.{Rect}
use Rattle.px_core.specs.Picture.{nat_of}
use Rattle.px_core.specs.Rectangle.{boxed}
use Rattle.line_text.specs.Words.{parts_at, is_same_word}
use Rattle.line_text.specs.Numbers.{number_up_to, coordinate_of, coordinate_limit}
use Rattle.line_text.specs.Hexadecimal.{hexadecimal_of, hexadecimals_of}
use Rattle.draw_ops.specs.declared.shape.Shape.{Shape}
use Rattle.draw_ops.specs.declared.shape.Shape.TheVariants.{Fill, Dst, Pat, Copy, Blit, Blit3, Text, Line, Save, Restore, LoadImage, LoadBrush, LoadGlyph}
use Rattle.draw_ops.specs.declared.shape.Drawing.{Drawing}

-- a coordinate, which may have a minus sign; a count of at most 65,535; a small number of at most 255; so many hexadecimal digits
pub data Field : Type 0 where
  Coordinate : Field
  Count : Field
  Small : Field
  Digits : ℕ → Field

-- the greatest slot, font, code or delta
abbrev pub small_limit : ℕ
small_limit = 255

abbrev pub field_value : Field → List ℕ → Option ℤ
field_value Coordinate word = coordinate_of word
field_value Count word = option_map pos (number_up_to coordinate_limit word)
field_value Small word = option_map pos (number_up_to small_limit word)
field_value (Digits n) word = option_map pos (hexadecimal_of n word)

-- the values of the first words, and the words after them
pub record Values : Type 0 where
  pub numbers : List ℤ
  pub words : List (List ℕ)

abbrev pub with_value : ℤ → Values → Values
with_value z vs = record vs { numbers = z ∷ vs.numbers }

abbrev pub values_of : List Field → List (List ℕ) → Option Values
values_of [] words = Some (record { numbers = []; words = words })
values_of (f ∷ fields) [] = None
values_of (f ∷ fields) (word ∷ words) = option_and_then (λ z. option_map (with_value z) (values_of fields words)) (field_value f word)

-- x, y, w and h of a rectangle
abbrev pub rect_fields : List Field
rect_fields = Coordinate ∷ Coordinate ∷ Count ∷ Count ∷ []

-- a rectangle by these numbers
abbrev pub rect_by : ℤ → ℤ → ℤ → ℤ → Rect
rect_by x y w h = boxed x y (nat_of w) (nat_of h)

-- ---- shapes by the numbers of their fields

abbrev pub fill_by : List ℤ → Option Shape
fill_by (x ∷ y ∷ w ∷ h ∷ color ∷ []) = Some (Fill (rect_by x y w h) (nat_of color))
fill_by numbers = None

abbrev pub dst_by : List ℤ → Option Shape
dst_by (x ∷ y ∷ w ∷ h ∷ rop ∷ []) = Some (Dst (rect_by x y w h) (nat_of rop))
dst_by numbers = None

abbrev pub pat_by : List ℤ → Option Shape
pat_by (x ∷ y ∷ w ∷ h ∷ rop ∷ brush ∷ []) = Some (Pat (rect_by x y w h) (nat_of rop) (nat_of brush))
pat_by numbers = None

abbrev pub copy_by : List ℤ → Option Shape
copy_by (x ∷ y ∷ w ∷ h ∷ rop ∷ sx ∷ sy ∷ []) = Some (Copy (rect_by x y w h) (nat_of rop) sx sy)
copy_by numbers = None

abbrev pub blit_by : List ℤ → Option Shape
blit_by (x ∷ y ∷ w ∷ h ∷ rop ∷ image ∷ sx ∷ sy ∷ []) = Some (Blit (rect_by x y w h) (nat_of rop) (nat_of image) sx sy)
blit_by numbers = None

abbrev pub blit3_by : List ℤ → Option Shape
blit3_by (x ∷ y ∷ w ∷ h ∷ rop ∷ image ∷ sx ∷ sy ∷ brush ∷ []) = Some (Blit3 (rect_by x y w h) (nat_of rop) (nat_of image) sx sy (nat_of brush))
blit3_by numbers = None

abbrev pub line_by : List ℤ → Option Shape
line_by (x0 ∷ y0 ∷ x1 ∷ y1 ∷ color ∷ []) = Some (Line x0 y0 x1 y1 (nat_of color))
line_by numbers = None

abbrev pub save_by : List ℤ → Option Shape
save_by (slot ∷ x ∷ y ∷ w ∷ h ∷ []) = Some (Save (nat_of slot) (rect_by x y w h))
save_by numbers = None

abbrev pub restore_by : List ℤ → Option Shape
restore_by (slot ∷ x ∷ y ∷ []) = Some (Restore (nat_of slot) x y)
restore_by numbers = None

-- ---- runs of glyphs

-- a code and a delta with a colon between
abbrev pub pair_by : List (List ℕ) → Option (ℕ × ℕ)
pair_by (code ∷ delta ∷ []) = option_and_then (λ c. option_map (λ d. (c, d)) (number_up_to small_limit delta)) (number_up_to small_limit code)
pair_by parts = None

abbrev pub pair_of : List ℕ → Option (ℕ × ℕ)
pair_of word = pair_by (parts_at 58 word)

abbrev pub is_clip_word : List ℕ → Bool
is_clip_word word = is_same_word word (codes "clip")

-- the pairs of a run up to a clip, and the words from it on
pub record Pairs : Type 0 where
  pub pairs : List (ℕ × ℕ)
  pub words : List (List ℕ)

abbrev pub with_pair : (ℕ × ℕ) → Pairs → Pairs
with_pair p ps = record ps { pairs = p ∷ ps.pairs }

abbrev pub pairs_of : List (List ℕ) → Option Pairs
pairs_of [] = Some (record { pairs = []; words = [] })
pairs_of (word ∷ words) = if is_clip_word word then Some (record { pairs = []; words = word ∷ words })
    else option_and_then (λ p. option_map (with_pair p) (pairs_of words)) (pair_of word)

abbrev pub text_by : List ℤ → List (ℕ × ℕ) → Option Shape
text_by (x ∷ y ∷ color ∷ font ∷ []) run = Some (Text x y (nat_of color) (nat_of font) run)
text_by numbers run = None

-- ---- loads

abbrev pub is_image_side : ℕ → Bool
is_image_side n = nat_le 1 n && nat_le n 64

-- one colour stands for each pixel; more are the pixels, row by row from the top
abbrev pub image_pixels : ℕ → ℕ → List ℕ → Option (List ℕ)
image_pixels w h [] = None
image_pixels w h (color ∷ []) = Some (replicate (w * h) color)
image_pixels w h (color ∷ next ∷ colors) = then_some (length (color ∷ next ∷ colors) == w * h) (color ∷ next ∷ colors)

-- an image by the test of its sides; one with a bad side has any digits and no pixels
abbrev pub image_with : Bool → ℕ → ℕ → ℕ → List ℕ → Option Shape
image_with true slot w h digits = option_map (λ pixels. LoadImage slot (record { w = w; h = h; pixels = pixels }))
    (option_and_then (image_pixels w h) (hexadecimals_of 6 digits))
image_with false slot w h digits = option_and_then (λ ds. then_some (nat_lt 0 (length ds)) (LoadImage slot (record { w = w; h = h; pixels = [] })))
    (hexadecimals_of 1 digits)

abbrev pub image_by : List ℤ → List (List ℕ) → Option Shape
image_by (slot ∷ w ∷ h ∷ []) (digits ∷ []) = image_with (is_image_side (nat_of w) && is_image_side (nat_of h)) (nat_of slot) (nat_of w) (nat_of h) digits
image_by numbers words = None

-- the number of pixels of a brush
abbrev pub brush_pixels : ℕ
brush_pixels = 64

abbrev pub brush_by : List ℤ → List (List ℕ) → Option Shape
brush_by (slot ∷ []) (digits ∷ []) = option_and_then (λ pixels. then_some (length pixels == brush_pixels) (LoadBrush (nat_of slot) pixels))
    (hexadecimals_of 6 digits)
brush_by numbers words = None

-- the bytes of a glyph's rows, each padded to a byte
abbrev pub glyph_bytes : ℕ → ℕ → ℕ
glyph_bytes cx cy = (cx + 7) / 8 * cy

abbrev pub glyph_by : List ℤ → List (List ℕ) → Option Shape
glyph_by (font ∷ code ∷ x ∷ y ∷ cx ∷ cy ∷ []) (digits ∷ []) = option_and_then (λ bits.
    then_some (nat_lt 0 (length bits)
    && (length bits == glyph_bytes (nat_of cx) (nat_of cy))) (LoadGlyph (nat_of font) (nat_of code)
    (record { x = x; y = y; cx = nat_of cx; cy = nat_of cy; bits = bits })))
    (hexadecimals_of 2 digits)
glyph_by numbers words = None

-- ---- clips

abbrev pub rect_alone : List ℤ → List (List ℕ) → Option Rect
rect_alone (x ∷ y ∷ w ∷ h ∷ []) [] = Some (rect_by x y w h)
rect_alone numbers words = None

-- the rectangle that these words are
abbrev pub rect_of : List (List ℕ) → Option Rect
rect_of words = option_and_then (λ vs. rect_alone vs.numbers vs.words) (values_of rect_fields words)

-- a drawing of a shape, with the clip that the words after its fields give
abbrev pub with_clip : Shape → List (List ℕ) → Option Drawing
with_clip shape [] = Some (record { shape = shape; clip = None })
with_clip shape (word ∷ words) = if is_clip_word word then option_map (λ clip. record { shape = shape; clip = Some clip }) (rect_of words) else None

-- a drawing of a shape, where no words are left
abbrev pub without_clip : Shape → List (List ℕ) → Option Drawing
without_clip shape [] = Some (record { shape = shape; clip = None })
without_clip shape (word ∷ words) = None
