-- How the fields of a line are read, one reader after the other.
use Rattle.std.specs.Bool.{then_some}
use Rattle.std.specs.Prelude.{◌≡◌, ℕ, ◌==◌, nat_lt, ◌&&◌, length, ℤ, pos, List, [], ◌∷◌, ◌++◌, if◌then◌else◌}
use Rattle.std.specs.declared.option.Option.{Option}
use Rattle.std.specs.declared.option.Option.TheVariants.{Some, None}
use Rattle.std.specs.Option.{option_map, option_and_then}
use Rattle.px_core.specs.declared.rectangle.Rect.{Rect}
use Rattle.draw_ops.specs.declared.shape.Shape.{Shape}
use Rattle.draw_ops.specs.declared.shape.Drawing.{Drawing}
use Rattle.draw_ops.specs.declared.shape.Shape.TheVariants.{LoadBrush, LoadGlyph}
use Rattle.draw_ops.specs.Content.{ImageOf}
use Rattle.line_text.specs.Hexadecimal.{hexadecimals_of}
use Rattle.script_lines.specs.declared.text.GlyphRun.{GlyphRun}
use Rattle.script_rules.specs.Forms.{text_fields}
use Rattle.script_rules.specs.Fields.{Field, Values, values_of, rect_fields, rect_of, is_clip_word, with_clip, pairs_of, text_by, image_pixels, brush_pixels, glyph_bytes}
use Rattle.script_rules.specs.Fields.Field.{Coordinate, Count, Small, Digits}

-- these numbers before others
abbrev pub with_values : List ℤ → Values → Values
with_values numbers vs = record vs { numbers = numbers ++ vs.numbers }

-- the first words are fields with these values, whatever fields follow
pub record Reads (fields : List Field) (numbers : List ℤ) (old new : List (List ℕ)) : Type 0 where
  pub values : (more : List Field) → values_of (fields ++ more) old ≡ option_map (with_values numbers) (values_of more new)

-- the first words aren't these fields, whatever fields follow
pub record ReadsNone (fields : List Field) (old : List (List ℕ)) : Type 0 where
  pub none : (more : List Field) → values_of (fields ++ more) old ≡ None

-- the numbers of a rectangle
abbrev pub numbers_of : Rect → List ℤ
numbers_of r = r.x ∷ r.y ∷ pos r.w ∷ pos r.h ∷ []

-- the drawing that words ask for, by its fields and by what may stand after them
abbrev pub drawing_of : (Shape → List (List ℕ) → Option Drawing) → List Field → (List ℤ → Option Shape) → List (List ℕ) → Option Drawing
drawing_of ends fields make words = option_and_then (λ vs. option_and_then (λ shape. ends shape vs.words) (make vs.numbers)) (values_of fields words)

-- the fields of the forms whose rows name them in place

abbrev pub line_fields : List Field
line_fields = Coordinate ∷ Coordinate ∷ Coordinate ∷ Coordinate ∷ Digits 6 ∷ []

abbrev pub save_fields : List Field
save_fields = Small ∷ rect_fields

abbrev pub restore_fields : List Field
restore_fields = Small ∷ Coordinate ∷ Coordinate ∷ []

-- the clip that the words after a shape's fields give, or that they give none
abbrev pub clip_of : List (List ℕ) → Option (Option Rect)
clip_of [] = Some None
clip_of (word ∷ words) = if is_clip_word word then option_map (λ clip. Some clip) (rect_of words) else None

-- ---- runs of glyphs

-- the glyphs that words are, and the clip behind them
abbrev pub run_of : List (List ℕ) → Option (List (ℕ × ℕ) × Option Rect)
run_of words = option_and_then (λ run. option_map (λ clip. (run.pairs, clip)) (clip_of run.words)) (pairs_of words)

-- glyphs and a clip behind them
abbrev pub run_with : List (ℕ × ℕ) → Rect → List (ℕ × ℕ) × Option Rect
run_with pairs clip = (pairs, Some clip)

abbrev pub run_parts : GlyphRun → List (ℕ × ℕ) × Option Rect
run_parts run = (run.pairs.items, run.clip)

-- the text that words ask for
abbrev pub text_of_words : List (List ℕ) → Option Drawing
text_of_words words = option_and_then (λ vs. option_and_then (λ run. option_and_then (λ shape. with_clip shape run.words) (text_by vs.numbers run.pairs)) (pairs_of vs.words)) (values_of text_fields words)

-- ---- loads

-- a drawing that has no clip
abbrev pub loaded : Shape → Drawing
loaded s = record { shape = s; clip = None }

-- the load that words ask for, by its fields and by the words after them
abbrev pub load_of : List Field → (List ℤ → List (List ℕ) → Option Shape) → List (List ℕ) → Option Drawing
load_of fields make words = option_and_then (λ vs. option_map loaded (make vs.numbers vs.words)) (values_of fields words)

abbrev pub image_fields : List Field
image_fields = Small ∷ Count ∷ Count ∷ []

abbrev pub brush_fields : List Field
brush_fields = Small ∷ []

abbrev pub glyph_fields : List Field
glyph_fields = Small ∷ Small ∷ Coordinate ∷ Coordinate ∷ Count ∷ Count ∷ []

-- an image of these sides and pixels
abbrev pub image_by_sides : ℕ → ℕ → List ℕ → ImageOf
image_by_sides w h pixels = record { w = w; h = h; pixels = pixels }

-- the image of a word of colours
abbrev pub image_read : ℕ → ℕ → List ℕ → Option ImageOf
image_read w h digits = option_map (image_by_sides w h) (option_and_then (image_pixels w h) (hexadecimals_of 6 digits))

-- an image without pixels, where a word is hexadecimal digits
abbrev pub image_without : ℕ → ℕ → List ℕ → Option ImageOf
image_without w h digits = option_and_then (λ ds. then_some (nat_lt 0 (length ds)) (image_by_sides w h [])) (hexadecimals_of 1 digits)

-- the load of a brush by its digits
abbrev pub brush_with : ℕ → List ℕ → Option Shape
brush_with slot digits = option_and_then (λ pixels. then_some (length pixels == brush_pixels) (LoadBrush slot pixels)) (hexadecimals_of 6 digits)

-- the load of a glyph by its digits
abbrev pub glyph_with : (font code : ℕ) (x y : ℤ) (cx cy : ℕ) → List ℕ → Option Shape
glyph_with font code x y cx cy digits = option_and_then (λ bits.
    then_some (nat_lt 0 (length bits) && (length bits == glyph_bytes cx cy)) (LoadGlyph font code (record { x = x; y = y; cx = cx; cy = cy; bits = bits })))
    (hexadecimals_of 2 digits)
