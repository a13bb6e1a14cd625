-- The colours of the drawings that lines ask for, and the places of rectangles.
use Rattle.std.proofs.Common.{◌≡◌, ℕ, ◌≤◌, ◌*◌, List, [], ◌∷◌, length, refl, ap, sym, ◌∙◌, subst, arith, Some, None, Bool, true, false}
use Rattle.std.specs.Prelude.{Option, ⊤, ℤ, pos, neg_ℤ, negsuc, ◌≤ℤ◌, IfSome, IfOk, Result, Ok, Err, option_map, ◌&&◌, ◌==◌, nat_le, nat_lt, if◌then◌else◌}
use Rattle.std.specs.Option.{option_and_then}
use Rattle.std.specs.Bool.{then_some}
use Rattle.std.proofs.lemmas.Int.{ints}
use Rattle.std.proofs.lemmas.Bool.{and_from}
use Rattle.std.proofs.lemmas.Bool.Decides.{nat_tests}
use Rattle.line_text.specs.Numbers.{number_of, at_most, number_up_to, coordinate_of, coordinate_limit}
use Rattle.line_text.specs.Hexadecimal.{hexadecimal_of, hexadecimals_of}
use Rattle.px_core.specs.Picture.{nat_of}
use Rattle.px_core.specs.Rectangle.{IsPlaced}
use Rattle.px_core.specs.Colors.{is_color, are_colors}
use Rattle.draw_ops.specs.declared.shape.Shape.{Shape}
use Rattle.draw_ops.specs.declared.shape.Shape.TheVariants as shape
use Rattle.draw_ops.specs.declared.shape.Drawing.{Drawing}
use Rattle.draw_ops.specs.Ranges.{colors_of, HasColors}
use Rattle.script_rules.specs.Fields.{Field, Pairs, field_value, values_of, with_value, rect_fields, rect_of, rect_alone, is_clip_word, with_clip, without_clip, pairs_of, text_by, fill_by, dst_by, pat_by, copy_by, blit_by, blit3_by, line_by, save_by, restore_by, image_by, image_with, image_pixels, is_image_side, brush_by, brush_pixels, glyph_by, glyph_bytes}
use Rattle.script_rules.specs.Fields.Field.{Coordinate, Count, Small, Digits}
use Rattle.script_rules.specs.Forms.{fill_fields, raster_fields, text_fields}
use Rattle.script_lines.specs.declared.keyword.Keyword.{Keyword}
use Rattle.script_lines.specs.declared.keyword.Keyword.TheVariants as key
use Rattle.script_lines.specs.declared.step.ViewerStep.{ViewerStep}
use Rattle.script_lines.specs.declared.step.ViewerStep.TheVariants as asks
use Rattle.script_lines.specs.Reading.{drawing_of, text_of_words, load_of, loaded, line_fields, save_fields, restore_fields, image_fields, brush_fields, glyph_fields}
use Rattle.script_lines.specs.Keywords.{step_read, alone_of}
use Rattle.script_lines.specs.Steps.{key_of, char_of, mouse_of}
use Rattle.script_lines.specs.Lines.{IsStepInRange}
use Rattle.script_lines.proofs.Colors.{Found, six_digits, colors_of_digits, one_color}

and_found : {A B : Type 0} (P : A → Type 0) (Q : B → Type 0) (f : A → Option B) (o : Option A) → Found o P → ((a : A) → P a → Found (f a) Q) → Found (option_and_then f o) Q
and_found P Q f None h g = tt
and_found P Q f (Some a) h g = g a h

map_found : {A B : Type 0} (P : A → Type 0) (Q : B → Type 0) (f : A → B) (o : Option A) → Found o P → ((a : A) → P a → Q (f a)) → Found (option_map f o) Q
map_found P Q f None h g = tt
map_found P Q f (Some a) h g = g a h

-- ---- numbers

up_to : (most : ℕ) (o : Option ℕ) → Found (at_most most o) (λ n. n ≤ most)
up_to most None = tt
up_to most (Some n) = by (nat_le n most) refl
  where
    by : (b : Bool) → nat_le n most ≡ b → Found (then_some b n) (λ m. m ≤ most)
    by true e = grind (arith, nat_tests, e)
    by false e = tt

-- a coordinate has a size of at most 65,535
record IsNear (z : ℤ) : Type 0 where
  above : negsuc 65535 ≤ℤ z
  below : z ≤ℤ pos 65536

near_pos : (n : ℕ) → n ≤ 65535 → IsNear (pos n)
near_pos n h = record { above = grind (arith, ints, nat_tests, h); below = grind (arith, ints, nat_tests, h) }

near_neg : (n : ℕ) → n ≤ 65535 → IsNear (neg_ℤ (pos n))
near_neg n h = record { above = grind (arith, ints, nat_tests, h); below = grind (arith, ints, nat_tests, h) }

coordinate_near : (word : List ℕ) → Found (coordinate_of word) IsNear
coordinate_near [] = tt
coordinate_near (b ∷ bs) = by (b == 45)
  where
    by : (t : Bool) → Found (if t then option_map (λ n. neg_ℤ (pos n)) (number_up_to coordinate_limit bs) else option_map pos (number_up_to coordinate_limit (b ∷ bs))) IsNear
    by true = map_found (λ n. n ≤ 65535) IsNear (λ n. neg_ℤ (pos n)) (number_up_to coordinate_limit bs) (up_to coordinate_limit (number_of bs)) near_neg
    by false = map_found (λ n. n ≤ 65535) IsNear pos (number_up_to coordinate_limit (b ∷ bs)) (up_to coordinate_limit (number_of (b ∷ bs))) near_pos

-- ---- fields

abbrev InField : Field → ℤ → Type 0
InField Coordinate z = IsNear z
InField Count z = nat_of z ≤ 65536
InField Small z = ⊤
InField (Digits k) z = k ≡ 6 → is_color (nat_of z) ≡ true

abbrev AllIn : List Field → List ℤ → Type 0
AllIn [] zs = ⊤
AllIn (f ∷ fs) [] = ⊤
AllIn (f ∷ fs) (z ∷ zs) = InField f z × AllIn fs zs

digits_in : (k : ℕ) (word : List ℕ) → Found (hexadecimal_of k word) (λ n. k ≡ 6 → is_color n ≡ true)
digits_in k word = by (hexadecimal_of k word) refl
  where
    by : (o : Option ℕ) → hexadecimal_of k word ≡ o → Found o (λ n. k ≡ 6 → is_color n ≡ true)
    by None e = tt
    by (Some n) e = λ six. subst (λ o. Found o (λ m. is_color m ≡ true)) (ap (λ d. hexadecimal_of d word) (sym six) ∙ e) (six_digits word)

mapped : {A B : Type 0} (P : B → Type 0) (f : A → B) (o : Option A) → ((a : A) → P (f a)) → Found (option_map f o) P
mapped P f None g = tt
mapped P f (Some a) g = g a

field_in : (f : Field) (word : List ℕ) → Found (field_value f word) (InField f)
field_in Coordinate word = coordinate_near word
field_in Count word = map_found (λ n. n ≤ 65535) (InField Count) pos (number_up_to coordinate_limit word) (up_to coordinate_limit (number_of word)) (λ n h. omega (arith, h))
field_in Small word = mapped (InField Small) pos (number_up_to 255 word) (λ n. tt)
field_in (Digits k) word = map_found (λ n. k ≡ 6 → is_color n ≡ true) (InField (Digits k)) pos (hexadecimal_of k word) (digits_in k word) (λ n h. h)

values_in : (fields : List Field) (words : List (List ℕ)) → Found (values_of fields words) (λ vs. AllIn fields vs.numbers)
values_in [] words = tt
values_in (f ∷ fields) [] = tt
values_in (f ∷ fields) (word ∷ words) =
    and_found (InField f) (λ vs. AllIn (f ∷ fields) vs.numbers) (λ z. option_map (with_value z) (values_of fields words)) (field_value f word) (field_in f word) (λ z h.
    map_found (λ vs. AllIn fields vs.numbers) (λ vs. AllIn (f ∷ fields) vs.numbers) (with_value z) (values_of fields words) (values_in fields words) (λ vs k. (h, k)))

-- ---- rectangles

alone_placed : (numbers : List ℤ) (words : List (List ℕ)) → AllIn rect_fields numbers → Found (rect_alone numbers words) IsPlaced
alone_placed (x ∷ y ∷ w ∷ d ∷ []) [] h = record { left = h.0.above; right = h.0.below; above = h.1.0.above; below = h.1.0.below; wide = h.1.1.0; high = h.1.1.1.0 }
alone_placed numbers words h = tt

pub rect_placed : (words : List (List ℕ)) → Found (rect_of words) IsPlaced
rect_placed words = and_found (λ vs. AllIn rect_fields vs.numbers) IsPlaced (λ vs. rect_alone vs.numbers vs.words) (values_of rect_fields words) (values_in rect_fields words) (λ vs h. alone_placed vs.numbers vs.words h)

-- ---- shapes

-- the colours of a shape are colours
abbrev Colored : Shape → Type 0
Colored s = are_colors (colors_of s) ≡ true

abbrev Makes : List Field → (List ℤ → Option Shape) → Type 0
Makes fields make = (numbers : List ℤ) → AllIn fields numbers → Found (make numbers) Colored

one_is : (z : ℤ) → InField (Digits 6) z → are_colors (nat_of z ∷ []) ≡ true
one_is z h = and_from (is_color (nat_of z)) true (h refl) refl

fill_in : Makes fill_fields fill_by
fill_in (x ∷ y ∷ w ∷ d ∷ c ∷ []) h = one_is c h.1.1.1.1.0
fill_in numbers h = tt

line_in : Makes line_fields line_by
line_in (x ∷ y ∷ z ∷ w ∷ c ∷ []) h = one_is c h.1.1.1.1.0
line_in numbers h = tt

dst_in : Makes (raster_fields []) dst_by
dst_in (x ∷ y ∷ w ∷ d ∷ r ∷ []) h = refl
dst_in numbers h = tt

pat_in : Makes (raster_fields (Small ∷ [])) pat_by
pat_in (x ∷ y ∷ w ∷ d ∷ r ∷ b ∷ []) h = refl
pat_in numbers h = tt

copy_in : Makes (raster_fields (Coordinate ∷ Coordinate ∷ [])) copy_by
copy_in (x ∷ y ∷ w ∷ d ∷ r ∷ sx ∷ sy ∷ []) h = refl
copy_in numbers h = tt

blit_in : Makes (raster_fields (Small ∷ Coordinate ∷ Coordinate ∷ [])) blit_by
blit_in (x ∷ y ∷ w ∷ d ∷ r ∷ i ∷ sx ∷ sy ∷ []) h = refl
blit_in numbers h = tt

blit3_in : Makes (raster_fields (Small ∷ Coordinate ∷ Coordinate ∷ Small ∷ [])) blit3_by
blit3_in (x ∷ y ∷ w ∷ d ∷ r ∷ i ∷ sx ∷ sy ∷ b ∷ []) h = refl
blit3_in numbers h = tt

save_in : Makes save_fields save_by
save_in (slot ∷ x ∷ y ∷ w ∷ d ∷ []) h = refl
save_in numbers h = tt

restore_in : Makes restore_fields restore_by
restore_in (slot ∷ x ∷ y ∷ []) h = refl
restore_in numbers h = tt

-- ---- drawings

clip_in : (s : Shape) (words : List (List ℕ)) → Colored s → Found (with_clip s words) HasColors
clip_in s [] h = h
clip_in s (word ∷ words) h = by (is_clip_word word)
  where
    by : (b : Bool) → Found (if b then option_map (λ clip. let d : Drawing = record { shape = s; clip = Some clip } in d) (rect_of words) else None) HasColors
    by true = mapped HasColors (λ clip. let d : Drawing = record { shape = s; clip = Some clip } in d) (rect_of words) (λ clip. h)
    by false = tt

end_in : (s : Shape) (words : List (List ℕ)) → Colored s → Found (without_clip s words) HasColors
end_in s [] h = h
end_in s (word ∷ words) h = tt

drawing_in : (ends : Shape → List (List ℕ) → Option Drawing) (fields : List Field) (make : List ℤ → Option Shape) (words : List (List ℕ))
    → ((s : Shape) (rest : List (List ℕ)) → Colored s → Found (ends s rest) HasColors) → Makes fields make → Found (drawing_of ends fields make words) HasColors
drawing_in ends fields make words ended made =
    and_found (λ vs. AllIn fields vs.numbers) HasColors (λ vs. option_and_then (λ s. ends s vs.words) (make vs.numbers)) (values_of fields words) (values_in fields words)
    (λ vs h. and_found Colored HasColors (λ s. ends s vs.words) (make vs.numbers) (made vs.numbers h) (λ s k. ended s vs.words k))

text_in : (words : List (List ℕ)) → Found (text_of_words words) HasColors
text_in words =
    and_found (λ vs. AllIn text_fields vs.numbers) HasColors (λ vs. option_and_then (λ run. option_and_then (λ s. with_clip s run.words) (text_by vs.numbers run.pairs)) (pairs_of vs.words)) (values_of text_fields words)
    (values_in text_fields words) (λ vs h. with_run vs.numbers h (pairs_of vs.words))
  where
    made : (numbers : List ℤ) (run : List (ℕ × ℕ)) → AllIn text_fields numbers → Found (text_by numbers run) Colored
    made (x ∷ y ∷ c ∷ f ∷ []) run h = one_is c h.1.1.0
    made numbers run h = tt

    with_run : (numbers : List ℤ) → AllIn text_fields numbers → (o : Option Pairs) → Found (option_and_then (λ run. option_and_then (λ s. with_clip s run.words) (text_by numbers run.pairs)) o) HasColors
    with_run numbers h None = tt
    with_run numbers h (Some run) = and_found Colored HasColors (λ s. with_clip s run.words) (text_by numbers run.pairs) (made numbers run.pairs h) (λ s k. clip_in s run.words k)

-- ---- loads

abbrev Loads : (List ℤ → List (List ℕ) → Option Shape) → Type 0
Loads make = (numbers : List ℤ) (words : List (List ℕ)) → Found (make numbers words) Colored

kept : (test : Bool) (s : Shape) → Colored s → Found (then_some test s) Colored
kept true s h = h
kept false s h = tt

pixels_in : (w d : ℕ) (colors : List ℕ) → are_colors colors ≡ true → Found (image_pixels w d colors) (λ ps. are_colors ps ≡ true)
pixels_in w d [] h = tt
pixels_in w d (c ∷ []) h = one_color _ c h
pixels_in w d (c ∷ next ∷ cs) h = by (length (c ∷ next ∷ cs) == w * d)
  where
    by : (b : Bool) → Found (then_some b (c ∷ next ∷ cs)) (λ ps. are_colors ps ≡ true)
    by true = h
    by false = tt

image_with_in : (test : Bool) (slot w d : ℕ) (digits : List ℕ) → Found (image_with test slot w d digits) Colored
image_with_in true slot w d digits = map_found (λ ps. are_colors ps ≡ true) Colored (λ ps. shape.LoadImage slot (record { w = w; h = d; pixels = ps })) (option_and_then (image_pixels w d) (hexadecimals_of 6 digits))
    (and_found (λ cs. are_colors cs ≡ true) (λ ps. are_colors ps ≡ true) (image_pixels w d) (hexadecimals_of 6 digits) (colors_of_digits digits) (pixels_in w d)) (λ ps h. h)
image_with_in false slot w d digits = and_found (λ ds. ⊤) Colored (λ ds. then_some (nat_lt 0 (length ds)) (shape.LoadImage slot (record { w = w; h = d; pixels = [] }))) (hexadecimals_of 1 digits)
    (always (hexadecimals_of 1 digits)) (λ ds h. kept (nat_lt 0 (length ds)) (shape.LoadImage slot (record { w = w; h = d; pixels = [] })) refl)
  where
    always : (o : Option (List ℕ)) → Found o (λ ds. ⊤)
    always None = tt
    always (Some ds) = tt

image_in : Loads image_by
image_in (slot ∷ w ∷ d ∷ []) (digits ∷ []) = image_with_in (is_image_side (nat_of w) && is_image_side (nat_of d)) (nat_of slot) (nat_of w) (nat_of d) digits
image_in numbers words = tt

brush_in : Loads brush_by
brush_in (slot ∷ []) (digits ∷ []) = and_found (λ cs. are_colors cs ≡ true) Colored (λ cs. then_some (length cs == brush_pixels) (shape.LoadBrush (nat_of slot) cs)) (hexadecimals_of 6 digits) (colors_of_digits digits)
    (λ cs h. kept (length cs == brush_pixels) (shape.LoadBrush (nat_of slot) cs) h)
brush_in numbers words = tt

load_in : (fields : List Field) (make : List ℤ → List (List ℕ) → Option Shape) (words : List (List ℕ)) → Loads make → Found (load_of fields make words) HasColors
load_in fields make words made =
    and_found (λ vs. AllIn fields vs.numbers) HasColors (λ vs. option_map loaded (make vs.numbers vs.words)) (values_of fields words) (values_in fields words)
    (λ vs h. map_found Colored HasColors loaded (make vs.numbers vs.words) (made vs.numbers vs.words) (λ s k. k))

-- ---- steps

drawn_in : (o : Option Drawing) → Found o HasColors → Found (option_map (λ d. asks.Draw d) o) IsStepInRange
drawn_in o h = map_found HasColors IsStepInRange (λ d. asks.Draw d) o h (λ d k. k)

alone_in : (s : ViewerStep) (words : List (List ℕ)) → IsStepInRange s → Found (alone_of s words) IsStepInRange
alone_in s [] h = h
alone_in s (word ∷ words) h = tt

glyph_in : Loads glyph_by
glyph_in (font ∷ code ∷ x ∷ y ∷ cx ∷ cy ∷ []) (digits ∷ []) = by (hexadecimals_of 2 digits)
  where
    by : (o : Option (List ℕ)) → Found (option_and_then (λ bits.
        then_some (nat_lt 0 (length bits) && (length bits == glyph_bytes (nat_of cx) (nat_of cy))) (shape.LoadGlyph (nat_of font) (nat_of code) (record { x = x; y = y; cx = nat_of cx; cy = nat_of cy; bits = bits }))) o) Colored
    by None = tt
    by (Some bits) = kept (nat_lt 0 (length bits) && (length bits == glyph_bytes (nat_of cx) (nat_of cy))) (shape.LoadGlyph (nat_of font) (nat_of code) (record { x = x; y = y; cx = nat_of cx; cy = nat_of cy; bits = bits })) refl
glyph_in numbers words = tt

-- what the words after a keyword ask for is in range
read_in : (k : Keyword) (words : List (List ℕ)) → Found (step_read k words) IsStepInRange
read_in key.Leave words = alone_in asks.Leave words tt
read_in key.Take words = alone_in asks.Take words tt
read_in key.Suppress words = alone_in (asks.Suppress true) words tt
read_in key.Allow words = alone_in (asks.Suppress false) words tt
read_in key.Refresh words = map_found IsPlaced IsStepInRange (λ r. asks.Refresh r) (rect_of words) (rect_placed words) (λ r h. h)
read_in key.Key words = mapped IsStepInRange (λ e. asks.Input e) (key_of words) (λ e. tt)
read_in key.Char words = mapped IsStepInRange (λ e. asks.Input e) (char_of words) (λ e. tt)
read_in key.Mouse words = mapped IsStepInRange (λ e. asks.Input e) (mouse_of words) (λ e. tt)
read_in key.Fill words = drawn_in (drawing_of with_clip fill_fields fill_by words) (drawing_in with_clip fill_fields fill_by words clip_in fill_in)
read_in key.Dst words = drawn_in (drawing_of with_clip (raster_fields []) dst_by words) (drawing_in with_clip (raster_fields []) dst_by words clip_in dst_in)
read_in key.Pat words = drawn_in (drawing_of with_clip (raster_fields (Small ∷ [])) pat_by words) (drawing_in with_clip (raster_fields (Small ∷ [])) pat_by words clip_in pat_in)
read_in key.Copy words = drawn_in (drawing_of with_clip (raster_fields (Coordinate ∷ Coordinate ∷ [])) copy_by words) (drawing_in with_clip (raster_fields (Coordinate ∷ Coordinate ∷ [])) copy_by words clip_in copy_in)
read_in key.Blit words = drawn_in (drawing_of with_clip (raster_fields (Small ∷ Coordinate ∷ Coordinate ∷ [])) blit_by words) (drawing_in with_clip (raster_fields (Small ∷ Coordinate ∷ Coordinate ∷ [])) blit_by words clip_in blit_in)
read_in key.Blit3 words = drawn_in (drawing_of with_clip (raster_fields (Small ∷ Coordinate ∷ Coordinate ∷ Small ∷ [])) blit3_by words) (drawing_in with_clip (raster_fields (Small ∷ Coordinate ∷ Coordinate ∷ Small ∷ [])) blit3_by words clip_in blit3_in)
read_in key.Text words = drawn_in (text_of_words words) (text_in words)
read_in key.Line words = drawn_in (drawing_of with_clip line_fields line_by words) (drawing_in with_clip line_fields line_by words clip_in line_in)
read_in key.Save words = drawn_in (drawing_of without_clip save_fields save_by words) (drawing_in without_clip save_fields save_by words end_in save_in)
read_in key.Restore words = drawn_in (drawing_of without_clip restore_fields restore_by words) (drawing_in without_clip restore_fields restore_by words end_in restore_in)
read_in key.Image words = drawn_in (load_of image_fields image_by words) (load_in image_fields image_by words image_in)
read_in key.Brush words = drawn_in (load_of brush_fields brush_by words) (load_in brush_fields brush_by words brush_in)
read_in key.Glyph words = drawn_in (load_of glyph_fields glyph_by words) (load_in glyph_fields glyph_by words glyph_in)

pub found_in_range : {E : Type 0} (k : Keyword) (words : List (List ℕ)) (r : Result (Option ViewerStep) E) → IfOk r (λ step. step ≡ step_read k words) → IfOk r (λ step. IfSome step IsStepInRange)
found_in_range k words (Ok None) e = tt
found_in_range k words (Ok (Some s)) e = subst (λ o. Found o IsStepInRange) (sym e) (read_in k words)
found_in_range k words (Err x) e = tt
