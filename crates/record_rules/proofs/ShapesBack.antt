-- Each shape that is written is read back, whatever follows it.
use Rattle.std.proofs.Common.{◌≡◌, ℕ, ◌*◌, true, List, [], ◌∷◌, ◌++◌, length, refl, ◌∙◌, Ok}
use Rattle.std.specs.Prelude.{ℤ, nat_le, ◌==◌}
use Rattle.std.proofs.lemmas.Bool.{and_from, and_parts, eqb-true}
use Rattle.wire_num.specs.Field.{Read, then_read, map_read, bytes_at}
use Rattle.wire_num.specs.FieldValue.{is_at_most}
use Rattle.px_core.specs.declared.rectangle.Rect.{Rect}
use Rattle.px_core.specs.Colors.{are_colors}
use Rattle.draw_ops.specs.Ranges.{are_bytes, is_brush_in_range}
use Rattle.draw_ops.specs.Content.{ImageOf, GlyphOf}
use Rattle.draw_ops.specs.declared.shape.Shape.{Shape}
use Rattle.draw_ops.specs.declared.shape.Shape.TheVariants.{Fill, Dst, Pat, Copy, Blit, Blit3, Text, Line, Save, Restore, LoadImage, LoadBrush, LoadGlyph}
use Rattle.record_rules.specs.declared.field.Field.{Field}
use Rattle.record_rules.specs.declared.field.Field.TheVariants.{Byte, SignedByte, SignedShort, Color}
use Rattle.record_rules.specs.Fields.{fields_bytes, colors_bytes, pairs_bytes, is_in_place, are_in_place}
use Rattle.record_rules.specs.Tables.{rect_fields, shape_fields, shape_rest, is_rest_in_place, glyph_bytes}
use Rattle.record_rules.specs.Reading.{byte_at, signed_byte_at, color_at, colors_at, pairs_at, point_at, rect_at, fill_at, dst_at, pat_at, copy_at, blit_at, blit3_at, text_at, line_at, save_at, restore_at, image_at, brush_at, glyph_at, shape_by, shape_at, last_shape, brush_pixels}
use Rattle.record_rules.proofs.FieldsBack.{then_back, map_back, passing_back, byte_back, signed_byte_back, color_back, bytes_back, colors_back, pairs_back, point_back, rect_back}

pub in_place_parts : (xs ys : List Field) → are_in_place (xs ++ ys) ≡ true → (are_in_place xs ≡ true) × (are_in_place ys ≡ true)
in_place_parts [] ys h = (refl, h)
in_place_parts (x ∷ xs) ys h =
    let k = and_parts (is_in_place x) (are_in_place (xs ++ ys)) h in
    let m = in_place_parts xs ys k.1 in
    (and_from (is_in_place x) (are_in_place xs) k.0 m.0, m.1)

-- the first field has place, and the others
pub first_in_place : (f : Field) (fs : List Field) → are_in_place (f ∷ fs) ≡ true → (is_in_place f ≡ true) × (are_in_place fs ≡ true)
first_in_place f fs h = and_parts (is_in_place f) (are_in_place fs) h

-- a rectangle before other fields
pub rect_first : {A : Type 0} (r : Rect) (fs : List Field) (rest : List ℕ) (f : Rect → List ℕ → Read A) → are_in_place (rect_fields r ++ fs) ≡ true
    → then_read (rect_at (fields_bytes (rect_fields r ++ fs) ++ rest)) f ≡ f r (fields_bytes fs ++ rest)
rect_first r fs rest f h = then_back _ r (fields_bytes fs ++ rest) f (rect_back r (fields_bytes fs ++ rest) (in_place_parts (rect_fields r) fs h).0)

pub fields_after_rect : (r : Rect) (fs : List Field) → are_in_place (rect_fields r ++ fs) ≡ true → are_in_place fs ≡ true
fields_after_rect r fs h = (in_place_parts (rect_fields r) fs h).1

-- a byte before other fields
pub byte_first : {A : Type 0} (n : ℕ) (fs : List Field) (rest : List ℕ) (f : ℕ → List ℕ → Read A) → then_read (byte_at (fields_bytes (Byte n ∷ fs) ++ rest)) f ≡ f n (fields_bytes fs ++ rest)
byte_first n fs rest f = then_back _ n (fields_bytes fs ++ rest) f (byte_back n (fields_bytes fs ++ rest))

-- two signed numbers before other fields
pub point_first : {A : Type 0} (x y : ℤ) (fs : List Field) (rest : List ℕ) (f : ℤ × ℤ → List ℕ → Read A) → are_in_place (SignedShort x ∷ SignedShort y ∷ fs) ≡ true
    → then_read (point_at (fields_bytes (SignedShort x ∷ SignedShort y ∷ fs) ++ rest)) f ≡ f (x, y) (fields_bytes fs ++ rest)
point_first x y fs rest f h =
    let k = first_in_place (SignedShort x) (SignedShort y ∷ fs) h in
    let m = first_in_place (SignedShort y) fs k.1 in
    then_back _ (x, y) (fields_bytes fs ++ rest) f (point_back x y (fields_bytes fs ++ rest) k.0 m.0)

fields_after_point : (x y : ℤ) (fs : List Field) → are_in_place (SignedShort x ∷ SignedShort y ∷ fs) ≡ true → are_in_place fs ≡ true
fields_after_point x y fs h = (first_in_place (SignedShort y) fs (first_in_place (SignedShort x) (SignedShort y ∷ fs) h).1).1

fill_back : (r : Rect) (c : ℕ) (rest : List ℕ) → are_in_place (rect_fields r ++ Color c ∷ []) ≡ true → fill_at (fields_bytes (rect_fields r ++ Color c ∷ []) ++ rest) ≡ Ok (Fill r c, rest)
unfolding fill_at
fill_back r c rest h =
    rect_first r (Color c ∷ []) rest (λ r more. map_read (λ color. Fill r color) (color_at more)) h
    ∙ map_back _ c rest (λ color. Fill r color) (color_back c rest (first_in_place (Color c) [] (fields_after_rect r (Color c ∷ []) h)).0)

dst_back : (r : Rect) (code : ℕ) (rest : List ℕ) → are_in_place (rect_fields r ++ Byte code ∷ []) ≡ true → dst_at (fields_bytes (rect_fields r ++ Byte code ∷ []) ++ rest) ≡ Ok (Dst r code, rest)
unfolding dst_at
dst_back r code rest h =
    rect_first r (Byte code ∷ []) rest (λ r more. map_read (λ code. Dst r code) (byte_at more)) h
    ∙ map_back _ code rest (λ code. Dst r code) (byte_back code rest)

pat_back : (r : Rect) (code brush : ℕ) (rest : List ℕ) → are_in_place (rect_fields r ++ Byte code ∷ Byte brush ∷ []) ≡ true
    → pat_at (fields_bytes (rect_fields r ++ Byte code ∷ Byte brush ∷ []) ++ rest) ≡ Ok (Pat r code brush, rest)
unfolding pat_at
pat_back r code brush rest h =
    rect_first r (Byte code ∷ Byte brush ∷ []) rest (λ r more. then_read (byte_at more) (λ code more. map_read (λ brush. Pat r code brush) (byte_at more))) h
    ∙ byte_first code (Byte brush ∷ []) rest (λ code more. map_read (λ brush. Pat r code brush) (byte_at more))
    ∙ map_back _ brush rest (λ brush. Pat r code brush) (byte_back brush rest)

point_last : {A : Type 0} (x y : ℤ) (rest : List ℕ) (f : ℤ × ℤ → A) → are_in_place (SignedShort x ∷ SignedShort y ∷ []) ≡ true
    → map_read f (point_at (fields_bytes (SignedShort x ∷ SignedShort y ∷ []) ++ rest)) ≡ Ok (f (x, y), rest)
point_last x y rest f h =
    let k = first_in_place (SignedShort x) (SignedShort y ∷ []) h in
    map_back _ (x, y) rest f (point_back x y rest k.0 (first_in_place (SignedShort y) [] k.1).0)

copy_back : (r : Rect) (code : ℕ) (x y : ℤ) (rest : List ℕ) → are_in_place (rect_fields r ++ Byte code ∷ SignedShort x ∷ SignedShort y ∷ []) ≡ true
    → copy_at (fields_bytes (rect_fields r ++ Byte code ∷ SignedShort x ∷ SignedShort y ∷ []) ++ rest) ≡ Ok (Copy r code x y, rest)
unfolding copy_at
copy_back r code x y rest h =
    let k = first_in_place (Byte code) (SignedShort x ∷ SignedShort y ∷ []) (fields_after_rect r (Byte code ∷ SignedShort x ∷ SignedShort y ∷ []) h) in
    rect_first r (Byte code ∷ SignedShort x ∷ SignedShort y ∷ []) rest (λ r more. then_read (byte_at more) (λ code more. map_read (λ p. Copy r code p.0 p.1) (point_at more))) h
    ∙ byte_first code (SignedShort x ∷ SignedShort y ∷ []) rest (λ code more. map_read (λ p. Copy r code p.0 p.1) (point_at more))
    ∙ point_last x y rest (λ p. Copy r code p.0 p.1) k.1

blit_back : (r : Rect) (code image : ℕ) (x y : ℤ) (rest : List ℕ) → are_in_place (rect_fields r ++ Byte code ∷ Byte image ∷ SignedShort x ∷ SignedShort y ∷ []) ≡ true
    → blit_at (fields_bytes (rect_fields r ++ Byte code ∷ Byte image ∷ SignedShort x ∷ SignedShort y ∷ []) ++ rest) ≡ Ok (Blit r code image x y, rest)
unfolding blit_at
blit_back r code image x y rest h =
    let k = first_in_place (Byte code) (Byte image ∷ SignedShort x ∷ SignedShort y ∷ []) (fields_after_rect r (Byte code ∷ Byte image ∷ SignedShort x ∷ SignedShort y ∷ []) h) in
    let m = first_in_place (Byte image) (SignedShort x ∷ SignedShort y ∷ []) k.1 in
    rect_first r (Byte code ∷ Byte image ∷ SignedShort x ∷ SignedShort y ∷ []) rest
    (λ r more. then_read (byte_at more) (λ code more. then_read (byte_at more) (λ image more. map_read (λ p. Blit r code image p.0 p.1) (point_at more)))) h
    ∙ byte_first code (Byte image ∷ SignedShort x ∷ SignedShort y ∷ []) rest (λ code more. then_read (byte_at more) (λ image more. map_read (λ p. Blit r code image p.0 p.1) (point_at more)))
    ∙ byte_first image (SignedShort x ∷ SignedShort y ∷ []) rest (λ image more. map_read (λ p. Blit r code image p.0 p.1) (point_at more))
    ∙ point_last x y rest (λ p. Blit r code image p.0 p.1) m.1

blit3_back : (r : Rect) (code image : ℕ) (x y : ℤ) (brush : ℕ) (rest : List ℕ) → are_in_place (rect_fields r ++ Byte code ∷ Byte image ∷ SignedShort x ∷ SignedShort y ∷ Byte brush ∷ []) ≡ true
    → blit3_at (fields_bytes (rect_fields r ++ Byte code ∷ Byte image ∷ SignedShort x ∷ SignedShort y ∷ Byte brush ∷ []) ++ rest) ≡ Ok (Blit3 r code image x y brush, rest)
unfolding blit3_at
blit3_back r code image x y brush rest h =
    let k = first_in_place (Byte code) (Byte image ∷ SignedShort x ∷ SignedShort y ∷ Byte brush ∷ []) (fields_after_rect r (Byte code ∷ Byte image ∷ SignedShort x ∷ SignedShort y ∷ Byte brush ∷ []) h) in
    let m = first_in_place (Byte image) (SignedShort x ∷ SignedShort y ∷ Byte brush ∷ []) k.1 in
    rect_first r (Byte code ∷ Byte image ∷ SignedShort x ∷ SignedShort y ∷ Byte brush ∷ []) rest
    (λ r more. then_read (byte_at more) (λ code more. then_read (byte_at more) (λ image more. then_read (point_at more) (λ p more. map_read (λ brush. Blit3 r code image p.0 p.1 brush) (byte_at more))))) h
    ∙ byte_first code (Byte image ∷ SignedShort x ∷ SignedShort y ∷ Byte brush ∷ []) rest
    (λ code more. then_read (byte_at more) (λ image more. then_read (point_at more) (λ p more. map_read (λ brush. Blit3 r code image p.0 p.1 brush) (byte_at more))))
    ∙ byte_first image (SignedShort x ∷ SignedShort y ∷ Byte brush ∷ []) rest (λ image more. then_read (point_at more) (λ p more. map_read (λ brush. Blit3 r code image p.0 p.1 brush) (byte_at more)))
    ∙ point_first x y (Byte brush ∷ []) rest (λ p more. map_read (λ brush. Blit3 r code image p.0 p.1 brush) (byte_at more)) m.1
    ∙ map_back _ brush rest (λ brush. Blit3 r code image x y brush) (byte_back brush rest)

text_back : (x y : ℤ) (color font : ℕ) (run : List (ℕ × ℕ)) (rest : List ℕ) → are_in_place (SignedShort x ∷ SignedShort y ∷ Color color ∷ Byte font ∷ Byte (length run) ∷ []) ≡ true
    → text_at (fields_bytes (SignedShort x ∷ SignedShort y ∷ Color color ∷ Byte font ∷ Byte (length run) ∷ []) ++ (pairs_bytes run ++ rest)) ≡ Ok (Text x y color font run, rest)
unfolding text_at
text_back x y color font run rest h =
    let k = first_in_place (Color color) (Byte font ∷ Byte (length run) ∷ []) (fields_after_point x y (Color color ∷ Byte font ∷ Byte (length run) ∷ []) h) in
    point_first x y (Color color ∷ Byte font ∷ Byte (length run) ∷ []) (pairs_bytes run ++ rest)
    (λ p more. then_read (color_at more) (λ color more. then_read (byte_at more) (λ font more. then_read (byte_at more) (λ count more. map_read (λ run. Text p.0 p.1 color font run) (pairs_at count more))))) h
    ∙ then_back _ color (fields_bytes (Byte font ∷ Byte (length run) ∷ []) ++ (pairs_bytes run ++ rest))
    (λ color more. then_read (byte_at more) (λ font more. then_read (byte_at more) (λ count more. map_read (λ run. Text x y color font run) (pairs_at count more))))
    (color_back color (fields_bytes (Byte font ∷ Byte (length run) ∷ []) ++ (pairs_bytes run ++ rest)) k.0)
    ∙ byte_first font (Byte (length run) ∷ []) (pairs_bytes run ++ rest) (λ font more. then_read (byte_at more) (λ count more. map_read (λ run. Text x y color font run) (pairs_at count more)))
    ∙ byte_first (length run) [] (pairs_bytes run ++ rest) (λ count more. map_read (λ run. Text x y color font run) (pairs_at count more))
    ∙ map_back _ run rest (λ run. Text x y color font run) (pairs_back run rest)

line_back : (x0 y0 x1 y1 : ℤ) (color : ℕ) (rest : List ℕ) → are_in_place (SignedShort x0 ∷ SignedShort y0 ∷ SignedShort x1 ∷ SignedShort y1 ∷ Color color ∷ []) ≡ true
    → line_at (fields_bytes (SignedShort x0 ∷ SignedShort y0 ∷ SignedShort x1 ∷ SignedShort y1 ∷ Color color ∷ []) ++ rest) ≡ Ok (Line x0 y0 x1 y1 color, rest)
unfolding line_at
line_back x0 y0 x1 y1 color rest h =
    let k = fields_after_point x0 y0 (SignedShort x1 ∷ SignedShort y1 ∷ Color color ∷ []) h in
    point_first x0 y0 (SignedShort x1 ∷ SignedShort y1 ∷ Color color ∷ []) rest (λ p more. then_read (point_at more) (λ q more. map_read (λ color. Line p.0 p.1 q.0 q.1 color) (color_at more))) h
    ∙ point_first x1 y1 (Color color ∷ []) rest (λ q more. map_read (λ color. Line x0 y0 q.0 q.1 color) (color_at more)) k
    ∙ map_back _ color rest (λ color. Line x0 y0 x1 y1 color) (color_back color rest (first_in_place (Color color) [] (fields_after_point x1 y1 (Color color ∷ []) k)).0)

save_back : (slot : ℕ) (r : Rect) (rest : List ℕ) → are_in_place (Byte slot ∷ rect_fields r) ≡ true → save_at (fields_bytes (Byte slot ∷ rect_fields r) ++ rest) ≡ Ok (Save slot r, rest)
unfolding save_at
save_back slot r rest h =
    byte_first slot (rect_fields r) rest (λ slot more. map_read (λ r. Save slot r) (rect_at more))
    ∙ map_back _ r rest (λ r. Save slot r) (rect_back r rest (first_in_place (Byte slot) (rect_fields r) h).1)

restore_back : (slot : ℕ) (x y : ℤ) (rest : List ℕ) → are_in_place (Byte slot ∷ SignedShort x ∷ SignedShort y ∷ []) ≡ true
    → restore_at (fields_bytes (Byte slot ∷ SignedShort x ∷ SignedShort y ∷ []) ++ rest) ≡ Ok (Restore slot x y, rest)
unfolding restore_at
restore_back slot x y rest h =
    byte_first slot (SignedShort x ∷ SignedShort y ∷ []) rest (λ slot more. map_read (λ p. Restore slot p.0 p.1) (point_at more))
    ∙ point_last x y rest (λ p. Restore slot p.0 p.1) (first_in_place (Byte slot) (SignedShort x ∷ SignedShort y ∷ []) h).1

image_back : (slot : ℕ) (image : ImageOf) (rest : List ℕ) → is_rest_in_place (LoadImage slot image) ≡ true
    → image_at (fields_bytes (Byte slot ∷ Byte image.w ∷ Byte image.h ∷ []) ++ (colors_bytes image.pixels ++ rest)) ≡ Ok (LoadImage slot image, rest)
unfolding image_at
image_back slot image rest h =
    let k = and_parts (length image.pixels == image.w * image.h) (are_colors image.pixels) h in
    byte_first slot (Byte image.w ∷ Byte image.h ∷ []) (colors_bytes image.pixels ++ rest)
    (λ slot more. then_read (byte_at more) (λ w more. then_read (byte_at more) (λ h more. map_read (λ pixels. LoadImage slot (record { w = w; h = h; pixels = pixels })) (colors_at (w * h) more))))
    ∙ byte_first image.w (Byte image.h ∷ []) (colors_bytes image.pixels ++ rest)
    (λ w more. then_read (byte_at more) (λ h more. map_read (λ pixels. LoadImage slot (record { w = w; h = h; pixels = pixels })) (colors_at (w * h) more)))
    ∙ byte_first image.h [] (colors_bytes image.pixels ++ rest) (λ h more. map_read (λ pixels. LoadImage slot (record { w = image.w; h = h; pixels = pixels })) (colors_at (image.w * h) more))
    ∙ map_back _ image.pixels rest (λ (pixels : List ℕ). LoadImage slot (record { w = image.w; h = image.h; pixels = pixels }))
    (colors_back (image.w * image.h) image.pixels rest (eqb-true (length image.pixels) (image.w * image.h) k.0) k.1)

brush_back : (slot : ℕ) (brush rest : List ℕ) → is_brush_in_range brush ≡ true → brush_at (fields_bytes (Byte slot ∷ []) ++ (colors_bytes brush ++ rest)) ≡ Ok (LoadBrush slot brush, rest)
unfolding brush_at
brush_back slot brush rest h =
    let k = and_parts (length brush == 64) (are_colors brush) h in
    byte_first slot [] (colors_bytes brush ++ rest) (λ slot more. map_read (λ pixels. LoadBrush slot pixels) (colors_at brush_pixels more))
    ∙ map_back _ brush rest (λ pixels. LoadBrush slot pixels) (colors_back 64 brush rest (eqb-true (length brush) 64 k.0) k.1)

glyph_back : (font code : ℕ) (glyph : GlyphOf) (rest : List ℕ)
    → are_in_place (Byte font ∷ Byte code ∷ SignedByte glyph.x ∷ SignedByte glyph.y ∷ Byte glyph.cx ∷ Byte glyph.cy ∷ []) ≡ true → is_rest_in_place (LoadGlyph font code glyph) ≡ true
    → glyph_at (fields_bytes (Byte font ∷ Byte code ∷ SignedByte glyph.x ∷ SignedByte glyph.y ∷ Byte glyph.cx ∷ Byte glyph.cy ∷ []) ++ (glyph.bits ++ rest)) ≡ Ok (LoadGlyph font code glyph, rest)
unfolding glyph_at
glyph_back font code glyph rest h held =
    let k = and_parts (length glyph.bits == glyph_bytes glyph.cx glyph.cy) (are_bytes glyph.bits) held in
    let a = first_in_place (Byte code) (SignedByte glyph.x ∷ SignedByte glyph.y ∷ Byte glyph.cx ∷ Byte glyph.cy ∷ [])
    (first_in_place (Byte font) (Byte code ∷ SignedByte glyph.x ∷ SignedByte glyph.y ∷ Byte glyph.cx ∷ Byte glyph.cy ∷ []) h).1 in
    let b = first_in_place (SignedByte glyph.x) (SignedByte glyph.y ∷ Byte glyph.cx ∷ Byte glyph.cy ∷ []) a.1 in
    let c = first_in_place (SignedByte glyph.y) (Byte glyph.cx ∷ Byte glyph.cy ∷ []) b.1 in
    let more : List ℕ = glyph.bits ++ rest in
    byte_first font (Byte code ∷ SignedByte glyph.x ∷ SignedByte glyph.y ∷ Byte glyph.cx ∷ Byte glyph.cy ∷ []) more
    (λ font more. then_read (byte_at more) (λ code more. then_read (signed_byte_at more) (λ x more. then_read (signed_byte_at more) (λ y more. then_read (byte_at more) (λ cx more. then_read (byte_at more) (λ cy more.
    map_read (λ bits. LoadGlyph font code (record { x = x; y = y; cx = cx; cy = cy; bits = bits })) (bytes_at (glyph_bytes cx cy) more)))))))
    ∙ byte_first code (SignedByte glyph.x ∷ SignedByte glyph.y ∷ Byte glyph.cx ∷ Byte glyph.cy ∷ []) more
    (λ code more. then_read (signed_byte_at more) (λ x more. then_read (signed_byte_at more) (λ y more. then_read (byte_at more) (λ cx more. then_read (byte_at more) (λ cy more.
    map_read (λ bits. LoadGlyph font code (record { x = x; y = y; cx = cx; cy = cy; bits = bits })) (bytes_at (glyph_bytes cx cy) more))))))
    ∙ then_back _ glyph.x (fields_bytes (SignedByte glyph.y ∷ Byte glyph.cx ∷ Byte glyph.cy ∷ []) ++ more)
    (λ x more. then_read (signed_byte_at more) (λ y more. then_read (byte_at more) (λ cx more. then_read (byte_at more) (λ cy more.
    map_read (λ bits. LoadGlyph font code (record { x = x; y = y; cx = cx; cy = cy; bits = bits })) (bytes_at (glyph_bytes cx cy) more)))))
    (signed_byte_back glyph.x (fields_bytes (SignedByte glyph.y ∷ Byte glyph.cx ∷ Byte glyph.cy ∷ []) ++ more) b.0)
    ∙ then_back _ glyph.y (fields_bytes (Byte glyph.cx ∷ Byte glyph.cy ∷ []) ++ more)
    (λ y more. then_read (byte_at more) (λ cx more. then_read (byte_at more) (λ cy more.
    map_read (λ bits. LoadGlyph font code (record { x = glyph.x; y = y; cx = cx; cy = cy; bits = bits })) (bytes_at (glyph_bytes cx cy) more))))
    (signed_byte_back glyph.y (fields_bytes (Byte glyph.cx ∷ Byte glyph.cy ∷ []) ++ more) c.0)
    ∙ byte_first glyph.cx (Byte glyph.cy ∷ []) more (λ cx more. then_read (byte_at more) (λ cy more. map_read (λ bits. LoadGlyph font code (record { x = glyph.x; y = glyph.y; cx = cx; cy = cy; bits = bits })) (bytes_at (glyph_bytes cx cy) more)))
    ∙ byte_first glyph.cy [] more (λ cy more. map_read (λ bits. LoadGlyph font code (record { x = glyph.x; y = glyph.y; cx = glyph.cx; cy = cy; bits = bits })) (bytes_at (glyph_bytes glyph.cx cy) more))
    ∙ map_back _ glyph.bits rest (λ (bits : List ℕ). LoadGlyph font code (record { x = glyph.x; y = glyph.y; cx = glyph.cx; cy = glyph.cy; bits = bits }))
    (bytes_back (glyph_bytes glyph.cx glyph.cy) glyph.bits rest (eqb-true (length glyph.bits) (glyph_bytes glyph.cx glyph.cy) k.0))

-- ---- behind its number

numbered : (n : ℕ) (more : List ℕ) → nat_le n last_shape ≡ true → shape_at (n ∷ more) ≡ shape_by n more
unfolding shape_at
numbered n more h = then_back _ n more (λ number more. shape_by number more) (passing_back (is_at_most last_shape) byte_at (n ∷ more) n more (byte_back n more) h)

-- a shape that has place is read back
pub shape_back : (s : Shape) (rest : List ℕ) → are_in_place (shape_fields s) ≡ true → is_rest_in_place s ≡ true → shape_at (fields_bytes (shape_fields s) ++ (shape_rest s ++ rest)) ≡ Ok (s, rest)
unfolding shape_by
shape_back (Fill r color) rest h held = numbered 0 _ refl ∙ fill_back r color rest h
shape_back (Dst r code) rest h held = numbered 1 _ refl ∙ dst_back r code rest h
shape_back (Pat r code brush) rest h held = numbered 2 _ refl ∙ pat_back r code brush rest h
shape_back (Copy r code sx sy) rest h held = numbered 3 _ refl ∙ copy_back r code sx sy rest h
shape_back (Blit r code image sx sy) rest h held = numbered 4 _ refl ∙ blit_back r code image sx sy rest h
shape_back (Blit3 r code image sx sy brush) rest h held = numbered 5 _ refl ∙ blit3_back r code image sx sy brush rest h
shape_back (Text x y color font run) rest h held = numbered 6 _ refl ∙ text_back x y color font run rest h
shape_back (Line x0 y0 x1 y1 color) rest h held = numbered 7 _ refl ∙ line_back x0 y0 x1 y1 color rest h
shape_back (Save slot r) rest h held = numbered 8 _ refl ∙ save_back slot r rest h
shape_back (Restore slot x y) rest h held = numbered 9 _ refl ∙ restore_back slot x y rest h
shape_back (LoadImage slot image) rest h held = numbered 10 _ refl ∙ image_back slot image rest held
shape_back (LoadBrush slot brush) rest h held = numbered 11 _ refl ∙ brush_back slot brush rest held
shape_back (LoadGlyph font code glyph) rest h held = numbered 12 _ refl ∙ glyph_back font code glyph rest h held
