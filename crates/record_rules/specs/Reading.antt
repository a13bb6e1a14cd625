-- Reading a record field by field. A field that breaks its rule is refused at its first byte, and so is one whose bytes aren't all there.
use Rattle.std.specs.Prelude.{ℕ, zero, suc, ◌*◌, ◌==◌, nat_le, Bool, ◌&&◌, ℤ, List, [], ◌∷◌, ◌++◌, Option, Some, None, Ok, Err, if◌then◌else◌}
use Rattle.line_text.specs.Words.{is_same_word}
use Rattle.wire_num.specs.Field.{Read, then_read, map_read, all_of, bytes_at}
use Rattle.wire_num.specs.FieldValue.{passing_at, is_at_most, as_one_field}
use Rattle.wire_num.specs.Number.{little_at, big_at, big_value, little_signed_at}
use Rattle.wire_num.specs.Caused.{Caused, then_caused, map_caused, before_caused, caused}
use Rattle.px_core.specs.declared.rectangle.Rect.{Rect}
use Rattle.px_core.specs.Rectangle.{boxed, is_session_size}
use Rattle.draw_ops.specs.declared.shape.Shape.{Shape}
use Rattle.draw_ops.specs.declared.shape.Shape.TheVariants.{Fill, Dst, Pat, Copy, Blit, Blit3, Text, Line, Save, Restore, LoadImage, LoadBrush, LoadGlyph}
use Rattle.input_pdu.specs.declared.event.Event.{Event}
use Rattle.input_pdu.specs.declared.event.Event.TheVariants.{Sync, Scan, Unicode, Mouse, MouseX}
use Rattle.session_rules.specs.declared.entry.Role.{Role}
use Rattle.session_rules.specs.declared.entry.Role.TheVariants.{Owner, Control, View}
use Rattle.session_rules.specs.declared.entry.Entry.{Entry}
use Rattle.session_rules.specs.declared.entry.Entry.TheVariants.{Join, Leave, Give, Input, Draw}
use Rattle.session_rules.specs.Journal.{Head, Row}
use Rattle.session_rules.specs.Steps.{is_new_name}
use Rattle.script_rules.specs.Script.{is_name, row_limit}
use Rattle.record_rules.specs.Tables.{record_mark, glyph_bytes}

-- ---- fields

-- a number of one byte, of two bytes and of four, the lowest first; a signed number of two bytes; a colour
abbrev pub byte_at : List ℕ → Read ℕ
byte_at bs = big_at 1 bs

abbrev pub short_at : List ℕ → Read ℕ
short_at bs = little_at 2 bs

abbrev pub long_at : List ℕ → Read ℕ
long_at bs = little_at 4 bs

abbrev pub signed_byte_at : List ℕ → Read ℤ
signed_byte_at bs = little_signed_at 1 bs

abbrev pub signed_short_at : List ℕ → Read ℤ
signed_short_at bs = little_signed_at 2 bs

abbrev pub color_at : List ℕ → Read ℕ
color_at bs = big_at 3 bs

-- a byte that is at most so great
abbrev pub byte_up_to : ℕ → List ℕ → Read ℕ
byte_up_to most bs = passing_at (is_at_most most) byte_at bs

-- a flag of two bytes, and two bytes that are 0
abbrev pub flag_at : List ℕ → Read ℕ
flag_at bs = passing_at (is_at_most 1) short_at bs

abbrev pub zero_at : List ℕ → Read ℕ
zero_at bs = passing_at (is_at_most 0) short_at bs

-- the colours of bytes, three each; one or two bytes at their end are none
abbrev pub colors_in : List ℕ → List ℕ
colors_in [] = []
colors_in (r ∷ []) = []
colors_in (r ∷ g ∷ []) = []
colors_in (r ∷ g ∷ b ∷ bs) = big_value (r ∷ g ∷ b ∷ []) ∷ colors_in bs

-- so many colours, as one field
abbrev pub colors_at : ℕ → List ℕ → Read (List ℕ)
colors_at n bs = map_read colors_in (bytes_at (3 * n) bs)

-- the pairs of bytes, code and delta; one byte at their end is none
abbrev pub pairs_in : List ℕ → List (ℕ × ℕ)
pairs_in [] = []
pairs_in (code ∷ []) = []
pairs_in (code ∷ delta ∷ bs) = (code, delta) ∷ pairs_in bs

-- so many pairs, as one field
abbrev pub pairs_at : ℕ → List ℕ → Read (List (ℕ × ℕ))
pairs_at n bs = map_read pairs_in (bytes_at (2 * n) bs)

unfoldable pub point_at : List ℕ → Read (ℤ × ℤ)
point_at bs = then_read (signed_short_at bs) (λ x more. map_read (λ y. (x, y)) (signed_short_at more))

unfoldable pub rect_at : List ℕ → Read Rect
rect_at bs =
    then_read (signed_short_at bs) (λ x more. then_read (signed_short_at more) (λ y more.
    then_read (short_at more) (λ w more. map_read (λ h. boxed x y w h) (short_at more))))

-- ---- shapes, each behind its number

unfoldable pub fill_at : List ℕ → Read Shape
fill_at bs = then_read (rect_at bs) (λ r more. map_read (λ color. Fill r color) (color_at more))

unfoldable pub dst_at : List ℕ → Read Shape
dst_at bs = then_read (rect_at bs) (λ r more. map_read (λ code. Dst r code) (byte_at more))

unfoldable pub pat_at : List ℕ → Read Shape
pat_at bs = then_read (rect_at bs) (λ r more. then_read (byte_at more) (λ code more. map_read (λ brush. Pat r code brush) (byte_at more)))

unfoldable pub copy_at : List ℕ → Read Shape
copy_at bs = then_read (rect_at bs) (λ r more. then_read (byte_at more) (λ code more. map_read (λ p. Copy r code p.0 p.1) (point_at more)))

unfoldable pub blit_at : List ℕ → Read Shape
blit_at bs =
    then_read (rect_at bs) (λ r more. then_read (byte_at more) (λ code more. then_read (byte_at more) (λ image more.
    map_read (λ p. Blit r code image p.0 p.1) (point_at more))))

unfoldable pub blit3_at : List ℕ → Read Shape
blit3_at bs =
    then_read (rect_at bs) (λ r more. then_read (byte_at more) (λ code more. then_read (byte_at more) (λ image more.
    then_read (point_at more) (λ p more. map_read (λ brush. Blit3 r code image p.0 p.1 brush) (byte_at more)))))

-- the pairs of a run behind their count
unfoldable pub text_at : List ℕ → Read Shape
text_at bs =
    then_read (point_at bs) (λ p more. then_read (color_at more) (λ color more. then_read (byte_at more) (λ font more.
    then_read (byte_at more) (λ count more. map_read (λ run. Text p.0 p.1 color font run) (pairs_at count more)))))

unfoldable pub line_at : List ℕ → Read Shape
line_at bs = then_read (point_at bs) (λ p more. then_read (point_at more) (λ q more. map_read (λ color. Line p.0 p.1 q.0 q.1 color) (color_at more)))

unfoldable pub save_at : List ℕ → Read Shape
save_at bs = then_read (byte_at bs) (λ slot more. map_read (λ r. Save slot r) (rect_at more))

unfoldable pub restore_at : List ℕ → Read Shape
restore_at bs = then_read (byte_at bs) (λ slot more. map_read (λ p. Restore slot p.0 p.1) (point_at more))

unfoldable pub image_at : List ℕ → Read Shape
image_at bs =
    then_read (byte_at bs) (λ slot more. then_read (byte_at more) (λ w more. then_read (byte_at more) (λ h more.
    map_read (λ pixels. LoadImage slot (record { w = w; h = h; pixels = pixels })) (colors_at (w * h) more))))

-- the number of pixels of a brush
abbrev pub brush_pixels : ℕ
brush_pixels = 64

unfoldable pub brush_at : List ℕ → Read Shape
brush_at bs = then_read (byte_at bs) (λ slot more. map_read (λ pixels. LoadBrush slot pixels) (colors_at brush_pixels more))

unfoldable pub glyph_at : List ℕ → Read Shape
glyph_at bs =
    then_read (byte_at bs) (λ font more. then_read (byte_at more) (λ code more.
    then_read (signed_byte_at more) (λ x more. then_read (signed_byte_at more) (λ y more.
    then_read (byte_at more) (λ cx more. then_read (byte_at more) (λ cy more.
    map_read (λ bits. LoadGlyph font code (record { x = x; y = y; cx = cx; cy = cy; bits = bits })) (bytes_at (glyph_bytes cx cy) more)))))))

-- the shape of a number
unfoldable pub shape_by : ℕ → List ℕ → Read Shape
shape_by number bs =
    if number == 0 then fill_at bs
    else (if number == 1 then dst_at bs
    else (if number == 2 then pat_at bs
    else (if number == 3 then copy_at bs
    else (if number == 4 then blit_at bs
    else (if number == 5 then blit3_at bs
    else (if number == 6 then text_at bs
    else (if number == 7 then line_at bs
    else (if number == 8 then save_at bs
    else (if number == 9 then restore_at bs
    else (if number == 10 then image_at bs
    else (if number == 11 then brush_at bs
    else glyph_at bs)))))))))))

-- the greatest number of a shape
abbrev pub last_shape : ℕ
last_shape = 12

unfoldable pub shape_at : List ℕ → Read Shape
shape_at bs = then_read (byte_up_to last_shape bs) (λ number more. shape_by number more)

-- ---- entries

unfoldable pub clip_by : ℕ → List ℕ → Read (Option Rect)
clip_by flag bs = if flag == 0 then Ok (None, bs) else map_read (λ r. Some r) (rect_at bs)

-- a flag of one byte, and behind a 1 the clip
unfoldable pub clip_at : List ℕ → Read (Option Rect)
clip_at bs = then_read (byte_up_to 1 bs) (λ flag more. clip_by flag more)

abbrev pub role_numbered : ℕ → Role
role_numbered number = if number == 0 then Owner else (if number == 1 then Control else View)

-- the greatest number of a role
abbrev pub last_role : ℕ
last_role = 2

unfoldable pub role_at : List ℕ → Read Role
role_at bs = map_read role_numbered (byte_up_to last_role bs)

-- three zeros
unfoldable pub zeros_at : List ℕ → Read ℕ
zeros_at bs = then_read (zero_at bs) (λ _ more. then_read (zero_at more) (λ _ more. zero_at more))

-- a key's code, its release, and a zero
unfoldable pub key_at : List ℕ → Read (ℕ × Bool)
key_at bs = then_read (short_at bs) (λ code more. then_read (flag_at more) (λ up more. map_read (λ _. (code, up == 1)) (zero_at more)))

unfoldable pub mouse_at : List ℕ → Read Event
mouse_at bs = then_read (short_at bs) (λ flags more. then_read (short_at more) (λ x more. map_read (λ y. Mouse flags x y) (short_at more)))

unfoldable pub event_by : ℕ → List ℕ → Read Event
event_by tag bs =
    if tag == 0 then map_read (λ _. Sync) (zeros_at bs)
    else (if tag == 1 then map_read (λ k. Scan k.0 k.1) (key_at bs)
    else (if tag == 2 then map_read (λ k. Unicode k.0 k.1) (key_at bs)
    else (if tag == 3 then mouse_at bs
    else map_read (λ _. MouseX) (zeros_at bs))))

-- the greatest tag of an event
abbrev pub last_tag : ℕ
last_tag = 4

unfoldable pub event_at : List ℕ → Read Event
event_at bs = then_read (byte_up_to last_tag bs) (λ tag more. event_by tag more)

unfoldable pub join_at : List ℕ → Read Entry
join_at bs = then_read (long_at bs) (λ v more. map_read (λ role. Join v role) (role_at more))

unfoldable pub leave_at : List ℕ → Read Entry
leave_at bs = map_read (λ v. Leave v) (long_at bs)

unfoldable pub give_at : List ℕ → Read Entry
give_at bs = then_read (long_at bs) (λ by more. map_read (λ to. Give by to) (long_at more))

unfoldable pub input_at : List ℕ → Read Entry
input_at bs = then_read (long_at bs) (λ by more. map_read (λ event. Input by event) (event_at more))

unfoldable pub draw_at : List ℕ → Read Entry
draw_at bs =
    then_read (long_at bs) (λ by more. then_read (clip_at more) (λ clip more.
    map_read (λ shape. Draw by (record { shape = shape; clip = clip })) (shape_at more)))

unfoldable pub entry_by : ℕ → List ℕ → Read Entry
entry_by kind bs =
    if kind == 1 then join_at bs
    else (if kind == 2 then leave_at bs
    else (if kind == 3 then give_at bs
    else (if kind == 4 then input_at bs
    else draw_at bs)))

abbrev pub is_kind : ℕ → Bool
is_kind kind = nat_le 1 kind && nat_le kind 5

unfoldable pub entry_at : List ℕ → Read Entry
entry_at bs = then_read (passing_at is_kind byte_at bs) (λ kind more. entry_by kind more)

-- an entry that fills its body
abbrev pub body_at : List ℕ → Read Entry
body_at bs = all_of (entry_at bs)

-- ---- what isn't all there

-- why a field isn't read: its bytes aren't all there, or it breaks its rule
pub data Lack : Type 0 where
  Missing : Lack
  Broken : Lack

abbrev pub tested : {A : Type 0} → (A → Bool) → List ℕ → Read A → Caused Lack A
tested test whole (Ok v) = if test v.0 then Ok v else Err (Broken, whole)
tested test whole (Err left) = Err (Missing, whole)

-- a field that is looked at once its bytes are there
abbrev pub tested_at : {A : Type 0} → (A → Bool) → (List ℕ → Read A) → List ℕ → Caused Lack A
tested_at test read bs = tested test bs (read bs)

-- the bytes that a length of two bytes counts; they and the length are one field
unfoldable pub counted_at : List ℕ → Read (List ℕ)
counted_at bs = as_one_field bs (then_read (short_at bs) (λ n more. bytes_at n more))

-- an entry behind its length, which is looked at once all its bytes are there
unfoldable pub framed_at : List ℕ → Caused Lack Entry
framed_at bs = then_caused (caused Missing (counted_at bs)) (λ body after. before_caused after (caused Broken (body_at body)))

-- ---- the head

abbrev pub is_record_mark : List ℕ → Bool
is_record_mark bytes = is_same_word record_mark bytes

-- a width of a session, and a height
abbrev pub is_width : ℕ → Bool
is_width w = is_session_size w 1

abbrev pub is_height : ℕ → Bool
is_height h = is_session_size 4 h

abbrev pub is_name_length : ℕ → Bool
is_name_length n = nat_le 1 n && nat_le n 64

-- a name that keeps the rule of names, and that no earlier row has
abbrev pub is_next_name : List Row → List ℕ → Bool
is_next_name earlier name = is_name name && is_new_name name earlier

unfoldable pub row_at : List Row → List ℕ → Caused Lack Row
row_at earlier bs =
    then_caused (tested_at (is_at_most last_role) byte_at bs) (λ number more.
    then_caused (tested_at is_name_length byte_at more) (λ n more.
    map_caused (λ name. record { name = name; role = role_numbered number }) (tested_at (is_next_name earlier) (bytes_at n) more)))

-- so many rows behind earlier ones
abbrev pub rows_at : ℕ → List Row → List ℕ → Caused Lack (List Row)
rows_at zero earlier bs = Ok (earlier, bs)
rows_at (suc n) earlier bs = then_caused (row_at earlier bs) (λ row more. rows_at n (earlier ++ row ∷ []) more)

unfoldable pub head_at : List ℕ → Caused Lack Head
head_at bs =
    then_caused (tested_at is_record_mark (bytes_at 6) bs) (λ _ more.
    then_caused (tested_at is_width short_at more) (λ w more.
    then_caused (tested_at is_height short_at more) (λ h more.
    then_caused (tested_at (is_at_most row_limit) byte_at more) (λ n more.
    map_caused (λ rows. record { size = record { w = w; h = h }; rows = rows }) (rows_at n [] more)))))
