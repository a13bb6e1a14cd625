-- A record's bytes, as tables of fields: the head, and the entries by their kinds, with the drawings' shapes in the order of their numbers.
use Rattle.std.specs.Prelude.{ℕ, ◌+◌, ◌*◌, ◌/◌, ◌==◌, nat_le, Bool, true, false, ◌&&◌, List, [], ◌∷◌, ◌++◌, length, flat_map, Option, Some, None}
use Rattle.byteorder.specs.Endian.{little_bytes}
use Rattle.px_core.specs.declared.rectangle.Rect.{Rect}
use Rattle.px_core.specs.Rectangle.{is_session_size}
use Rattle.px_core.specs.Colors.{are_colors}
use Rattle.draw_ops.specs.Ranges.{is_u16, are_bytes, are_byte_pairs, is_brush_in_range}
use Rattle.draw_ops.specs.declared.shape.Shape.{Shape}
use Rattle.draw_ops.specs.declared.shape.Shape.TheVariants.{Fill, Dst, Pat, Copy, Blit, Blit3, Text, Line, Save, Restore, LoadImage, LoadBrush, LoadGlyph}
use Rattle.input_pdu.specs.declared.event.Event.{Event}
use Rattle.input_pdu.specs.declared.event.Event.TheVariants.{Sync, Scan, Unicode, Mouse, MouseX}
use Rattle.session_rules.specs.declared.entry.Role.{Role}
use Rattle.session_rules.specs.declared.entry.Role.TheVariants.{Owner, Control, View}
use Rattle.session_rules.specs.declared.entry.Entry.{Entry}
use Rattle.session_rules.specs.declared.entry.Entry.TheVariants.{Join, Leave, Give, Input, Draw}
use Rattle.session_rules.specs.Journal.{Head, Row}
use Rattle.session_rules.specs.Steps.{are_names_distinct}
use Rattle.script_rules.specs.Script.{is_name, row_limit}
use Rattle.record_rules.specs.declared.field.Field.{Field}
use Rattle.record_rules.specs.declared.field.Field.TheVariants.{Byte, Short, Long, SignedByte, SignedShort, Color}
use Rattle.record_rules.specs.Fields.{fields_bytes, colors_bytes, pairs_bytes, are_in_place}

-- ---- the head

-- what every record begins with, `RDPJ1` and a line feed, as one field
abbrev pub record_mark : List ℕ
record_mark = 0x52 ∷ 0x44 ∷ 0x50 ∷ 0x4A ∷ 0x31 ∷ 0x0A ∷ []

abbrev pub role_number : Role → ℕ
role_number Owner = 0
role_number Control = 1
role_number View = 2

-- the session's width and height, and the number of its rows
abbrev pub head_fields : Head → List Field
head_fields head = Short head.size.w ∷ Short head.size.h ∷ Byte (length head.rows) ∷ []

-- a row's role, and the length of its name
abbrev pub row_fields : Row → List Field
row_fields row = Byte (role_number row.role) ∷ Byte (length row.name) ∷ []

abbrev pub row_bytes : Row → List ℕ
row_bytes row = fields_bytes (row_fields row) ++ row.name

abbrev pub rows_bytes : List Row → List ℕ
rows_bytes rows = flat_map row_bytes rows

abbrev pub head_bytes : Head → List ℕ
head_bytes head = record_mark ++ (fields_bytes (head_fields head) ++ rows_bytes head.rows)

-- ---- events

abbrev pub flag : Bool → ℕ
flag false = 0
flag true = 1

-- a tag, and three numbers
abbrev pub event_row : ℕ → ℕ → ℕ → ℕ → List Field
event_row tag a b c = Byte tag ∷ Short a ∷ Short b ∷ Short c ∷ []

-- a key's code and its release, or the flags and the place of the mouse; else zeros
abbrev pub event_fields : Event → List Field
event_fields Sync = event_row 0 0 0 0
event_fields (Scan code up) = event_row 1 code (flag up) 0
event_fields (Unicode code up) = event_row 2 code (flag up) 0
event_fields (Mouse flags x y) = event_row 3 flags x y
event_fields MouseX = event_row 4 0 0 0

-- ---- drawings

abbrev pub rect_fields : Rect → List Field
rect_fields r = SignedShort r.x ∷ SignedShort r.y ∷ Short r.w ∷ Short r.h ∷ []

-- whether there is a clip, and the clip
abbrev pub clip_fields : Option Rect → List Field
clip_fields None = Byte 0 ∷ []
clip_fields (Some clip) = Byte 1 ∷ rect_fields clip

-- a shape's number, and its fields up to the pairs of its run, its pixels or its rows
abbrev pub shape_fields : Shape → List Field
shape_fields (Fill r color) = Byte 0 ∷ (rect_fields r ++ Color color ∷ [])
shape_fields (Dst r code) = Byte 1 ∷ (rect_fields r ++ Byte code ∷ [])
shape_fields (Pat r code brush) = Byte 2 ∷ (rect_fields r ++ Byte code ∷ Byte brush ∷ [])
shape_fields (Copy r code sx sy) = Byte 3 ∷ (rect_fields r ++ Byte code ∷ SignedShort sx ∷ SignedShort sy ∷ [])
shape_fields (Blit r code image sx sy) = Byte 4 ∷ (rect_fields r ++ Byte code ∷ Byte image ∷ SignedShort sx ∷ SignedShort sy ∷ [])
shape_fields (Blit3 r code image sx sy brush) = Byte 5 ∷ (rect_fields r ++ Byte code ∷ Byte image ∷ SignedShort sx ∷ SignedShort sy ∷ Byte brush ∷ [])
shape_fields (Text x y color font run) = Byte 6 ∷ SignedShort x ∷ SignedShort y ∷ Color color ∷ Byte font ∷ Byte (length run) ∷ []
shape_fields (Line x0 y0 x1 y1 color) = Byte 7 ∷ SignedShort x0 ∷ SignedShort y0 ∷ SignedShort x1 ∷ SignedShort y1 ∷ Color color ∷ []
shape_fields (Save slot r) = Byte 8 ∷ Byte slot ∷ rect_fields r
shape_fields (Restore slot x y) = Byte 9 ∷ Byte slot ∷ SignedShort x ∷ SignedShort y ∷ []
shape_fields (LoadImage slot image) = Byte 10 ∷ Byte slot ∷ Byte image.w ∷ Byte image.h ∷ []
shape_fields (LoadBrush slot brush) = Byte 11 ∷ Byte slot ∷ []
shape_fields (LoadGlyph font code glyph) = Byte 12 ∷ Byte font ∷ Byte code ∷ SignedByte glyph.x ∷ SignedByte glyph.y ∷ Byte glyph.cx ∷ Byte glyph.cy ∷ []

-- the one field behind these: the pairs of a run, the pixels of an image or a brush, or the rows of a glyph
abbrev pub shape_rest : Shape → List ℕ
shape_rest (Fill r color) = []
shape_rest (Dst r code) = []
shape_rest (Pat r code brush) = []
shape_rest (Copy r code sx sy) = []
shape_rest (Blit r code image sx sy) = []
shape_rest (Blit3 r code image sx sy brush) = []
shape_rest (Text x y color font run) = pairs_bytes run
shape_rest (Line x0 y0 x1 y1 color) = []
shape_rest (Save slot r) = []
shape_rest (Restore slot x y) = []
shape_rest (LoadImage slot image) = colors_bytes image.pixels
shape_rest (LoadBrush slot brush) = colors_bytes brush
shape_rest (LoadGlyph font code glyph) = glyph.bits

-- ---- entries

-- the kind, and the fields of the kind
abbrev pub entry_fields : Entry → List Field
entry_fields (Join v role) = Byte 1 ∷ Long v ∷ Byte (role_number role) ∷ []
entry_fields (Leave v) = Byte 2 ∷ Long v ∷ []
entry_fields (Give by to) = Byte 3 ∷ Long by ∷ Long to ∷ []
entry_fields (Input by event) = Byte 4 ∷ Long by ∷ event_fields event
entry_fields (Draw by d) = Byte 5 ∷ Long by ∷ (clip_fields d.clip ++ shape_fields d.shape)

abbrev pub entry_rest : Entry → List ℕ
entry_rest (Join v role) = []
entry_rest (Leave v) = []
entry_rest (Give by to) = []
entry_rest (Input by event) = []
entry_rest (Draw by d) = shape_rest d.shape

abbrev pub body_bytes : Entry → List ℕ
body_bytes e = fields_bytes (entry_fields e) ++ entry_rest e

-- the length of the body, and the body
abbrev pub entry_bytes : Entry → List ℕ
entry_bytes e = little_bytes 2 (length (body_bytes e)) ++ body_bytes e

abbrev pub entries_bytes : List Entry → List ℕ
entries_bytes j = flat_map entry_bytes j

-- ---- the whole

abbrev pub record_bytes : Head → List Entry → List ℕ
record_bytes head j = head_bytes head ++ entries_bytes j

-- ---- what a record can hold

-- the bytes of a glyph's rows, each padded to a byte
abbrev pub glyph_bytes : ℕ → ℕ → ℕ
glyph_bytes cx cy = (cx + 7) / 8 * cy

-- what stands behind a shape's fields is as long as they say, and has place there
abbrev pub is_rest_in_place : Shape → Bool
is_rest_in_place (Fill r color) = true
is_rest_in_place (Dst r code) = true
is_rest_in_place (Pat r code brush) = true
is_rest_in_place (Copy r code sx sy) = true
is_rest_in_place (Blit r code image sx sy) = true
is_rest_in_place (Blit3 r code image sx sy brush) = true
is_rest_in_place (Text x y color font run) = are_byte_pairs run
is_rest_in_place (Line x0 y0 x1 y1 color) = true
is_rest_in_place (Save slot r) = true
is_rest_in_place (Restore slot x y) = true
is_rest_in_place (LoadImage slot image) = (length image.pixels == image.w * image.h) && are_colors image.pixels
is_rest_in_place (LoadBrush slot brush) = is_brush_in_range brush
is_rest_in_place (LoadGlyph font code glyph) = (length glyph.bits == glyph_bytes glyph.cx glyph.cy) && are_bytes glyph.bits

abbrev pub is_entry_rest_in_place : Entry → Bool
is_entry_rest_in_place (Join v role) = true
is_entry_rest_in_place (Leave v) = true
is_entry_rest_in_place (Give by to) = true
is_entry_rest_in_place (Input by event) = true
is_entry_rest_in_place (Draw by d) = is_rest_in_place d.shape

-- each number of an entry has place in its field, and the body's length in its own
abbrev pub is_recordable : Entry → Bool
is_recordable e = (are_in_place (entry_fields e) && is_entry_rest_in_place e) && is_u16 (length (body_bytes e))

abbrev pub are_recordable : List Entry → Bool
are_recordable [] = true
are_recordable (e ∷ es) = is_recordable e && are_recordable es

abbrev pub are_named : List Row → Bool
are_named [] = true
are_named (row ∷ rows) = is_name row.name && are_named rows

-- a session's size, and at most 64 rows with distinct names that keep the rule of names
abbrev pub is_recordable_head : Head → Bool
is_recordable_head head = is_session_size head.size.w head.size.h
    && (nat_le (length head.rows) row_limit && (are_named head.rows && are_names_distinct head.rows))
