-- What the fields of a primary order say at a depth: a drawing whose operands have names, and back ([MS-RDPEGDI] 2.2.2.2.1.1.2).
-- Colours stand there as they are shown, at 16 bits in the first two of three bytes.
use Rattle.std.specs.Prelude.{◌≡◌, ◌<◌, ◌^◌, ⊤, ℕ, zero, suc, ◌+◌, ◌*◌, ◌/◌, ◌%◌, ◌==◌, Bool, true, false, ◌&&◌, ℤ, pos, ◌+ℤ◌, ◌-ℤ◌, List, [], ◌∷◌, ◌++◌, Option, Some, None}
use Rattle.std.specs.Ordering.{int_eq}
use Rattle.px_core.specs.declared.depth.Depth.{Depth}
use Rattle.px_core.specs.declared.depth.Depth.TheVariants.{Bits24, Bits16}
use Rattle.px_core.specs.declared.rectangle.Rect.{Rect}
use Rattle.px_core.specs.Depth.{brush_style, cut_color, shown}
use Rattle.px_core.specs.Picture.{item, nat_of}
use Rattle.px_core.specs.Rectangle.{boxed, has_pixel}
use Rattle.order_fields.specs.OrderTable.{OrderName, Row, row_of, Values, FieldList, field_list}
use Rattle.order_fields.specs.OrderTable.OrderName.{DstBlt, PatBlt, ScrBlt, OpaqueRect, SaveBitmap, MemBlt, Mem3Blt, GlyphIndex}

-- a drawing as a client sees it: rectangles, codes of raster operations, sources, entries of caches
pub data NamedDrawing : Type 0 where
  Dst : (r : Rect) (code : ℕ) → NamedDrawing
  Pat : (r : Rect) (code entry : ℕ) → NamedDrawing
  Scr : (r : Rect) (code : ℕ) (sx sy : ℤ) → NamedDrawing
  Opaque : (r : Rect) (color : ℕ) → NamedDrawing
  SaveBlock : (position : ℕ) (r : Rect) → NamedDrawing
  RestoreBlock : (position : ℕ) (r : Rect) → NamedDrawing
  Mem : (cache index : ℕ) (r : Rect) (code : ℕ) (sx sy : ℤ) → NamedDrawing
  Mem3 : (cache index : ℕ) (r : Rect) (code : ℕ) (sx sy : ℤ) (entry : ℕ) → NamedDrawing
  Glyphs : (cache : ℕ) (x y : ℤ) (color : ℕ) (run : List ℕ) → NamedDrawing

-- ---- colours of a depth

-- a colour as it stands in the three bytes of a field, the first one highest: at 16 bits the pixel's low byte, its high byte, and 0
abbrev pub wire_color : Depth → ℕ → ℕ
wire_color Bits24 c = c
wire_color Bits16 c = 65536 * (cut_color c % 256) + 256 * (cut_color c / 256)

-- the colour that three bytes say; at 16 bits the third isn't read
abbrev pub color_said : Depth → ℕ → ℕ
color_said Bits24 n = n
color_said Bits16 n = n / 65536 + 256 * ((n / 256) % 256)

-- ---- from fields

-- a value by its place among the fields
abbrev pub value : List ℤ → ℕ → ℤ
value vs place = item vs place (pos 0)

abbrev pub number : List ℤ → ℕ → ℕ
number vs place = nat_of (value vs place)

-- left, top, width and height from a place on
abbrev pub rect_at : List ℤ → ℕ → Rect
rect_at vs place = boxed (value vs place) (value vs (1 + place)) (number vs (2 + place)) (number vs (3 + place))

-- the numbers of a stretch with both its ends
abbrev pub side_between : ℤ → ℤ → ℕ
side_between first last = nat_of ((last +ℤ pos 1) -ℤ first)

-- left, top, right and bottom, inclusive, from a place on
abbrev pub closed_rect_at : List ℤ → ℕ → Rect
closed_rect_at vs place = boxed (value vs place) (value vs (1 + place)) (side_between (value vs place) (value vs (2 + place))) (side_between (value vs (1 + place)) (value vs (3 + place)))

-- a brush of the cache: its origin is 0, its style is that of the depth
abbrev pub is_cached_brush : Depth → List ℤ → ℕ → Bool
is_cached_brush d vs place = (int_eq (value vs place) (pos 0) && int_eq (value vs (1 + place)) (pos 0)) && int_eq (value vs (2 + place)) (pos (brush_style d))

-- so many values from a place on are 0
abbrev pub are_zero : List ℤ → ℕ → ℕ → Bool
are_zero vs place zero = true
are_zero vs place (suc n) = int_eq (value vs place) (pos 0) && are_zero vs (1 + place) n

-- a colour that is black
abbrev pub is_black : Depth → List ℤ → ℕ → Bool
is_black Bits24 vs place = int_eq (value vs place) (pos 0)
is_black Bits16 vs place = color_said Bits16 (number vs place) == 0

-- a run of cached glyphs: flAccel 3, ulCharInc 0, fOpRedundant 1, foreColor 0, the edges op and the brush 0; the edges bk aren't read
abbrev pub is_cached_run : Depth → List ℤ → Bool
is_cached_run d vs = (int_eq (value vs 1) (pos 3) && int_eq (value vs 2) (pos 0)) && (int_eq (value vs 3) (pos 1) && (is_black d vs 5 && are_zero vs 10 9))

abbrev pub drawing_if : Bool → NamedDrawing → Option NamedDrawing
drawing_if true d = Some d
drawing_if false d = None

-- operation 0 saves, 1 restores
abbrev pub save_or_restore : ℕ → ℕ → Rect → Option NamedDrawing
save_or_restore zero position r = Some (SaveBlock position r)
save_or_restore (suc zero) position r = Some (RestoreBlock position r)
save_or_restore (suc (suc n)) position r = None

abbrev pub save_if : Bool → ℕ → ℕ → Rect → Option NamedDrawing
save_if true operation position r = save_or_restore operation position r
save_if false operation position r = None

-- the drawing that an order's values say; there is none where a side is below 1, or a brush, an operation or a run is none that is read
abbrev pub drawing_of_values : Depth → OrderName → List ℤ → List ℕ → Option NamedDrawing
drawing_of_values d DstBlt vs bytes = drawing_if (has_pixel (rect_at vs 0)) (Dst (rect_at vs 0) (number vs 4))
drawing_of_values d PatBlt vs bytes = drawing_if (has_pixel (rect_at vs 0) && is_cached_brush d vs 7) (Pat (rect_at vs 0) (number vs 4) (number vs 10))
drawing_of_values d ScrBlt vs bytes = drawing_if (has_pixel (rect_at vs 0)) (Scr (rect_at vs 0) (number vs 4) (value vs 5) (value vs 6))
drawing_of_values d OpaqueRect vs bytes = drawing_if (has_pixel (rect_at vs 0)) (Opaque (rect_at vs 0) (color_said d (65536 * number vs 4 + (256 * number vs 5 + number vs 6))))
drawing_of_values d SaveBitmap vs bytes = save_if (has_pixel (closed_rect_at vs 1)) (number vs 5) (number vs 0) (closed_rect_at vs 1)
drawing_of_values d MemBlt vs bytes = drawing_if (has_pixel (rect_at vs 1)) (Mem (number vs 0) (number vs 8) (rect_at vs 1) (number vs 5) (value vs 6) (value vs 7))
drawing_of_values d Mem3Blt vs bytes = drawing_if (has_pixel (rect_at vs 1) && is_cached_brush d vs 10) (Mem3 (number vs 0) (number vs 15) (rect_at vs 1) (number vs 5) (value vs 6) (value vs 7) (number vs 13))
drawing_of_values d GlyphIndex vs bytes = drawing_if (is_cached_run d vs) (Glyphs (number vs 0) (value vs 19) (value vs 20) (color_said d (number vs 4)) bytes)

abbrev pub drawing_in_row : Depth → Option Row → Values → Option NamedDrawing
drawing_in_row d None vs = None
drawing_in_row d (Some r) vs = drawing_of_values d r.name vs.numbers vs.bytes

abbrev pub drawing_of : Depth → FieldList → Option NamedDrawing
drawing_of d o = drawing_in_row d (row_of o.code) o.values

-- ---- to fields

abbrev pub box : Rect → List ℤ
box r = r.x ∷ r.y ∷ pos r.w ∷ pos r.h ∷ []

-- left, top, right and bottom, inclusive
abbrev pub closed_box : Rect → List ℤ
closed_box r = r.x ∷ r.y ∷ ((r.x +ℤ pos r.w) -ℤ pos 1) ∷ ((r.y +ℤ pos r.h) -ℤ pos 1) ∷ []

-- left, top, right and bottom, of which right and bottom are exclusive
abbrev pub open_box : Rect → List ℤ
open_box r = r.x ∷ r.y ∷ (r.x +ℤ pos r.w) ∷ (r.y +ℤ pos r.h) ∷ []

-- the fields of a cached brush: origin 0, the style, the entry, extra 0
abbrev pub cached_brush : Depth → ℕ → List ℤ
cached_brush d entry = pos 0 ∷ pos 0 ∷ pos (brush_style d) ∷ pos entry ∷ pos 0 ∷ []

abbrev pub zeros : ℕ → List ℤ
zeros zero = []
zeros (suc n) = pos 0 ∷ zeros n

-- the fields of a drawing order; `area` is the rectangle of a run of glyphs, and back and fore colours are 0 (profile)
abbrev pub drawing_fields : Depth → Rect → NamedDrawing → FieldList
drawing_fields d area (Dst r code) = field_list 0 (box r ++ pos code ∷ []) []
drawing_fields d area (Pat r code entry) = field_list 1 (box r ++ (pos code ∷ pos 0 ∷ pos 0 ∷ cached_brush d entry)) []
drawing_fields d area (Scr r code sx sy) = field_list 2 (box r ++ (pos code ∷ sx ∷ sy ∷ [])) []
drawing_fields d area (Opaque r color) = field_list 10 (box r ++ (pos (wire_color d color / 65536) ∷ pos ((wire_color d color / 256) % 256) ∷ pos (wire_color d color % 256) ∷ [])) []
drawing_fields d area (SaveBlock position r) = field_list 11 (pos position ∷ (closed_box r ++ pos 0 ∷ [])) []
drawing_fields d area (RestoreBlock position r) = field_list 11 (pos position ∷ (closed_box r ++ pos 1 ∷ [])) []
drawing_fields d area (Mem cache index r code sx sy) = field_list 13 (pos cache ∷ (box r ++ (pos code ∷ sx ∷ sy ∷ pos index ∷ []))) []
drawing_fields d area (Mem3 cache index r code sx sy entry) = field_list 14 (pos cache ∷ (box r ++ (pos code ∷ sx ∷ sy ∷ pos 0 ∷ pos 0 ∷ (cached_brush d entry ++ pos index ∷ [])))) []
drawing_fields d area (Glyphs cache x y color run) = field_list 27 (pos cache ∷ pos 3 ∷ pos 0 ∷ pos 1 ∷ pos (wire_color d color) ∷ pos 0 ∷ (open_box area ++ (zeros 9 ++ x ∷ y ∷ []))) run

-- a drawing whose rectangle has a pixel
abbrev pub HasPixel : NamedDrawing → Type 0
HasPixel (Dst r code) = has_pixel r ≡ true
HasPixel (Pat r code entry) = has_pixel r ≡ true
HasPixel (Scr r code sx sy) = has_pixel r ≡ true
HasPixel (Opaque r color) = has_pixel r ≡ true
HasPixel (SaveBlock position r) = has_pixel r ≡ true
HasPixel (RestoreBlock position r) = has_pixel r ≡ true
HasPixel (Mem cache index r code sx sy) = has_pixel r ≡ true
HasPixel (Mem3 cache index r code sx sy entry) = has_pixel r ≡ true
HasPixel (Glyphs cache x y color run) = Unit {0}

-- a drawing with its colour as it is shown
abbrev pub shown_named : Depth → NamedDrawing → NamedDrawing
shown_named d (Dst r code) = Dst r code
shown_named d (Pat r code entry) = Pat r code entry
shown_named d (Scr r code sx sy) = Scr r code sx sy
shown_named d (Opaque r color) = Opaque r (shown d color)
shown_named d (SaveBlock position r) = SaveBlock position r
shown_named d (RestoreBlock position r) = RestoreBlock position r
shown_named d (Mem cache index r code sx sy) = Mem cache index r code sx sy
shown_named d (Mem3 cache index r code sx sy entry) = Mem3 cache index r code sx sy entry
shown_named d (Glyphs cache x y color run) = Glyphs cache x y (shown d color) run

-- a drawing whose colour is one
abbrev pub HasColor : NamedDrawing → Type 0
HasColor (Dst r code) = ⊤
HasColor (Pat r code entry) = ⊤
HasColor (Scr r code sx sy) = ⊤
HasColor (Opaque r color) = color < 2 ^ 24
HasColor (SaveBlock position r) = ⊤
HasColor (RestoreBlock position r) = ⊤
HasColor (Mem cache index r code sx sy) = ⊤
HasColor (Mem3 cache index r code sx sy entry) = ⊤
HasColor (Glyphs cache x y color run) = color < 2 ^ 24
