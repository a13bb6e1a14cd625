-- What a reader tells of orders.
use Rattle.std.specs.Prelude.{ℕ, ◌-◌, List, map, take, drop, Option, Some, None}
use Rattle.px_core.specs.declared.rectangle.Rect.{Rect}
use Rattle.px_core.specs.Rectangle.{boxed}
use Rattle.px_core.specs.Picture.{turned_over}
use Rattle.order_fields.specs.OrderTable.{FieldList, Edges}
use Rattle.order_fields.specs.NamedDrawing.{side_between}
use Rattle.order_fields.specs.Secondary.{Cached}
use Rattle.order_fields.specs.Secondary.Cached.{Bitmap, Glyph, Brush, Marker}
use Rattle.order_fields.specs.OrderStream.{Order}
use Rattle.order_fields.specs.OrderStream.Order.{Primary, Other}
use Rattle.wire_num.specs.declared.range.Range.{Range}
use Rattle.order_read.specs.declared.read.Read.{Read}
use Rattle.order_read.specs.declared.read.Read.TheVariants.{Primary as ReadPrimary, Bitmap as ReadBitmap, Glyph as ReadGlyph, Brush as ReadBrush, Marker as ReadMarker}

-- the rectangle with the pixels of bounds; it has none where an edge lies before its opposite
abbrev pub bounds_rect : Edges → Rect
bounds_rect e = boxed e.left e.top (side_between e.left e.right) (side_between e.top e.bottom)

abbrev pub optional_rect : Option Edges → Option Rect
optional_rect None = None
optional_rect (Some e) = Some (bounds_rect e)

-- what is told of an order: a drawing with the rectangle of its bounds, or a cache order or a marker
pub data Told : Type 0 where
  Drawn : FieldList → Option Rect → Told
  Stored : Cached → Told

-- a brush is told with its rows from the top
abbrev pub upright : Cached → Cached
upright (Bitmap b) = Bitmap b
upright (Glyph g) = Glyph g
upright (Brush b) = Brush (record b { pixels = turned_over 8 8 b.pixels })
upright (Marker ends) = Marker ends

abbrev pub told_order : Order → Told
told_order (Primary o bounds) = Drawn o (optional_rect bounds)
told_order (Other o) = Stored (upright o)

abbrev pub told_orders : List Order → List Told
told_orders os = map told_order os

-- the part of a body
abbrev pub part_of : List ℕ → Range → List ℕ
part_of body at = take (at.to - at.from) (drop at.from body)

-- what the call says, whose ranges are those of a body
abbrev pub told_read : List ℕ → Read → Told
told_read body (ReadPrimary fields bounds) = Drawn fields bounds
told_read body (ReadBitmap cache index w h depth flags packed at) =
    Stored (Bitmap (record { cache = cache; index = index; w = w; h = h; depth = depth; flags = flags; packed = packed; bytes = part_of body at }))
told_read body (ReadGlyph cache index glyph) = Stored (Glyph (record { cache = cache; index = index; x = glyph.x; y = glyph.y; cx = glyph.cx; cy = glyph.cy; bits = glyph.bits }))
told_read body (ReadBrush entry brush) = Stored (Brush (record { entry = entry; pixels = brush }))
told_read body (ReadMarker end) = Stored (Marker end)

abbrev pub told_reads : List ℕ → List Read → List Told
told_reads body rs = map (told_read body) rs
