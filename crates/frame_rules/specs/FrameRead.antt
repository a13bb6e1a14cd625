-- The orders of a frame as a client reads them.
use Rattle.std.specs.Prelude.{◌≡◌, ℕ, ◌+◌, ◌^◌, ◌<◌, ◌≤◌, true, List, [], ◌∷◌, length, All, Ok}
use Rattle.caps_sets.specs.declared.confirmed.Confirmed.{Confirmed}
use Rattle.caps_sets.specs.Confirmed.{depth_of}
use Rattle.draw_ops.specs.Content.{ImageOf, GlyphOf}
use Rattle.px_core.specs.declared.depth.Depth.{Depth}
use Rattle.px_core.specs.Depth.{bits_in, shown_colors}
use Rattle.order_fields.specs.OrderTable.{IsFieldList, FitBounds, fits_coordinate}
use Rattle.order_fields.specs.OrderStream.{Order}
use Rattle.order_fields.specs.OrderStream.Order.{Primary, Other}
use Rattle.order_fields.specs.OrderDelta.{edges_of_optional}
use Rattle.order_fields.specs.Secondary.{Cached, glyph_length}
use Rattle.order_fields.specs.Secondary.Cached.{Bitmap, Glyph, Brush, Marker}
use Rattle.order_fields.specs.NamedDrawing.{drawing_fields}
use Rattle.px_core.specs.Picture.{turned_over}
use Rattle.order_means.specs.UpdateBodies.{PixelData, data_of}
use Rattle.order_means.specs.KeptContent.{kept_image, padded_glyph}
use Rattle.order_means.specs.ClientState.{bitmap_flags}
use Rattle.frame_rules.specs.FrameOrders.{SentOrder}
use Rattle.order_fields.specs.OrderTable.{Registers}
use Rattle.px_core.specs.declared.surface.Size.{Size}
use Rattle.order_means.specs.Updates.{cutting}
use Rattle.order_means.specs.Updates.Stage.{Between}
use Rattle.order_means.specs.FrameMarks.{View, reading, read_on}
use Rattle.frame_rules.specs.FrameBytes.{bytes_of_order, registers_after_order}
use Rattle.frame_rules.specs.FrameOrders.SentOrder.{Drawn, CacheImage, CacheGlyph, CacheBrush, FrameMarker}

-- the bytes of an image's pixels on the wire, and whether they are packed
abbrev pub image_data : Confirmed → ImageOf → PixelData
image_data c image =
    let k = kept_image (depth_of c) image in data_of (depth_of c) c.no_header k.w (turned_over k.w k.h k.pixels)

abbrev pub cached_bitmap : Depth → ℕ → ℕ → ImageOf → PixelData → Cached
cached_bitmap depth cache index image pixels = Bitmap (record {
  cache = cache;
  index = index;
  w = (kept_image depth image).w;
  h = (kept_image depth image).h;
  depth = bits_in depth;
  flags = bitmap_flags pixels.is_packed;
  packed = pixels.is_packed;
  bytes = pixels.bytes;
})

-- an order that was sent, as it is read: its colours as they are shown at the viewer's depth, a cached image with the columns that were added to its width, a
-- cached glyph with its padded bits, a cached brush with its rows from the bottom up
abbrev pub as_read : Confirmed → SentOrder → Order
as_read c (Drawn touched d bounds) = Primary (drawing_fields (depth_of c) touched d) (edges_of_optional bounds)
as_read c (CacheImage cache index image) = Other (cached_bitmap (depth_of c) cache index image (image_data c image))
as_read c (CacheGlyph cache index glyph) = Other
    (Glyph (record { cache = cache; index = index; x = glyph.x; y = glyph.y; cx = glyph.cx; cy = glyph.cy; bits = (padded_glyph glyph).bits }))
as_read c (CacheBrush entry brush) = Other (Brush (record { entry = entry; pixels = turned_over 8 8 (shown_colors (depth_of c) brush) }))
as_read c (FrameMarker ends) = Other (Marker ends)

-- an image, a glyph and a brush that a cache order can hold
pub record FitsImage (c : Confirmed) (index : ℕ) (image : ImageOf) : Type 0 where
  pub index_fits : index < 2 ^ 16
  pub few : length (image_data c image).bytes < 2 ^ 15

pub record FitsGlyph (index : ℕ) (glyph : GlyphOf) : Type 0 where
  pub index_fits : index < 2 ^ 16
  pub x : fits_coordinate glyph.x ≡ true
  pub y : fits_coordinate glyph.y ≡ true
  pub wide : glyph.cx < 2 ^ 16
  pub high : glyph.cy < 2 ^ 16
  pub bits : length (padded_glyph glyph).bits ≡ glyph_length glyph.cx glyph.cy
  pub few : length (padded_glyph glyph).bits < 2 ^ 15

pub record FitsBrush (brush : List ℕ) : Type 0 where
  pub whole : length (turned_over 8 8 brush) ≡ 64
  pub colors : All (λ color. color < 2 ^ 24) (turned_over 8 8 brush)

-- an order whose values its fields can hold
abbrev pub FitsOrder : Confirmed → SentOrder → Type 0
FitsOrder c (Drawn touched d bounds) = IsFieldList (drawing_fields (depth_of c) touched d) × FitBounds (edges_of_optional bounds)
FitsOrder c (CacheImage cache index image) = FitsImage c index image
FitsOrder c (CacheGlyph cache index glyph) = FitsGlyph index glyph
FitsOrder c (CacheBrush entry brush) = FitsBrush brush
FitsOrder c (FrameMarker ends) = Unit {0}

abbrev pub FitOrders : Confirmed → List SentOrder → Type 0
FitOrders c [] = Unit {0}
FitOrders c (o ∷ os) = FitsOrder c o × FitOrders c os

-- each order fits into an update of its own
abbrev pub AreShort : Confirmed → Registers → List SentOrder → Type 0
AreShort c regs [] = Unit {0}
AreShort c regs (o ∷ os) = (length (bytes_of_order c regs o) ≤ 16357) × AreShort c (registers_after_order c regs o) os

-- bytes that aren't refused and leave no rest, read from a place between packets on, and the viewer after them
abbrev pub Reads : Confirmed → Size → View → ℕ → List ℕ → View → Type 0
Reads c size v place bytes w = read_on c size (reading v (cutting place Between)) bytes ≡ Ok (reading w (cutting (place + length bytes) Between))
