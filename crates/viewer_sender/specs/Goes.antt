-- Drawings and tiles that can be written: their fields hold the values at a depth, and what their slots held is sound.
use Rattle.std.specs.Prelude.{◌≡◌, ℕ, ◌*◌, ◌<◌, ◌≤◌, ⊤, IsTrue, List, [], ◌∷◌, length, Option, Some, None}
use Rattle.px_core.specs.declared.surface.Size.{Size}
use Rattle.px_core.specs.declared.rectangle.Rect.{Rect}
use Rattle.px_core.specs.Tiles.{tile_on}
use Rattle.px_core.specs.Colors.{are_colors}
use Rattle.draw_ops.specs.declared.shape.Shape.{Shape}
use Rattle.draw_ops.specs.declared.shape.Shape.TheVariants.{Fill, Dst, Pat, Copy, Blit, Blit3, Text, Line, Save, Restore, LoadImage, LoadBrush, LoadGlyph}
use Rattle.draw_ops.specs.Content.{ImageOf, GlyphOf}
use Rattle.draw_ops.specs.Slots.{Loaded}
use Rattle.caps_sets.specs.declared.confirmed.Confirmed.{Confirmed}
use Rattle.caps_sets.specs.Confirmed.{depth_of}
use Rattle.px_core.specs.declared.depth.Depth.{Depth}
use Rattle.order_fields.specs.OrderTable.{IsFieldList, FitBounds}
use Rattle.order_fields.specs.OrderDelta.{edges_of_optional}
use Rattle.order_fields.specs.NamedDrawing.{NamedDrawing, drawing_fields}
use Rattle.order_fields.specs.NamedDrawing.NamedDrawing.{Dst as DstBlt, Pat as PatBlt, Scr as ScrBlt, Opaque as OpaqueRect, SaveBlock}
use Rattle.order_fields.specs.NamedDrawing.NamedDrawing.{RestoreBlock, Mem as MemBlt, Mem3 as Mem3Blt, Glyphs as GlyphIndex}
use Rattle.bitmap_upd.specs.Place.{IsUpdated}
use Rattle.frame_laws.specs.Sound.{AreColors, IsSoundImage}
use Rattle.frame_laws.specs.SoundState.{IsSoundGlyph}
use Rattle.frame_rules.specs.Frame.{Sent}
use Rattle.frame_rules.specs.FrameOrders.{bounds_of}
use Rattle.frame_plan.specs.declared.cached.Cached.{Cached}
use Rattle.frame_plan.specs.declared.cached.Cached.TheVariants.{Brush, Image, ImageAndBrush, Glyphs}
use Rattle.frame_plan.specs.Orders.{cached_of}

-- an order whose fields hold its values, in a clip
pub record FitsDrawn (depth : Depth) (area : Rect) (d : NamedDrawing) (clip : Option Rect) : Type 0 where
  pub fields : IsFieldList (drawing_fields depth area d)
  pub bounds : FitBounds (edges_of_optional (bounds_of area clip))

-- a shape whose order does so, whichever entries of caches it names
abbrev pub ShapeGoes : Depth → Sent → Option Rect → Shape → Type 0
ShapeGoes depth s clip (Fill r color) = FitsDrawn depth r (OpaqueRect r color) clip
ShapeGoes depth s clip (Dst r code) = FitsDrawn depth r (DstBlt r code) clip
ShapeGoes depth s clip (Pat r code brush) = (entry : ℕ) → entry < 256 → FitsDrawn depth r (PatBlt r code entry) clip
ShapeGoes depth s clip (Copy r code sx sy) = FitsDrawn depth r (ScrBlt r code sx sy) clip
ShapeGoes depth s clip (Blit r code image sx sy) = (cache index : ℕ) → cache < 3 → index < 65536 → FitsDrawn depth r (MemBlt cache index r code sx sy) clip
ShapeGoes depth s clip (Blit3 r code image sx sy brush) =
    (cache index entry : ℕ) → cache < 3 → index < 65536 → entry < 256 → FitsDrawn depth r (Mem3Blt cache index r code sx sy entry) clip
ShapeGoes depth s clip (Text x y color font run) =
    ((cache : ℕ) (pairs : List ℕ) → cache < 10 → length pairs < 256 → FitsDrawn depth s.pending.rect (GlyphIndex cache x y color pairs) clip)
    × (length s.pending.glyphs ≡ length run) × (length run ≤ 64)
ShapeGoes depth s clip (Line x0 y0 x1 y1 color) = ⊤
ShapeGoes depth s clip (Save slot r) = FitsDrawn depth r (SaveBlock s.position r) None
ShapeGoes depth s clip (Restore slot x y) = FitsDrawn depth s.pending.rect (RestoreBlock s.position s.pending.rect) None
ShapeGoes depth s clip (LoadImage slot image) = ⊤
ShapeGoes depth s clip (LoadBrush slot brush) = ⊤
ShapeGoes depth s clip (LoadGlyph font code glyph) = ⊤

abbrev pub ImageGoes : Option (Loaded ImageOf) → Type 0
ImageGoes None = ⊤
ImageGoes (Some image) = IsSoundImage image.content

abbrev pub BrushGoes : Option (Loaded (List ℕ)) → Type 0
BrushGoes None = ⊤
BrushGoes (Some brush) = (length brush.content ≡ 64) × AreColors brush.content

abbrev pub GlyphsGo : List (Loaded GlyphOf) → Type 0
GlyphsGo [] = ⊤
GlyphsGo (g ∷ gs) = IsSoundGlyph g.content × GlyphsGo gs

-- a shape that goes as an order, with all that its order takes from caches
abbrev pub GoesWith : Shape → Cached → Type 0
GoesWith (Fill r color) cached = ⊤
GoesWith (Dst r code) cached = ⊤
GoesWith (Pat r code brush) (Brush b) = ⊤
GoesWith (Copy r code sx sy) cached = ⊤
GoesWith (Blit r code image sx sy) (Image cache i) = ⊤
GoesWith (Blit3 r code image sx sy brush) (ImageAndBrush cache i b) = ⊤
GoesWith (Text x y color font run) (Glyphs cache) = ⊤
GoesWith (Save slot r) cached = ⊤
GoesWith (Restore slot x y) cached = ⊤
GoesWith shape cached = ⊥

-- a drawing that can be written to a viewer who confirmed this
pub record SentGoes (c : Confirmed) (s : Sent) : Type 0 where
  pub shape : ShapeGoes (depth_of c) s s.pending.drawing.clip s.pending.drawing.shape
  pub cached : GoesWith s.pending.drawing.shape (cached_of c s)
  pub image : ImageGoes s.pending.image
  pub brush : BrushGoes s.pending.brush
  pub glyphs : GlyphsGo s.pending.glyphs

abbrev pub AllGo : Confirmed → List Sent → Type 0
AllGo c [] = ⊤
AllGo c (s ∷ ss) = SentGoes c s × AllGo c ss

-- a tile that can be written
pub record TileGoes (size : Size) (tile : ℕ × List ℕ) : Type 0 where
  pub place : IsUpdated (tile_on size tile.0)
  pub whole : length tile.1 ≡ (tile_on size tile.0).w * (tile_on size tile.0).h
  pub colors : IsTrue (are_colors tile.1)

abbrev pub TilesGo : Size → List (ℕ × List ℕ) → Type 0
TilesGo size [] = ⊤
TilesGo size (t ∷ ts) = TileGoes size t × TilesGo size ts
