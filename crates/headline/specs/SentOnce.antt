-- Orders that draw, and the drawings that they are orders of.
use Rattle.std.specs.Prelude.{◌≡◌, ℕ, List, [], ◌∷◌, ◌++◌, Option, Some, ⊤, ◌⊎◌}
use Rattle.px_core.specs.declared.surface.Size.{Size}
use Rattle.px_core.specs.declared.rectangle.Rect.{Rect}
use Rattle.draw_ops.specs.declared.shape.Shape.{Shape}
use Rattle.draw_ops.specs.declared.shape.Shape.TheVariants.{Fill, Dst, Pat, Copy, Blit, Blit3, Text, Line, Save, Restore, LoadImage, LoadBrush, LoadGlyph}
use Rattle.caps_sets.specs.declared.confirmed.Confirmed.{Confirmed}
use Rattle.order_fields.specs.NamedDrawing.{NamedDrawing}
use Rattle.order_fields.specs.NamedDrawing.NamedDrawing.{Dst as DstBlt, Pat as PatBlt, Scr as ScrBlt, Opaque as OpaqueRect, SaveBlock, RestoreBlock}
use Rattle.order_fields.specs.NamedDrawing.NamedDrawing.{Mem as MemBlt, Mem3 as Mem3Blt, Glyphs as GlyphIndex}
use Rattle.session_rules.specs.Pending.{Pending}
use Rattle.frame_rules.specs.Cautious.{as_walked}
use Rattle.frame_rules.specs.Frame.{Walk, Sent, walked_pending}
use Rattle.frame_rules.specs.FrameOrders.{SentOrder, Uses, sending_of}
use Rattle.frame_rules.specs.FrameOrders.SentOrder.{Drawn, CacheImage, CacheGlyph, CacheBrush, FrameMarker}

-- of a pending drawing nothing is sent, or, once, what it is walked as
abbrev pub IsSentOnceOrNot : Size → Confirmed → Walk → Pending → Type 0
IsSentOnceOrNot size c w p = ((walked_pending size c w p).sent ≡ [])
    ⊎ ((s : Sent) × ((walked_pending size c w p).sent ≡ s ∷ []) × (as_walked size c p ≡ Some s.pending))

-- an order that draws, before others
abbrev pub drawn_before : SentOrder → List SentOrder → List SentOrder
drawn_before (Drawn touched d bounds) os = Drawn touched d bounds ∷ os
drawn_before (CacheImage cache index image) os = os
drawn_before (CacheGlyph cache index glyph) os = os
drawn_before (CacheBrush entry brush) os = os
drawn_before (FrameMarker ends) os = os

-- the orders that draw
abbrev pub drawn_orders : List SentOrder → List SentOrder
drawn_orders [] = []
drawn_orders (o ∷ os) = drawn_before o (drawn_orders os)

-- the order that a drawing that is sent has, by its shape; caches, indices and runs are those of the uses so far
abbrev pub IsOrderOf : Sent → Shape → NamedDrawing → Type 0
IsOrderOf s (Fill r color) d = d ≡ OpaqueRect r color
IsOrderOf s (Dst r code) d = d ≡ DstBlt r code
IsOrderOf s (Pat r code brush) d = (entry : ℕ) × (d ≡ PatBlt r code entry)
IsOrderOf s (Copy r code sx sy) d = d ≡ ScrBlt r code sx sy
IsOrderOf s (Blit r code image sx sy) d = (cache : ℕ) × (index : ℕ) × (d ≡ MemBlt cache index r code sx sy)
IsOrderOf s (Blit3 r code image sx sy brush) d = (cache : ℕ) × (index : ℕ) × (entry : ℕ) × (d ≡ Mem3Blt cache index r code sx sy entry)
IsOrderOf s (Text x y color font run) d = (cache : ℕ) × (pairs : List ℕ) × (d ≡ GlyphIndex cache x y color pairs)
IsOrderOf s (Line x0 y0 x1 y1 color) d = ⊥
IsOrderOf s (Save slot r) d = d ≡ SaveBlock s.position r
IsOrderOf s (Restore slot x y) d = d ≡ RestoreBlock s.position s.pending.rect
IsOrderOf s (LoadImage slot image) d = ⊥
IsOrderOf s (LoadBrush slot brush) d = ⊥
IsOrderOf s (LoadGlyph font code glyph) d = ⊥

abbrev pub IsDrawnBy : Sent → Shape → SentOrder → Type 0
IsDrawnBy s shape (Drawn touched d bounds) = IsOrderOf s shape d
IsDrawnBy s shape (CacheImage cache index image) = ⊥
IsDrawnBy s shape (CacheGlyph cache index glyph) = ⊥
IsDrawnBy s shape (CacheBrush entry brush) = ⊥
IsDrawnBy s shape (FrameMarker ends) = ⊥

-- one order for each drawing, in order
abbrev pub AreDrawnAs : List Sent → List SentOrder → Type 0
AreDrawnAs [] [] = ⊤
AreDrawnAs [] (o ∷ os) = ⊥
AreDrawnAs (s ∷ ss) [] = ⊥
AreDrawnAs (s ∷ ss) (o ∷ os) = IsDrawnBy s s.pending.drawing.shape o × AreDrawnAs ss os

-- ---- cache orders

-- an order that draws with an image at an index of a bitmap cache
abbrev pub NamesImage : NamedDrawing → ℕ → ℕ → Type 0
NamesImage (DstBlt r code) of_cache at_index = ⊥
NamesImage (PatBlt r code entry) of_cache at_index = ⊥
NamesImage (ScrBlt r code sx sy) of_cache at_index = ⊥
NamesImage (OpaqueRect r color) of_cache at_index = ⊥
NamesImage (SaveBlock position r) of_cache at_index = ⊥
NamesImage (RestoreBlock position r) of_cache at_index = ⊥
NamesImage (MemBlt cache index r code sx sy) of_cache at_index = (of_cache ≡ cache) × (at_index ≡ index)
NamesImage (Mem3Blt cache index r code sx sy entry) of_cache at_index = (of_cache ≡ cache) × (at_index ≡ index)
NamesImage (GlyphIndex cache x y color run) of_cache at_index = ⊥

-- with a brush at an entry of the brush cache
abbrev pub NamesBrush : NamedDrawing → ℕ → Type 0
NamesBrush (DstBlt r code) at_entry = ⊥
NamesBrush (PatBlt r code entry) at_entry = at_entry ≡ entry
NamesBrush (ScrBlt r code sx sy) at_entry = ⊥
NamesBrush (OpaqueRect r color) at_entry = ⊥
NamesBrush (SaveBlock position r) at_entry = ⊥
NamesBrush (RestoreBlock position r) at_entry = ⊥
NamesBrush (MemBlt cache index r code sx sy) at_entry = ⊥
NamesBrush (Mem3Blt cache index r code sx sy entry) at_entry = at_entry ≡ entry
NamesBrush (GlyphIndex cache x y color run) at_entry = ⊥

-- with glyphs of a glyph cache
abbrev pub NamesGlyphs : NamedDrawing → ℕ → Type 0
NamesGlyphs (DstBlt r code) of_cache = ⊥
NamesGlyphs (PatBlt r code entry) of_cache = ⊥
NamesGlyphs (ScrBlt r code sx sy) of_cache = ⊥
NamesGlyphs (OpaqueRect r color) of_cache = ⊥
NamesGlyphs (SaveBlock position r) of_cache = ⊥
NamesGlyphs (RestoreBlock position r) of_cache = ⊥
NamesGlyphs (MemBlt cache index r code sx sy) of_cache = ⊥
NamesGlyphs (Mem3Blt cache index r code sx sy entry) of_cache = ⊥
NamesGlyphs (GlyphIndex cache x y color run) of_cache = of_cache ≡ cache

-- a cache order of what a drawing names
abbrev pub IsUsedBy : NamedDrawing → SentOrder → Type 0
IsUsedBy d (Drawn touched other bounds) = ⊥
IsUsedBy d (CacheImage cache index image) = NamesImage d cache index
IsUsedBy d (CacheGlyph cache index glyph) = NamesGlyphs d cache
IsUsedBy d (CacheBrush entry brush) = NamesBrush d entry
IsUsedBy d (FrameMarker ends) = ⊥

abbrev pub AreUsedBy : NamedDrawing → List SentOrder → Type 0
AreUsedBy d [] = ⊤
AreUsedBy d (o ∷ os) = IsUsedBy d o × AreUsedBy d os

-- what a drawing sends: the one order that draws it, last, and just before it cache orders of what that order names
pub record EndsWithItsOrder (s : Sent) (orders : List SentOrder) : Type 0 where
  pub caches : List SentOrder
  pub touched : Rect
  pub drawing : NamedDrawing
  pub bounds : Option Rect
  pub are : orders ≡ caches ++ Drawn touched drawing bounds ∷ []
  pub used : AreUsedBy drawing caches
  pub draws : IsOrderOf s s.pending.drawing.shape drawing

-- each of some drawings, one after the other
abbrev pub EachEndsWithItsOrder : Confirmed → Uses → List Sent → Type 0
EachEndsWithItsOrder c uses [] = ⊤
EachEndsWithItsOrder c uses (s ∷ ss) = EndsWithItsOrder s (sending_of c uses s).orders × EachEndsWithItsOrder c (sending_of c uses s).uses ss
