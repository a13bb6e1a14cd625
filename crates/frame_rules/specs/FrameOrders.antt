-- The orders of a frame: its start marker, its black fill, the cache orders of misses with the orders that draw, its tiles, and its mark (profile).
use Rattle.std.specs.Prelude.{ℕ, ◌+◌, ◌-◌, nat_lt, Bool, true, false, ◌&&◌, List, [], ◌∷◌, ◌++◌, map, Option, Some, None, int_le, ◌+ℤ◌, pos, if◌then◌else◌}
use Rattle.px_core.specs.declared.surface.Size.{Size}
use Rattle.px_core.specs.declared.rectangle.Rect.{Rect}
use Rattle.px_core.specs.Rectangle.{whole, cut_out}
use Rattle.px_core.specs.Tiles.{tile_on}
use Rattle.draw_ops.specs.declared.shape.Shape.{Shape}
use Rattle.draw_ops.specs.declared.shape.Shape.TheVariants.{Fill, Dst, Pat, Copy, Blit, Blit3, Text, Line, Save, Restore, LoadImage, LoadBrush, LoadGlyph}
use Rattle.draw_ops.specs.Content.{ImageOf, GlyphOf}
use Rattle.draw_ops.specs.Slots.{Loaded}
use Rattle.caps_sets.specs.declared.confirmed.Confirmed.{Confirmed}
use Rattle.caps_sets.specs.Confirmed.{cache_size}
use Rattle.cache_plan.specs.CacheUse.{misses, cache_index, uses_of}
use Rattle.frame_rules.specs.Support.{used_bitmap_entries, used_glyph_entries, image_cache, run_cache}
use Rattle.frame_rules.specs.Frame.{Sent, FrameOf}
use Rattle.order_fields.specs.NamedDrawing.{NamedDrawing}
use Rattle.order_fields.specs.NamedDrawing.NamedDrawing.{Dst as DstBlt, Pat as PatBlt, Scr as ScrBlt, Opaque as OpaqueRect, SaveBlock, RestoreBlock}
use Rattle.order_fields.specs.NamedDrawing.NamedDrawing.{Mem as MemBlt, Mem3 as Mem3Blt, Glyphs as GlyphIndex}

-- ---- what is sent

-- an order of an Orders update: a drawing with the rectangle that it touches and its bounds; an image, a glyph or a brush for an index of a cache; a frame
-- marker, of a frame's begin or its end
pub data SentOrder : Type 0 where
  Drawn : (touched : Rect) → NamedDrawing → (bounds : Option Rect) → SentOrder
  CacheImage : (cache index : ℕ) → ImageOf → SentOrder
  CacheGlyph : (cache index : ℕ) → GlyphOf → SentOrder
  CacheBrush : (entry : ℕ) → List ℕ → SentOrder
  FrameMarker : (ends : Bool) → SentOrder

-- an order of an Orders update; a rectangle of a bitmap update, with its pixels row by row from the top; or a Synchronize update
pub data FrameOrder : Type 0 where
  Ordered : SentOrder → FrameOrder
  Tile : Rect → List ℕ → FrameOrder
  Synchronize : FrameOrder

-- ---- uses of caches

-- the uses of all caches so far, the latest first: the cache's number and the key, which is the number of the load. Bitmap caches are 0 to 2, glyph caches 3 to
-- 12, the brush cache is 13
abbrev pub Uses : Type 0
Uses = List (ℕ × ℕ)

abbrev pub first_glyph_cache : ℕ
first_glyph_cache = 3

abbrev pub brush_cache : ℕ
brush_cache = 13

-- how many entries of a cache are used
abbrev pub entries_of : Confirmed → ℕ → ℕ
entries_of c cache =
    if nat_lt cache first_glyph_cache then used_bitmap_entries (cache_size c.bitmaps cache)
    else (if nat_lt cache brush_cache then used_glyph_entries (cache_size c.glyphs (cache - first_glyph_cache)) else 64)

-- a use: its cache order where it misses, its index, and the uses after it
pub record Use : Type 0 where
  pub orders : List SentOrder
  pub index : ℕ
  pub uses : Uses

abbrev pub use_by : Bool → ℕ → Uses → (ℕ → SentOrder) → Use
use_by true index uses content = record { orders = content index ∷ []; index = index; uses = uses }
use_by false index uses content = record { orders = []; index = index; uses = uses }

-- a use of a key, whose content goes to its index exactly where it misses
abbrev pub use_of : Confirmed → Uses → ℕ → ℕ → (ℕ → SentOrder) → Use
use_of c uses cache key content =
    use_by (misses (entries_of c cache) (uses_of cache uses) key) (cache_index (entries_of c cache) (uses_of cache uses) key) ((cache, key) ∷ uses) content

abbrev pub no_use : Uses → Use
no_use uses = record { orders = []; index = 0; uses = uses }

abbrev pub brush_use : Confirmed → Uses → Option (Loaded (List ℕ)) → Use
brush_use c uses None = no_use uses
brush_use c uses (Some brush) = use_of c uses brush_cache brush.number (λ index. CacheBrush index brush.content)

abbrev pub image_use : Confirmed → Uses → ℕ → Option (Loaded ImageOf) → Use
image_use c uses cache None = no_use uses
image_use c uses cache (Some image) = use_of c uses cache image.number (λ index. CacheImage cache index image.content)

-- the uses of a run's glyphs, in the run's order
pub record RunUse : Type 0 where
  pub orders : List SentOrder
  pub indices : List ℕ
  pub uses : Uses

abbrev pub onto_run : Use → RunUse → RunUse
onto_run u r = record { orders = u.orders ++ r.orders; indices = u.index ∷ r.indices; uses = r.uses }

abbrev pub glyph_use : Confirmed → Uses → ℕ → Loaded GlyphOf → Use
glyph_use c uses cache glyph = use_of c uses (first_glyph_cache + cache) glyph.number (λ index. CacheGlyph cache index glyph.content)

abbrev pub run_use : Confirmed → Uses → ℕ → List (Loaded GlyphOf) → RunUse
run_use c uses cache [] = record { orders = []; indices = []; uses = uses }
run_use c uses cache (g ∷ gs) = onto_run (glyph_use c uses cache g) (run_use c (glyph_use c uses cache g).uses cache gs)

-- pairs of index and delta
abbrev pub run_pairs : List ℕ → List (ℕ × ℕ) → List ℕ
run_pairs [] ps = []
run_pairs (i ∷ is) [] = []
run_pairs (i ∷ is) (p ∷ ps) = i ∷ p.1 ∷ run_pairs is ps

-- ---- the orders of a drawing

-- whether a rectangle lies within another one
abbrev pub is_within : Rect → Rect → Bool
is_within r clip = (int_le clip.x r.x && int_le (r.x +ℤ pos r.w) (clip.x +ℤ pos clip.w))
    && (int_le clip.y r.y && int_le (r.y +ℤ pos r.h) (clip.y +ℤ pos clip.h))

abbrev pub bounds_if : Bool → Rect → Option Rect
bounds_if true clip = None
bounds_if false clip = Some clip

-- bounds are the clip, and go exactly where the rectangle isn't inside it
abbrev pub bounds_of : Rect → Option Rect → Option Rect
bounds_of r None = None
bounds_of r (Some clip) = bounds_if (is_within r clip) clip

-- what a drawing sends, and the uses after it
pub record Sending : Type 0 where
  pub orders : List SentOrder
  pub uses : Uses

abbrev pub sending : List SentOrder → Uses → Sending
sending orders uses = record { orders = orders; uses = uses }

abbrev pub or_0 : Option ℕ → ℕ
or_0 None = 0
or_0 (Some n) = n

-- the orders of a drawing that goes as an order, by its shape and its clip: cache orders first, an image before a brush
abbrev pub sending_by : Confirmed → Uses → Sent → Option Rect → Shape → Sending
sending_by c uses s clip (Fill r color) = sending (Drawn r (OpaqueRect r color) (bounds_of r clip) ∷ []) uses
sending_by c uses s clip (Dst r code) = sending (Drawn r (DstBlt r code) (bounds_of r clip) ∷ []) uses
sending_by c uses s clip (Pat r code brush) =
    let b = brush_use c uses s.pending.brush in
    sending (b.orders ++ Drawn r (PatBlt r code b.index) (bounds_of r clip) ∷ []) b.uses
sending_by c uses s clip (Copy r code sx sy) = sending (Drawn r (ScrBlt r code sx sy) (bounds_of r clip) ∷ []) uses
sending_by c uses s clip (Blit r code image sx sy) =
    let cache = or_0 (image_cache c s.pending.image) in
    let i = image_use c uses cache s.pending.image in
    sending (i.orders ++ Drawn r (MemBlt cache i.index r code sx sy) (bounds_of r clip) ∷ []) i.uses
sending_by c uses s clip (Blit3 r code image sx sy brush) =
    let cache = or_0 (image_cache c s.pending.image) in
    let i = image_use c uses cache s.pending.image in
    let b = brush_use c i.uses s.pending.brush in
    sending (i.orders ++ (b.orders ++ Drawn r (Mem3Blt cache i.index r code sx sy b.index) (bounds_of r clip) ∷ [])) b.uses
sending_by c uses s clip (Text x y color font run) =
    let cache = or_0 (run_cache c s.pending.glyphs) in
    let g = run_use c uses cache s.pending.glyphs in
    sending (g.orders ++ Drawn s.pending.rect (GlyphIndex cache x y color (run_pairs g.indices run)) (bounds_of s.pending.rect clip) ∷ []) g.uses
sending_by c uses s clip (Line x0 y0 x1 y1 color) = sending [] uses
sending_by c uses s clip (Save slot r) = sending (Drawn r (SaveBlock s.position r) None ∷ []) uses
sending_by c uses s clip (Restore slot x y) = sending (Drawn s.pending.rect (RestoreBlock s.position s.pending.rect) None ∷ []) uses
sending_by c uses s clip (LoadImage slot image) = sending [] uses
sending_by c uses s clip (LoadBrush slot brush) = sending [] uses
sending_by c uses s clip (LoadGlyph font code glyph) = sending [] uses

abbrev pub sending_of : Confirmed → Uses → Sent → Sending
sending_of c uses s = sending_by c uses s s.pending.drawing.clip s.pending.drawing.shape

abbrev pub orders_from : Confirmed → Uses → List Sent → List SentOrder
orders_from c uses [] = []
orders_from c uses (s ∷ ss) = (sending_of c uses s).orders ++ orders_from c (sending_of c uses s).uses ss

abbrev pub uses_after : Confirmed → Uses → List Sent → Uses
uses_after c uses [] = uses
uses_after c uses (s ∷ ss) = uses_after c (sending_of c uses s).uses ss

-- ---- the frame

-- a viewer with marker support is told where a frame begins and ends
abbrev pub start_orders : Bool → List SentOrder
start_orders true = FrameMarker false ∷ []
start_orders false = []

-- a first frame begins with a black fill of the whole picture, where the viewer supports it
abbrev pub black_orders : Size → Bool → List SentOrder
black_orders size true = Drawn (whole size) (OpaqueRect (whole size) 0) None ∷ []
black_orders size false = []

-- the orders of a frame before its tiles
abbrev pub orders_before_tiles : Size → Confirmed → Uses → FrameOf → List SentOrder
orders_before_tiles size c uses f = start_orders c.marker ++ (black_orders size (f.first && c.pat) ++ orders_from c uses f.sent)

-- a tile, with the pixels that the frame shows
abbrev pub tile_order : Size → List ℕ → ℕ → FrameOrder
tile_order size picture tile = Tile (tile_on size tile) (cut_out size picture 0 (tile_on size tile))

-- the mark of the frame's end
abbrev pub end_mark : Bool → FrameOrder
end_mark true = Ordered (FrameMarker true)
end_mark false = Synchronize

-- all orders of a frame
abbrev pub frame_orders : Size → Confirmed → Uses → FrameOf → List FrameOrder
frame_orders size c uses f = map Ordered (orders_before_tiles size c uses f) ++ (map (tile_order size f.picture) f.tiles ++ end_mark c.marker ∷ [])
