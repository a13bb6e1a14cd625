-- What a client makes of orders: its state, and its state after each order.
use Rattle.std.specs.Prelude.{ℕ, ◌+◌, ◌*◌, ◌/◌, ◌%◌, ◌==◌, nat_lt, nat_le, Bool, true, false, ◌&&◌, ◌||◌, ℤ, pos, int_le, List, [], ◌∷◌, length, map}
use Rattle.std.specs.Prelude.{replicate, slice_set, Option, Some, None, Result, Ok, Err}
use Rattle.px_core.specs.declared.surface.Size.{Size}
use Rattle.px_core.specs.declared.rectangle.Rect.{Rect}
use Rattle.px_core.specs.Picture.{pixel_count, item, rows_of, Area, everywhere, turned_over}
use Rattle.px_core.specs.Rectangle.{boxed, is_inside, cut_out}
use Rattle.rop3_core.specs.Palette.{client_colors}
use Rattle.run_lengths.specs.RunLength.{unrle}
use Rattle.caps_sets.specs.declared.cache_size.CacheSize.{CacheSize}
use Rattle.caps_sets.specs.declared.confirmed.Confirmed.{Confirmed}
use Rattle.caps_sets.specs.Confirmed.{cache_size, depth_of}
use Rattle.draw_ops.specs.Content.{ImageOf, GlyphOf}
use Rattle.draw_ops.specs.Depths.{client_colors_at}
use Rattle.draw_ops.specs.Slots.{Slots, empty_slots, filled_slot, lookup}
use Rattle.draw_ops.specs.Formulas.{Operand, solid, rastered, replaced, absent, brushed, shifted, imaged, image_rows, run_area, run_cells, joint_of}
use Rattle.draw_ops.specs.Formulas.{Painting, over_rect, picture_after}
use Rattle.wire_num.specs.Field.{bind}
use Rattle.px_core.specs.Pixels.{pixels_of}
use Rattle.px_core.specs.declared.depth.Depth.{Depth}
use Rattle.px_core.specs.Depth.{bits_in, bytes_in}
use Rattle.order_fields.specs.OrderTable.{Edges, Registers, first_registers}
use Rattle.order_fields.specs.Secondary.{Cached, BitmapOrder, GlyphOrder, BrushOrder}
use Rattle.order_fields.specs.Secondary.Cached.{Bitmap, Glyph, Brush, Marker}
use Rattle.order_fields.specs.OrderStream.{Order}
use Rattle.order_fields.specs.OrderStream.Order.{Primary, Other}
use Rattle.order_fields.specs.NamedDrawing.{NamedDrawing, drawing_of}
use Rattle.order_fields.specs.NamedDrawing.NamedDrawing.{Dst, Pat, Scr, Opaque, SaveBlock, RestoreBlock, Mem, Mem3, Glyphs}

-- ---- the state

-- a saved block: its position, its sides, and its pixels row by row from the top
pub record Block : Type 0 where
  pub position : ℕ
  pub w : ℕ
  pub h : ℕ
  pub pixels : List (Option ℕ)

-- the depth of its colours, the registers that the next update's orders are read with, three bitmap caches, ten glyph caches, the brush cache, the saved
-- blocks, and a picture whose pixels may be unknown
pub record ClientState : Type 0 where
  pub depth : Depth
  pub registers : Registers
  pub images : List (Slots ImageOf)
  pub glyphs : List (Slots GlyphOf)
  pub brushes : Slots (List ℕ)
  pub blocks : List Block
  pub picture : List (Option ℕ)

-- the brush cache has 64 entries where brushes are confirmed
abbrev pub brush_entries : Bool → ℕ
brush_entries true = 64
brush_entries false = 0

abbrev pub empty_cache : {A : Type 0} → CacheSize → Slots A
empty_cache size = empty_slots size.entries

-- at first all caches are empty, there is no block, and all pixels are unknown
abbrev pub first_client : Confirmed → Size → ClientState
first_client confirmed size = record {
  depth = depth_of confirmed;
  registers = first_registers;
  images = map empty_cache confirmed.bitmaps;
  glyphs = map empty_cache confirmed.glyphs;
  brushes = empty_slots (brush_entries confirmed.brush);
  blocks = [];
  picture = replicate (pixel_count size) None;
}

-- an entry of a cache among several
abbrev pub cached : {A : Type 0} → ℕ → ℕ → List (Slots A) → Option A
cached cache index caches = lookup index (item caches cache [])

abbrev pub with_cached : {A : Type 0} → ℕ → ℕ → A → List (Slots A) → List (Slots A)
with_cached cache index x caches = slice_set caches cache (filled_slot index x (item caches cache []))

-- ---- refusals

-- why an order is refused: it breaks a rule, or it names an index or a cell past the confirmed size, or one that holds nothing. The caches are numbered 0 to 2
-- (bitmaps), 3 to 12 (glyphs) and 13 (brushes)
pub data Fault : Type 0 where
  Broken : Fault
  Oversized : (cache index : ℕ) → Fault
  Empty : (cache index : ℕ) → Fault

-- goes on where the test holds
abbrev pub needs : {A : Type 0} → Bool → Fault → Result A Fault → Result A Fault
needs true fault next = next
needs false fault next = Err fault

abbrev pub found : {A : Type 0} → Option A → Fault → Result A Fault
found None fault = Err fault
found (Some v) fault = Ok v

-- the content of an entry that an order uses
abbrev pub used : {A : Type 0} → (cache entries index : ℕ) → Option A → Result A Fault
used cache entries index held = needs (nat_lt index entries) (Oversized cache index) (found held (Empty cache index))

-- whether a cache has the entry and a cell so great
abbrev pub holds : CacheSize → ℕ → ℕ → Bool
holds size index cell = nat_lt index size.entries && nat_le cell size.cell

-- ---- drawing

-- the pixels within bounds, where an order has some
abbrev pub in_edges : Edges → Area
in_edges e x y = (int_le e.left x && int_le x e.right) && (int_le e.top y && int_le y e.bottom)

abbrev pub in_bounds : Option Edges → Area
in_bounds None = everywhere
in_bounds (Some e) = in_edges e

-- the client after a painting within the bounds
abbrev pub after_painting : Size → Option Edges → Painting (Option ℕ) → ClientState → ClientState
after_painting size bounds p c = record c { picture = picture_after size (in_bounds bounds) p c.picture }

-- a raster operation over a rectangle, on as many bits as the depth has
abbrev pub mixing : Depth → Rect → ℕ → Operand (Option ℕ) → Operand (Option ℕ) → Painting (Option ℕ)
mixing depth r code pattern source = over_rect r (rastered (client_colors_at depth) code pattern source)

abbrev pub no_operand : Operand (Option ℕ)
no_operand = absent client_colors

abbrev pub brush_used : Confirmed → ClientState → ℕ → Result (List ℕ) Fault
brush_used confirmed c entry = used 13 (brush_entries confirmed.brush) entry (lookup entry c.brushes)

-- a cached image, in which the source must lie; the columns that were added to its width belong to it
abbrev pub image_used : Confirmed → ClientState → (cache index : ℕ) → Rect → Result ImageOf Fault
image_used confirmed c cache index source =
    needs (nat_lt cache 3) Broken (bind (used cache (cache_size confirmed.bitmaps cache).entries index (cached cache index c.images)) (λ image.
    needs (is_inside (record { w = image.w; h = image.h }) source) Broken (Ok image)))

abbrev pub glyph_used : Confirmed → ClientState → (cache index : ℕ) → Result GlyphOf Fault
glyph_used confirmed c cache index = used (3 + cache) (cache_size confirmed.glyphs cache).entries index (cached cache index c.glyphs)

-- ---- runs of glyphs

abbrev pub onto_pairs : ℕ → ℕ → Option (List (ℕ × ℕ)) → Option (List (ℕ × ℕ))
onto_pairs index delta None = None
onto_pairs index delta (Some ps) = Some ((index, delta) ∷ ps)

abbrev pub pairs_if : Bool → Option (List (ℕ × ℕ)) → Option (List (ℕ × ℕ))
pairs_if true ps = ps
pairs_if false ps = None

-- the pairs of index (below 254) and delta (below 128) that the bytes of a run are
abbrev pub pairs_of : List ℕ → Option (List (ℕ × ℕ))
pairs_of [] = Some []
pairs_of (i ∷ []) = None
pairs_of (i ∷ d ∷ bytes) = pairs_if (nat_lt i 254 && nat_lt d 128) (onto_pairs i d (pairs_of bytes))

-- goes on where each glyph of a run is there
abbrev pub with_glyphs : {A : Type 0} → (ℕ → Result GlyphOf Fault) → List (ℕ × ℕ) → Result A Fault → Result A Fault
with_glyphs glyph [] next = next
with_glyphs glyph (p ∷ ps) next = bind (glyph p.0) (λ _. with_glyphs glyph ps next)

-- the glyphs of a run in one colour
abbrev pub writing : (ℕ → Option GlyphOf) → ℤ → ℤ → ℕ → List (ℕ × ℕ) → Painting (Option ℕ)
writing glyphs x y color run = record { rect = joint_of (run_cells glyphs x y run); area = run_area glyphs x y run; formula = solid client_colors color }

-- ---- saved blocks

-- the positions that a block takes: its width times its height rounded up to a multiple of twenty (profile)
abbrev pub positions : ℕ → ℕ → ℕ
positions w h = w * (20 * ((h + 19) / 20))

-- two blocks that share no position
abbrev pub are_apart : Block → Block → Bool
are_apart a b = nat_le (a.position + positions a.w a.h) b.position || nat_le (b.position + positions b.w b.h) a.position

abbrev pub kept_block : Bool → Block → List Block → List Block
kept_block true b bs = b ∷ bs
kept_block false b bs = bs

-- the blocks that share no position with a new one
abbrev pub apart_from : Block → List Block → List Block
apart_from new [] = []
apart_from new (b ∷ bs) = kept_block (are_apart new b) b (apart_from new bs)

abbrev pub chosen_block : Bool → Block → Option Block → Option Block
chosen_block true b later = Some b
chosen_block false b later = later

-- the block of exactly that position and sides
abbrev pub block_at : ℕ → ℕ → ℕ → List Block → Option Block
block_at position w h [] = None
block_at position w h (b ∷ bs) = chosen_block ((b.position == position) && ((b.w == w) && (b.h == h))) b (block_at position w h bs)

-- the pixels of a rectangle, to be saved
abbrev pub block_of : Size → ClientState → ℕ → Rect → Block
block_of size c position r = record { position = position; w = r.w; h = r.h; pixels = cut_out size c.picture None r }

abbrev pub with_block : Block → ClientState → ClientState
with_block b c = record c { blocks = b ∷ apart_from b c.blocks }

-- a block's pixels in a rectangle of its sides
abbrev pub restoring : Block → Rect → Painting (Option ℕ)
restoring b r = over_rect r (replaced (shifted (rows_of b.w b.h b.pixels) None r (pos 0) (pos 0)))

-- ---- the client after a drawing order

abbrev pub source_rect : Rect → ℤ → ℤ → Rect
source_rect r sx sy = boxed sx sy r.w r.h

-- the picture is painted within the bounds; sources, entries and brushes that the code doesn't need are looked up and tested all the same
abbrev pub client_after_drawing : Confirmed → Size → Option Edges → ClientState → NamedDrawing → Result ClientState Fault
client_after_drawing confirmed size bounds c (Dst r code) = Ok (after_painting size bounds (mixing c.depth r code no_operand no_operand) c)
client_after_drawing confirmed size bounds c (Pat r code entry) =
    bind (brush_used confirmed c entry) (λ brush. Ok (after_painting size bounds (mixing c.depth r code (brushed client_colors brush) no_operand) c))
client_after_drawing confirmed size bounds c (Scr r code sx sy) =
    needs (is_inside size (source_rect r sx sy)) Broken
    (Ok (after_painting size bounds (mixing c.depth r code no_operand (shifted (rows_of size.w size.h c.picture) None r sx sy)) c))
client_after_drawing confirmed size bounds c (Opaque r color) = Ok (after_painting size bounds (over_rect r (solid client_colors color)) c)
client_after_drawing confirmed size bounds c (SaveBlock position r) =
    needs (is_inside size r && nat_le (position + positions r.w r.h) 57600) Broken (Ok (with_block (block_of size c position r) c))
client_after_drawing confirmed size bounds c (RestoreBlock position r) =
    needs (is_inside size r) Broken (bind (found (block_at position r.w r.h c.blocks) Broken) (λ b. Ok (after_painting size bounds (restoring b r) c)))
client_after_drawing confirmed size bounds c (Mem cache index r code sx sy) =
    bind (image_used confirmed c cache index (source_rect r sx sy))
    (λ image. Ok (after_painting size bounds (mixing c.depth r code no_operand (imaged client_colors (image_rows image) r sx sy)) c))
client_after_drawing confirmed size bounds c (Mem3 cache index r code sx sy entry) =
    bind (image_used confirmed c cache index (source_rect r sx sy)) (λ image. bind (brush_used confirmed c entry) (λ brush.
    Ok (after_painting size bounds (mixing c.depth r code (brushed client_colors brush) (imaged client_colors (image_rows image) r sx sy)) c)))
client_after_drawing confirmed size bounds c (Glyphs cache x y color run) =
    needs (nat_lt cache 10) Broken (bind (found (pairs_of run) Broken) (λ pairs. with_glyphs (glyph_used confirmed c cache) pairs
    (Ok (after_painting size bounds (writing (λ index. cached cache index c.glyphs) x y color pairs) c))))

-- ---- the client after a cache order

-- a side of a bitmap of the wire
abbrev pub is_side : ℕ → Bool
is_side n = nat_lt 0 n && nat_le n 64

-- sides of 1 to 64, a width of a multiple of four, as many bits a pixel as the depth has
abbrev pub is_bitmap : Depth → (w h bits : ℕ) → Bool
is_bitmap depth w h bits = (is_side w && is_side h) && ((w % 4 == 0) && (bits == bits_in depth))

abbrev pub unless_refused : Result (List ℕ) ℕ → Result (List ℕ) Fault
unless_refused (Ok pixels) = Ok pixels
unless_refused (Err place) = Err Broken

-- the pixels of raw or packed bytes, rows from the bottom up
abbrev pub wire_pixels : Depth → Bool → ℕ → ℕ → List ℕ → Result (List ℕ) Fault
wire_pixels depth false w h bytes = needs (length bytes == bytes_in depth * (w * h)) Broken (Ok (pixels_of depth bytes))
wire_pixels depth true w h bytes = unless_refused (unrle depth bytes w h)

-- the flags of a cached bitmap: 0 where it is raw, NO_BITMAP_COMPRESSION_HDR where it is packed
abbrev pub bitmap_flags : Bool → ℕ
bitmap_flags false = 0
bitmap_flags true = 0x0400

-- an image is kept with its rows from the top; packed ones are taken whatever was confirmed
abbrev pub client_after_bitmap : Confirmed → ClientState → BitmapOrder → Result ClientState Fault
client_after_bitmap confirmed c b =
    needs (is_bitmap c.depth b.w b.h b.depth && (nat_lt b.cache 3 && (b.flags == bitmap_flags b.packed))) Broken (
    bind (wire_pixels c.depth b.packed b.w b.h b.bytes) (λ pixels.
    needs (holds (cache_size confirmed.bitmaps b.cache) b.index (bytes_in c.depth * (b.w * b.h))) (Oversized b.cache b.index) (
    Ok (record c { images = with_cached b.cache b.index (record { w = b.w; h = b.h; pixels = turned_over b.w b.h pixels }) c.images }))))

abbrev pub glyph_of : GlyphOrder → GlyphOf
glyph_of g = record { x = g.x; y = g.y; cx = g.cx; cy = g.cy; bits = g.bits }

-- a glyph is kept with its padded bits, which are its cell
abbrev pub client_after_glyph : Confirmed → ClientState → GlyphOrder → Result ClientState Fault
client_after_glyph confirmed c g =
    needs (nat_lt g.cache 10) Broken (
    needs (holds (cache_size confirmed.glyphs g.cache) g.index (length g.bits)) (Oversized (3 + g.cache) g.index) (
    Ok (record c { glyphs = with_cached g.cache g.index (glyph_of g) c.glyphs })))

-- a brush is kept with its rows from the top
abbrev pub client_after_brush : Confirmed → ClientState → BrushOrder → Result ClientState Fault
client_after_brush confirmed c b =
    needs (nat_lt b.entry (brush_entries confirmed.brush)) (Oversized 13 b.entry)
    (Ok (record c { brushes = filled_slot b.entry (turned_over 8 8 b.pixels) c.brushes }))

-- a marker changes nothing of the client
abbrev pub client_after_cached : Confirmed → ClientState → Cached → Result ClientState Fault
client_after_cached confirmed c (Bitmap b) = client_after_bitmap confirmed c b
client_after_cached confirmed c (Glyph g) = client_after_glyph confirmed c g
client_after_cached confirmed c (Brush b) = client_after_brush confirmed c b
client_after_cached confirmed c (Marker ends) = Ok c

-- the client after an order, or why it is refused
abbrev pub client_after_order : Confirmed → Size → ClientState → Order → Result ClientState Fault
client_after_order confirmed size c (Primary o bounds) = bind (found (drawing_of c.depth o) Broken) (client_after_drawing confirmed size bounds c)
client_after_order confirmed size c (Other o) = client_after_cached confirmed c o

-- the client after orders, one by one
abbrev pub client_after_orders : Confirmed → Size → ClientState → List Order → Result ClientState Fault
client_after_orders confirmed size c [] = Ok c
client_after_orders confirmed size c (o ∷ os) = bind (client_after_order confirmed size c o) (λ after. client_after_orders confirmed size after os)
