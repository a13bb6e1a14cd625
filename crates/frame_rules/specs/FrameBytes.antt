-- The bytes of a frame, as one function: each order by the delta rule, orders gathered into updates, a bitmap update for each tile, and the mark's own update.
-- A viewer that confirmed the fast path is sent packets of the fast path, every other one Send Data Indications.
use Rattle.std.specs.Prelude.{ℕ, ◌+◌, nat_le, Bool, true, false, List, [], ◌∷◌, ◌++◌, length, flat_map, if◌then◌else◌}
use Rattle.px_core.specs.declared.surface.Size.{Size}
use Rattle.px_core.specs.Rectangle.{cut_out}
use Rattle.px_core.specs.Tiles.{tile_on}
use Rattle.caps_sets.specs.declared.confirmed.Confirmed.{Confirmed}
use Rattle.caps_sets.specs.Confirmed.{depth_of, takes_fast}
use Rattle.order_fields.specs.OrderTable.{Registers, registers_after}
use Rattle.order_fields.specs.OrderDelta.{order_bytes, edges_of_optional}
use Rattle.order_fields.specs.NamedDrawing.{drawing_fields}
use Rattle.order_means.specs.UpdateBodies.{orders_size, orders_packet, tile_packet, synchronize_packet}
use Rattle.order_means.specs.CacheOrders.{cache_bitmap_bytes, cache_glyph_bytes, cache_brush_bytes, frame_marker_bytes}
use Rattle.frame_rules.specs.Frame.{FrameOf}
use Rattle.frame_rules.specs.FrameOrders.{SentOrder, Uses, orders_before_tiles}
use Rattle.frame_rules.specs.FrameOrders.SentOrder.{Drawn, CacheImage, CacheGlyph, CacheBrush, FrameMarker}

-- ---- orders

-- the bytes of one order against the registers, at the viewer's depth; images go packed where the viewer confirmed bitmaps without a header and the packer
-- isn't raw
abbrev pub bytes_of_order : Confirmed → Registers → SentOrder → List ℕ
bytes_of_order c regs (Drawn touched d bounds) = order_bytes regs c.zero_bounds (drawing_fields (depth_of c) touched d) (edges_of_optional bounds)
bytes_of_order c regs (CacheImage cache index image) = cache_bitmap_bytes (depth_of c) c.no_header cache index image
bytes_of_order c regs (CacheGlyph cache index glyph) = cache_glyph_bytes cache index glyph
bytes_of_order c regs (CacheBrush entry brush) = cache_brush_bytes (depth_of c) entry brush
bytes_of_order c regs (FrameMarker ends) = frame_marker_bytes ends

-- the registers after an order, which cache orders and markers leave
abbrev pub registers_after_order : Confirmed → Registers → SentOrder → Registers
registers_after_order c regs (Drawn touched d bounds) = registers_after regs (drawing_fields (depth_of c) touched d) (edges_of_optional bounds)
registers_after_order c regs (CacheImage cache index image) = regs
registers_after_order c regs (CacheGlyph cache index glyph) = regs
registers_after_order c regs (CacheBrush entry brush) = regs
registers_after_order c regs (FrameMarker ends) = regs

-- the bytes of each order
abbrev pub bytes_of_orders : Confirmed → Registers → List SentOrder → List (List ℕ)
bytes_of_orders c regs [] = []
bytes_of_orders c regs (o ∷ os) = bytes_of_order c regs o ∷ bytes_of_orders c (registers_after_order c regs o) os

abbrev pub registers_after_orders : Confirmed → Registers → List SentOrder → Registers
registers_after_orders c regs [] = regs
registers_after_orders c regs (o ∷ os) = registers_after_orders c (registers_after_order c regs o) os

-- ---- gathering

-- the most bytes that are counted of one packet: of its MCS user data, or of a whole packet of the fast path (profile)
abbrev pub most_counted : ℕ
most_counted = 16383

-- whether an order joins an update that has so many bytes of orders
abbrev pub joins_update : Bool → ℕ → ℕ → Bool
joins_update fast used more = nat_le (orders_size fast (used + more)) most_counted

-- an order at the front of the first update
abbrev pub onto_update : List ℕ → List (List (List ℕ)) → List (List (List ℕ))
onto_update order [] = (order ∷ []) ∷ []
onto_update order (update ∷ updates) = (order ∷ update) ∷ updates

-- what else goes into an open update with so many bytes of orders, and the updates after it: an order joins the open one where it fits, and else begins a new
-- one
abbrev pub gathered_after : Bool → ℕ → List (List ℕ) → List (List (List ℕ))
gathered_after fast used [] = [] ∷ []
gathered_after fast used (o ∷ os) =
    if joins_update fast used (length o) then onto_update o (gathered_after fast (used + length o) os)
    else [] ∷ onto_update o (gathered_after fast (length o) os)

-- orders gathered into updates, for packets of the fast path or others
abbrev pub gathered : Bool → List (List ℕ) → List (List (List ℕ))
gathered fast [] = []
gathered fast (o ∷ os) = onto_update o (gathered_after fast (length o) os)

abbrev pub joined_bytes : List (List ℕ) → List ℕ
joined_bytes [] = []
joined_bytes (bytes ∷ more) = bytes ++ joined_bytes more

-- the packet of an Orders update with these orders
abbrev pub update_of : Bool → List (List ℕ) → List ℕ
update_of fast orders = orders_packet fast (length orders) (joined_bytes orders)

abbrev pub updates_of : Bool → List (List ℕ) → List ℕ
updates_of fast orders = flat_map (update_of fast) (gathered fast orders)

-- ---- the frame

-- the packet of a tile's bitmap update
abbrev pub tile_bytes : Size → Confirmed → List ℕ → ℕ → List ℕ
tile_bytes size c picture tile = tile_packet (depth_of c) (takes_fast c) c.no_header (tile_on size tile) (cut_out size picture 0 (tile_on size tile))

-- the mark's own update, with a frame marker or without
abbrev pub mark_bytes : Bool → Bool → List ℕ
mark_bytes fast true = update_of fast (frame_marker_bytes true ∷ [])
mark_bytes fast false = synchronize_packet fast

-- the whole packets of a frame
abbrev pub frame_bytes : Size → Confirmed → Registers → Uses → FrameOf → List ℕ
frame_bytes size c regs uses f =
    updates_of (takes_fast c) (bytes_of_orders c regs (orders_before_tiles size c uses f))
    ++ (flat_map (tile_bytes size c f.picture) f.tiles ++ mark_bytes (takes_fast c) c.marker)
