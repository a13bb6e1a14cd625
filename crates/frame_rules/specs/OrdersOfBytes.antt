-- A frame's bytes as a list of orders: what the protocol's own reading of updates and orders finds in them.
use Rattle.std.specs.Prelude.{◌≡◌, ℕ, ◌+◌, ◌-◌, ◌≤◌, true, List, [], ◌∷◌, ◌++◌, map, length, Option, Some, None, Ok, Err}
use Rattle.std.specs.Option.{option_map, option_and_then}
use Rattle.px_core.specs.declared.surface.Size.{Size}
use Rattle.px_core.specs.declared.rectangle.Rect.{Rect}
use Rattle.px_core.specs.Picture.{nat_of, turned_over}
use Rattle.px_core.specs.Rectangle.{is_session_size}
use Rattle.caps_sets.specs.declared.confirmed.Confirmed.{Confirmed}
use Rattle.caps_sets.specs.Confirmed.{depth_of, takes_fast}
use Rattle.wire_num.specs.Field.{Read}
use Rattle.px_core.specs.declared.depth.Depth.{Depth}
use Rattle.px_core.specs.Depth.{bits_in, shown_colors}
use Rattle.order_fields.specs.OrderTable.{Registers, AreRegisters}
use Rattle.order_fields.specs.OrderStream.{Order, Stream, orders_in}
use Rattle.order_means.specs.UpdateBodies.{tile_flags, PixelData, data_of}
use Rattle.order_means.specs.Updates.{Body, Stage, updates_in}
use Rattle.order_means.specs.Updates.Stage.{Between, One, Two, Three, Inside, Fast, FastLong, FastInside, Refused}
use Rattle.order_means.specs.FrameMarks.{Update, update_in}
use Rattle.order_means.specs.FrameMarks.{Tile as Rectangle}
use Rattle.order_means.specs.FrameMarks.Update.{Orders, Tiles, Synchronize as SynchronizeUpdate}
use Rattle.session_rules.specs.declared.entry.Entry.{Entry}
use Rattle.session_rules.specs.Journal.{Head, IsLegalJournal}
use Rattle.session_rules.specs.Steps.{TakeOf}
use Rattle.frame_rules.specs.Blocks.{AreApart}
use Rattle.frame_rules.specs.FrameOrders.{FrameOrder}
use Rattle.frame_rules.specs.FrameOrders.FrameOrder.{Ordered, Tile, Synchronize}
use Rattle.frame_rules.specs.FrameRead.{as_read}
use Rattle.frame_rules.specs.Encoder.{Encoder, take_bytes, take_orders, encoder_after}
use Rattle.frame_rules.specs.Describes.{HasAllCaches}

-- ---- what bytes say

-- an order of an Orders update, a rectangle of a Bitmap update, or a Synchronize update
pub data ReadOrder : Type 0 where
  OrderRead : Order → ReadOrder
  RectangleRead : Rectangle → ReadOrder
  SynchronizeRead : ReadOrder

-- orders one after the other, and the registers after them
pub record OrdersRead : Type 0 where
  pub orders : List ReadOrder
  pub after : Registers

abbrev pub orders_read : List ReadOrder → Registers → OrdersRead
orders_read orders after = record { orders = orders; after = after }

abbrev pub read_unless_refused : Stream → Option (List ℕ) → Option OrdersRead
read_unless_refused s None = Some (orders_read (map OrderRead s.orders) s.after)
read_unless_refused s (Some left) = None

-- what an update says, whose orders are read with registers, at a depth
abbrev pub read_in_stream : Stream → Option OrdersRead
read_in_stream s = read_unless_refused s s.refused

abbrev pub read_in_update : Depth → Registers → Update → Option OrdersRead
read_in_update depth regs (Orders count bytes) = read_in_stream (orders_in depth bytes count regs)
read_in_update depth regs (Tiles rectangles) = Some (orders_read (map RectangleRead rectangles) regs)
read_in_update depth regs SynchronizeUpdate = Some (orders_read (SynchronizeRead ∷ []) regs)

abbrev pub read_in_body : Depth → Registers → Read Update → Option OrdersRead
read_in_body depth regs (Ok u) = read_in_update depth regs u.0
read_in_body depth regs (Err left) = None

abbrev pub before_orders : OrdersRead → OrdersRead → OrdersRead
before_orders first others = orders_read (first.orders ++ others.orders) others.after

-- what updates say, each read with the registers that the ones before it leave
abbrev pub read_in_bodies : Depth → Registers → List Body → Option OrdersRead
read_in_bodies depth regs [] = Some (orders_read [] regs)
read_in_bodies depth regs (body ∷ bodies) =
    option_and_then (λ first. option_map (before_orders first) (read_in_bodies depth first.after bodies)) (read_in_body depth regs (update_in body))

abbrev pub read_if_whole : Stage → Option OrdersRead → Option OrdersRead
read_if_whole Between found = found
read_if_whole One found = None
read_if_whole (Two second) found = None
read_if_whole (Three second high) found = None
read_if_whole (Inside missing second high low front) found = None
read_if_whole Fast found = None
read_if_whole (FastLong high) found = None
read_if_whole (FastInside missing head front) found = None
read_if_whole (Refused place) found = None

-- what whole packets say, of the kinds that a viewer reads, whose orders are read with registers; nothing where one is refused, or isn't whole
abbrev pub orders_of_bytes : Confirmed → Registers → List ℕ → Option OrdersRead
orders_of_bytes c regs bytes = let u = updates_in (takes_fast c) bytes in read_if_whole u.next.stage (read_in_bodies (depth_of c) regs u.bodies)

-- ---- what a frame's orders are read as

-- a tile, with its pixels as they are on the wire
abbrev pub rectangle_of : Depth → Rect → PixelData → Rectangle
rectangle_of depth r pixels = record {
  left = nat_of r.x;
  top = nat_of r.y;
  right = nat_of r.x + r.w - 1;
  bottom = nat_of r.y + r.h - 1;
  w = r.w;
  h = r.h;
  depth = bits_in depth;
  flags = tile_flags pixels.is_packed;
  bytes = pixels.bytes;
}

abbrev pub frame_order_read : Confirmed → FrameOrder → ReadOrder
frame_order_read c (Ordered o) = OrderRead (as_read c o)
frame_order_read c (Tile r pixels) = RectangleRead
    (rectangle_of (depth_of c) r (data_of (depth_of c) c.no_header r.w (turned_over r.w r.h (shown_colors (depth_of c) pixels))))
frame_order_read c Synchronize = SynchronizeRead

-- ---- the promise

-- the bytes of a take's frame, read with the encoder's registers, are exactly the frame's orders, tiles and mark, and leave the registers of the encoder
-- after it
abbrev pub FrameReadsAsItsOrders : Size → Confirmed → List Entry → Encoder → TakeOf → Type 0
FrameReadsAsItsOrders size c j e t =
    orders_of_bytes c e.registers (take_bytes size c j e t) ≡ Some
    (orders_read (map (frame_order_read c) (take_orders size c j e t)) (encoder_after size c j e t).registers)

-- the same for every session size, every legal journal, every take, and every encoder with registers whose held blocks have positions of their own
abbrev pub FramesReadAsTheirOrders : Head → Confirmed → Type 0
FramesReadAsTheirOrders head c = (j : List Entry) (e : Encoder) (t : TakeOf) → is_session_size head.size.w head.size.h ≡ true → HasAllCaches c
    → IsLegalJournal head j → t.before ≤ t.number → t.number ≤ length j → AreRegisters e.registers → AreApart e.held
    → FrameReadsAsItsOrders head.size c j e t
