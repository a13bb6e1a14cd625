-- A viewer that reads a host's bytes: the pictures at its marks.
use Rattle.std.specs.Prelude.{◌≡◌, ℕ, zero, suc, ◌+◌, ◌-◌, ◌==◌, nat_le, Bool, true, false, ◌&&◌, not, pos, List, [], ◌∷◌, ◌++◌, length, Option, Some}
use Rattle.std.specs.Prelude.{None, Result, Ok, Err, if◌then◌else◌}
use Rattle.px_core.specs.declared.surface.Size.{Size}
use Rattle.px_core.specs.declared.rectangle.Rect.{Rect}
use Rattle.px_core.specs.Picture.{rows_of, turned_over}
use Rattle.px_core.specs.Rectangle.{boxed, is_inside}
use Rattle.rop3_core.specs.Palette.{client_colors}
use Rattle.caps_sets.specs.declared.confirmed.Confirmed.{Confirmed}
use Rattle.caps_sets.specs.Confirmed.{takes_fast}
use Rattle.draw_ops.specs.Formulas.{replaced, imaged, Painting, over_rect}
use Rattle.wire_num.specs.Field.{Read, bind, then_read, map_read, bytes_at, wanted, all_of}
use Rattle.wire_num.specs.Number.{little_at}
use Rattle.px_core.specs.declared.depth.Depth.{Depth}
use Rattle.order_fields.specs.OrderTable.{Registers}
use Rattle.order_fields.specs.Secondary.{Cached}
use Rattle.order_fields.specs.Secondary.Cached.{Bitmap, Glyph, Brush, Marker}
use Rattle.order_fields.specs.OrderStream.{Order, Stream, orders_in}
use Rattle.order_fields.specs.OrderStream.Order.{Primary, Other}
use Rattle.order_means.specs.ClientState.{ClientState, Fault, first_client, client_after_order, after_painting, needs, is_bitmap, wire_pixels}
use Rattle.order_means.specs.ClientState.Fault.{Broken}
use Rattle.order_means.specs.Updates.{Body, BodyForm, Cutting, cutting, Updates, updates_from, updates_in, refusal_in, rest_of}
use Rattle.order_means.specs.Updates.BodyForm.{Slow, FastOrders, FastBitmap, FastSynchronize}
use Rattle.order_means.specs.Updates.Stage.{Between}

-- ---- update bodies ([MS-RDPBCGR] 2.2.9.1.1.3), and data of the fast path (2.2.9.1.2.1)

-- a rectangle of a Bitmap update: destLeft, destTop, destRight, destBottom (inclusive), width, height, bitsPerPixel, flags, bytes
pub record Tile : Type 0 where
  pub left : ℕ
  pub top : ℕ
  pub right : ℕ
  pub bottom : ℕ
  pub w : ℕ
  pub h : ℕ
  pub depth : ℕ
  pub flags : ℕ
  pub bytes : List ℕ

abbrev pub tile_at : List ℕ → Read Tile
tile_at bs =
    then_read (little_at 2 bs) (λ l a. then_read (little_at 2 a) (λ t b. then_read (little_at 2 b) (λ r c. then_read (little_at 2 c) (λ m d.
    then_read (little_at 2 d) (λ w e. then_read (little_at 2 e)
    (λ h f. then_read (little_at 2 f) (λ depth g. then_read (little_at 2 g) (λ flags i. then_read (little_at 2 i) (λ n j.
    map_read (λ xs. record { left = l; top = t; right = r; bottom = m; w = w; h = h; depth = depth; flags = flags; bytes = xs }) (bytes_at n j))))))))))

abbrev pub tiles_at : ℕ → List ℕ → Read (List Tile)
tiles_at zero bs = Ok ([], bs)
tiles_at (suc n) bs = then_read (tile_at bs) (λ t rest. map_read (λ ts. t ∷ ts) (tiles_at n rest))

-- what an update body says; its orders are read with a client's registers
pub data Update : Type 0 where
  Orders : (count : ℕ) (bytes : List ℕ) → Update
  Tiles : List Tile → Update
  Synchronize : Update

pub data UpdateKind : Type 0 where
  OrdersKind : UpdateKind
  TilesKind : UpdateKind
  SynchronizeKind : UpdateKind
  NoKind : UpdateKind

abbrev pub update_kind : ℕ → UpdateKind
update_kind t = if t == 0 then OrdersKind else (if t == 1 then TilesKind else (if t == 3 then SynchronizeKind else NoKind))

-- pad 2, numberOrders 2, pad 2, the orders
abbrev pub orders_update_at : List ℕ → Read Update
orders_update_at bs = then_read (bytes_at 2 bs) (λ pad a. then_read (little_at 2 a) (λ n b. then_read (bytes_at 2 b) (λ more c. Ok (Orders n c, []))))

-- numberRectangles 2, the rectangles, which fill the body
abbrev pub tiles_update_at : List ℕ → Read Update
tiles_update_at bs = then_read (little_at 2 bs) (λ n a. all_of (map_read Tiles (tiles_at n a)))

-- a Synchronize update is one field
abbrev pub synchronize_at : List ℕ → Read Update
synchronize_at whole = all_of (map_read (λ field. Synchronize) (wanted (3 ∷ 0 ∷ 0 ∷ 0 ∷ []) whole))

abbrev pub update_by : UpdateKind → List ℕ → List ℕ → Read Update
update_by OrdersKind whole bs = orders_update_at bs
update_by TilesKind whole bs = tiles_update_at bs
update_by SynchronizeKind whole bs = synchronize_at whole
update_by NoKind whole bs = Err whole

-- updateType 2, and what stands behind it
abbrev pub update_at : List ℕ → Read Update
update_at bs = then_read (little_at 2 bs) (λ t a. update_by (update_kind t) bs a)

-- numberOrders 2, the orders
abbrev pub orders_in_fast : List ℕ → Read Update
orders_in_fast bs = then_read (little_at 2 bs) (λ n a. Ok (Orders n a, []))

-- the whole body of a Bitmap update, whose updateType is one field
abbrev pub tiles_in_fast : List ℕ → Read Update
tiles_in_fast bs = then_read (wanted (1 ∷ 0 ∷ []) bs) (λ type a. tiles_update_at a)

-- nothing
abbrev pub synchronize_in_fast : List ℕ → Read Update
synchronize_in_fast [] = Ok (Synchronize, [])
synchronize_in_fast (b ∷ bs) = Err (b ∷ bs)

abbrev pub update_by_form : BodyForm → List ℕ → Read Update
update_by_form Slow bs = update_at bs
update_by_form FastOrders bs = orders_in_fast bs
update_by_form FastBitmap bs = tiles_in_fast bs
update_by_form FastSynchronize bs = synchronize_in_fast bs

-- what a body says
abbrev pub update_in : Body → Read Update
update_in body = update_by_form body.form body.bytes

-- ---- the viewer

-- a client, the pictures at its marks so far, and how many primary orders and rectangles of Bitmap updates it obeyed
pub record View : Type 0 where
  pub client : ClientState
  pub pictures : List (List (Option ℕ))
  pub orders : ℕ
  pub tiles : ℕ

abbrev pub first_view : Confirmed → Size → View
first_view confirmed size = record { client = first_client confirmed size; pictures = []; orders = 0; tiles = 0 }

-- where and why a stream is refused
pub record Refusal : Type 0 where
  pub place : ℕ
  pub fault : Fault

abbrev pub refused : {A : Type 0} → ℕ → Result A Refusal
refused place = Err (record { place = place; fault = Broken })

-- a refusal by meaning stands at the first byte of its update body, or of its data; where these are none, behind their size
abbrev pub meant : {A : Type 0} → ℕ → Result A Fault → Result A Refusal
meant place (Ok v) = Ok v
meant place (Err fault) = Err (record { place = place; fault = fault })

-- the picture at a mark is the client's then
abbrev pub marked_if : Bool → View → View
marked_if true v = record v { pictures = v.pictures ++ v.client.picture ∷ [] }
marked_if false v = v

-- the mark of a viewer that confirmed frame markers
abbrev pub is_mark : Confirmed → Cached → Bool
is_mark confirmed (Bitmap b) = false
is_mark confirmed (Glyph g) = false
is_mark confirmed (Brush b) = false
is_mark confirmed (Marker ends) = confirmed.marker && ends

-- a primary order is counted
abbrev pub counted_order : Confirmed → Order → View → View
counted_order confirmed (Primary o bounds) v = record v { orders = v.orders + 1 }
counted_order confirmed (Other o) v = marked_if (is_mark confirmed o) v

abbrev pub view_with : View → ClientState → View
view_with v c = record v { client = c }

abbrev pub view_after_order : Confirmed → Size → View → Order → Result View Fault
view_after_order confirmed size v o = bind (client_after_order confirmed size v.client o) (λ c. Ok (counted_order confirmed o (view_with v c)))

-- orders are obeyed one by one
abbrev pub view_after_orders : Confirmed → Size → View → List Order → Result View Fault
view_after_orders confirmed size v [] = Ok v
view_after_orders confirmed size v (o ∷ os) = bind (view_after_order confirmed size v o) (λ w. view_after_orders confirmed size w os)

-- ---- rectangles of Bitmap updates

abbrev pub tile_rect : Tile → Rect
tile_rect t = boxed (pos t.left) (pos t.top) ((t.right + 1) - t.left) ((t.bottom + 1) - t.top)

-- 0 is raw, and BITMAP_COMPRESSION with NO_BITMAP_COMPRESSION_HDR packed
abbrev pub is_packed_tile : ℕ → Option Bool
is_packed_tile flags = if flags == 0 then Some false else (if flags == 0x0401 then Some true else None)

abbrev pub tile_pixels : Depth → Option Bool → Tile → Result (List ℕ) Fault
tile_pixels depth None t = Err Broken
tile_pixels depth (Some packed) t = wire_pixels depth packed t.w t.h t.bytes

-- a rectangle that has a pixel, is inside the surface, no wider than its bitmap, and as high
abbrev pub is_tile : Depth → Size → Tile → Bool
is_tile depth size t = is_bitmap depth t.w t.h t.depth
    && (is_inside size (tile_rect t) && ((nat_le 1 (tile_rect t).w && nat_le (tile_rect t).w t.w) && ((tile_rect t).h == t.h)))

-- the pixels of a bitmap, rows from the top, at a rectangle's upper left corner
abbrev pub showing : Tile → List ℕ → Painting (Option ℕ)
showing t pixels = over_rect (tile_rect t) (replaced (imaged client_colors (rows_of t.w t.h pixels) (tile_rect t) (pos 0) (pos 0)))

abbrev pub view_after_tile : Size → View → Tile → Result View Fault
view_after_tile size v t =
    needs (is_tile v.client.depth size t) Broken (bind (tile_pixels v.client.depth (is_packed_tile t.flags) t) (λ wire.
    Ok (record v { client = after_painting size None (showing t (turned_over t.w t.h wire)) v.client; tiles = v.tiles + 1 })))

abbrev pub view_after_tiles : Size → View → List Tile → Result View Fault
view_after_tiles size v [] = Ok v
view_after_tiles size v (t ∷ ts) = bind (view_after_tile size v t) (λ w. view_after_tiles size w ts)

-- ---- updates

abbrev pub with_registers : View → Registers → View
with_registers v regs = view_with v (record v.client { registers = regs })

abbrev pub obeyed : Confirmed → Size → Body → View → Stream → Option (List ℕ) → Result View Refusal
obeyed confirmed size body v s None = meant body.place (view_after_orders confirmed size (with_registers v s.after) s.orders)
obeyed confirmed size body v s (Some left) = refused (body.place + (length body.bytes - length left))

-- the orders of an update are read whole and then obeyed
abbrev pub view_after_stream : Confirmed → Size → Body → View → Stream → Result View Refusal
view_after_stream confirmed size body v s = obeyed confirmed size body v s s.refused

-- a Synchronize update is the mark of a viewer without frame markers
abbrev pub view_after_update : Confirmed → Size → Body → View → Update → Result View Refusal
view_after_update confirmed size body v (Orders count bytes) = view_after_stream confirmed size body v (orders_in v.client.depth bytes count v.client.registers)
view_after_update confirmed size body v (Tiles ts) = meant body.place (view_after_tiles size v ts)
view_after_update confirmed size body v Synchronize = Ok (marked_if (not confirmed.marker) v)

abbrev pub view_after_read : Confirmed → Size → Body → View → Read Update → Result View Refusal
view_after_read confirmed size body v (Ok u) = view_after_update confirmed size body v u.0
view_after_read confirmed size body v (Err left) = refused (body.place + (length body.bytes - length left))

abbrev pub view_after_body : Confirmed → Size → View → Body → Result View Refusal
view_after_body confirmed size v body = view_after_read confirmed size body v (update_in body)

abbrev pub view_after_bodies : Confirmed → Size → View → List Body → Result View Refusal
view_after_bodies confirmed size v [] = Ok v
view_after_bodies confirmed size v (b ∷ bs) = bind (view_after_body confirmed size v b) (λ w. view_after_bodies confirmed size w bs)

-- ---- a stream

-- a viewer, and how far the packet has come that it reads
pub record ClientReading : Type 0 where
  pub view : View
  pub cut : Cutting

abbrev pub reading : View → Cutting → ClientReading
reading view cut = record { view = view; cut = cut }

abbrev pub first_reading : Confirmed → Size → ClientReading
first_reading confirmed size = reading (first_view confirmed size) (cutting 0 Between)

abbrev pub unless_refused_at : Option ℕ → ClientReading → Result ClientReading Refusal
unless_refused_at None r = Ok r
unless_refused_at (Some place) r = refused place

-- the updates are obeyed in order, and the packet after them may be refused
abbrev pub reading_after : Confirmed → Size → View → Updates → Result ClientReading Refusal
reading_after confirmed size v u = bind (view_after_bodies confirmed size v u.bodies) (λ w. unless_refused_at (refusal_in u.next.stage) (reading w u.next))

-- a viewer that reads on
abbrev pub read_on : Confirmed → Size → ClientReading → List ℕ → Result ClientReading Refusal
read_on confirmed size r bytes = reading_after confirmed size r.view (updates_from (takes_fast confirmed) r.cut bytes)

-- what a viewer makes of a host's bytes
abbrev pub read_stream : Confirmed → Size → List ℕ → Result ClientReading Refusal
read_stream confirmed size bytes = read_on confirmed size (first_reading confirmed size) bytes

-- the pictures at the marks, or where and why the bytes are refused
abbrev pub pictures_at_marks : Confirmed → Size → List ℕ → Result (List (List (Option ℕ))) Refusal
pictures_at_marks confirmed size bytes = bind (read_stream confirmed size bytes) (λ r. Ok r.view.pictures)

-- the bytes after the last whole packet, which are left unread, of a viewer that takes the fast path or not
abbrev pub unread : Bool → List ℕ → List ℕ
unread fast bytes = rest_of (updates_in fast bytes).next.stage

-- a stream that ends between packets: no byte is left after the last whole one
abbrev pub EndsBetween : Bool → List ℕ → Type 0
EndsBetween fast bytes = (updates_in fast bytes).next.stage ≡ Between
