-- The bytes of a frame are bytes: lengths and counts are written in as many bytes as they have, so only orders' contents can be greater.
use Rattle.std.proofs.Common.{ℕ, ◌+◌, ◌-◌, List, [], ◌∷◌, ◌++◌, length, refl, arith, Bool, true, false}
use Rattle.std.specs.Prelude.{◌≡◌, ◌<◌, ⊤, nat_lt, flat_map, if◌then◌else◌}
use Rattle.std.proofs.lemmas.Bool.Decides.{nat_tests}
use Rattle.px_core.specs.declared.depth.Depth.{Depth}
use Rattle.px_core.specs.declared.surface.Size.{Size}
use Rattle.px_core.specs.declared.rectangle.Rect.{Rect}
use Rattle.px_core.specs.Depth.{bits_in, shown_colors}
use Rattle.px_core.specs.Picture.{nat_of, turned_over}
use Rattle.px_core.specs.Rectangle.{cut_out}
use Rattle.px_core.specs.Tiles.{tile_on}
use Rattle.caps_sets.specs.declared.confirmed.Confirmed.{Confirmed}
use Rattle.caps_sets.specs.Confirmed.{depth_of, takes_fast}
use Rattle.byteorder.specs.Endian.{little_bytes, big_bytes}
use Rattle.wire_num.proofs.Numbers.{little_are_bytes, big_are_bytes}
use Rattle.wire_num.specs.Length.{per_len_of}
use Rattle.tpkt_x224.specs.Tpkt.{packet_of}
use Rattle.tpkt_x224.specs.Data.{data_header}
use Rattle.mcs_dom.specs.SendData.{indication_start}
use Rattle.share_pdu.specs.Share.{data_headers, share_bytes}
use Rattle.share_pdu.specs.Packet.{share_packet, update_packet}
use Rattle.fast_path.specs.Written.{packet_length, fast_headers, fast_packet}
use Rattle.order_fields.specs.OrderTable.{Registers}
use Rattle.run_lengths.specs.WirePixels.{PixelData, data_of}
use Rattle.order_means.specs.UpdateBodies.{orders_head, orders_body, orders_data, synchronize_body, synchronize_packet, tile_flags, tile_data_bytes, tile_body, tile_packet}
use Rattle.order_means.specs.CacheOrders.{frame_marker_bytes}
use Rattle.frame_rules.specs.Frame.{FrameOf}
use Rattle.frame_rules.specs.FrameOrders.{SentOrder, Uses, orders_before_tiles}
use Rattle.frame_rules.specs.FrameOrders.SentOrder.{FrameMarker}
use Rattle.frame_rules.specs.FrameBytes.{bytes_of_orders, registers_after_order, joins_update, onto_update, gathered_after, gathered, joined_bytes, update_of}
use Rattle.frame_rules.specs.FrameBytes.{updates_of, tile_bytes, mark_bytes, frame_bytes}
use Rattle.headline.specs.Sent.{AreBytes}
use Rattle.headline.specs.OrderBytes.{HoldBytes}
use Rattle.headline.proofs.OrderBytes.{bytes_nil, bytes_cons, bytes_append, bytes_after, flat_are_bytes, data_are_bytes, order_are_bytes}

-- ---- packets

share_are_bytes : (kind : ℕ) (body : List ℕ) → kind < 256 → AreBytes body → AreBytes (share_bytes kind body)
share_are_bytes kind body small h =
    let n = length body in
    let count = little_bytes 2 (4 + n) in
    let rest = count ++ kind ∷ 0 ∷ 0 ∷ 0 ∷ [] in
    bytes_append (data_headers kind n) body
    (bytes_append (little_bytes 2 (18 + n)) (0x17 ∷ 0 ∷ 0xEA ∷ 3 ∷ 0xEA ∷ 3 ∷ 1 ∷ 0 ∷ 0 ∷ 1 ∷ rest) (little_are_bytes 2 (18 + n))
    (bytes_after (0x17 ∷ 0 ∷ 0xEA ∷ 3 ∷ 0xEA ∷ 3 ∷ 1 ∷ 0 ∷ 0 ∷ 1 ∷ []) rest refl
    (bytes_append count (kind ∷ 0 ∷ 0 ∷ 0 ∷ []) (little_are_bytes 2 (4 + n)) (bytes_cons kind (0 ∷ 0 ∷ 0 ∷ []) small (bytes_after (0 ∷ 0 ∷ 0 ∷ []) [] refl bytes_nil)))))
    h

per_length_are_bytes : (n : ℕ) → AreBytes (per_len_of n)
per_length_are_bytes n = by (nat_lt n 128) refl
  where
    by : (b : Bool) → nat_lt n 128 ≡ b → AreBytes (if b then n ∷ [] else big_bytes 2 (32768 + n))
    by true e = let short : n < 128 = grind (arith, nat_tests, e) in bytes_cons n [] (omega (arith, short)) bytes_nil
    by false e = big_are_bytes 2 (32768 + n)

packet_are_bytes : (carried : List ℕ) → AreBytes carried → AreBytes (packet_of carried)
packet_are_bytes carried h =
    let n = big_bytes 2 (4 + length carried) in
    bytes_append (3 ∷ 0 ∷ n) carried (bytes_after (3 ∷ 0 ∷ []) n refl (big_are_bytes 2 (4 + length carried))) h

pub share_packet_are_bytes : (kind : ℕ) (body : List ℕ) → kind < 256 → AreBytes body → AreBytes (share_packet kind body)
share_packet_are_bytes kind body small h =
    let user = share_bytes kind body in
    let counted = per_len_of (length user) ++ user in
    packet_are_bytes (data_header ++ (indication_start ++ counted))
    (bytes_after data_header (indication_start ++ counted) refl
    (bytes_after indication_start counted refl (bytes_append (per_len_of (length user)) user (per_length_are_bytes (length user)) (share_are_bytes kind body small h))))

update_are_bytes : (body : List ℕ) → AreBytes body → AreBytes (update_packet body)
update_are_bytes body h = share_packet_are_bytes 2 body (omega arith) h

fast_length_are_bytes : (n : ℕ) → AreBytes (packet_length n)
fast_length_are_bytes n = by (nat_lt (5 + n) 128) refl
  where
    by : (b : Bool) → nat_lt (5 + n) 128 ≡ b → AreBytes (if b then (5 + n) ∷ [] else big_bytes 2 (32768 + (6 + n)))
    by true e = let short : 5 + n < 128 = grind (arith, nat_tests, e) in bytes_cons (5 + n) [] (omega (arith, short)) bytes_nil
    by false e = big_are_bytes 2 (32768 + (6 + n))

fast_are_bytes : (code : ℕ) (bytes : List ℕ) → code < 256 → AreBytes bytes → AreBytes (fast_packet code bytes)
unfolding fast_headers
fast_are_bytes code bytes small h =
    let n = length bytes in
    let counted = code ∷ little_bytes 2 n in
    bytes_append (0 ∷ (packet_length n ++ counted)) bytes
    (bytes_cons 0 (packet_length n ++ counted) (omega arith)
    (bytes_append (packet_length n) counted (fast_length_are_bytes n) (bytes_cons code (little_bytes 2 n) small (little_are_bytes 2 n))))
    h

-- ---- updates of orders

orders_are_bytes : (count : ℕ) (orders : List ℕ) → AreBytes orders → AreBytes (orders_body count orders)
orders_are_bytes count orders h =
    let n = little_bytes 2 count in
    bytes_append (orders_head count) orders
    (bytes_after (0 ∷ 0 ∷ 0 ∷ 0 ∷ []) (n ++ 0 ∷ 0 ∷ []) refl
    (bytes_append n (0 ∷ 0 ∷ []) (little_are_bytes 2 count) (bytes_after (0 ∷ 0 ∷ []) [] refl bytes_nil)))
    h

-- orders that are bytes, and updates of such orders
abbrev AreOrders : List (List ℕ) → Type 0
AreOrders [] = ⊤
AreOrders (o ∷ os) = AreBytes o × AreOrders os

abbrev AreUpdates : List (List (List ℕ)) → Type 0
AreUpdates [] = ⊤
AreUpdates (update ∷ updates) = AreOrders update × AreUpdates updates

onto_are : (o : List ℕ) (updates : List (List (List ℕ))) → AreBytes o → AreUpdates updates → AreUpdates (onto_update o updates)
onto_are o [] h rest = ((h, tt), tt)
onto_are o (update ∷ updates) h rest = ((h, rest.0), rest.1)

either_are : (b : Bool) (xs ys : List (List (List ℕ))) → AreUpdates xs → AreUpdates ys → AreUpdates (if b then xs else ys)
either_are true xs ys h k = h
either_are false xs ys h k = k

gathered_after_are : (fast : Bool) (os : List (List ℕ)) (used : ℕ) → AreOrders os → AreUpdates (gathered_after fast used os)
gathered_after_are fast [] used h = (tt, tt)
gathered_after_are fast (o ∷ os) used h =
    let joins = gathered_after fast (used + length o) os in
    let anew = gathered_after fast (length o) os in
    either_are (joins_update fast used (length o)) (onto_update o joins) ([] ∷ onto_update o anew)
    (onto_are o joins h.0 (gathered_after_are fast os (used + length o) h.1)) (tt, onto_are o anew h.0 (gathered_after_are fast os (length o) h.1))

gathered_are : (fast : Bool) (os : List (List ℕ)) → AreOrders os → AreUpdates (gathered fast os)
gathered_are fast [] h = tt
gathered_are fast (o ∷ os) h = onto_are o (gathered_after fast (length o) os) h.0 (gathered_after_are fast os (length o) h.1)

joined_are_bytes : (os : List (List ℕ)) → AreOrders os → AreBytes (joined_bytes os)
joined_are_bytes [] h = bytes_nil
joined_are_bytes (o ∷ os) h = bytes_append o (joined_bytes os) h.0 (joined_are_bytes os h.1)

update_of_are_bytes : (fast : Bool) (orders : List (List ℕ)) → AreOrders orders → AreBytes (update_of fast orders)
update_of_are_bytes false orders h =
    update_are_bytes (orders_body (length orders) (joined_bytes orders)) (orders_are_bytes (length orders) (joined_bytes orders) (joined_are_bytes orders h))
update_of_are_bytes true orders h =
    fast_are_bytes 0 (orders_data (length orders) (joined_bytes orders)) (omega arith)
    (bytes_append (little_bytes 2 (length orders)) (joined_bytes orders) (little_are_bytes 2 (length orders)) (joined_are_bytes orders h))

updates_are_bytes : (fast : Bool) (updates : List (List (List ℕ))) → AreUpdates updates → AreBytes (flat_map (update_of fast) updates)
updates_are_bytes fast [] h = bytes_nil
updates_are_bytes fast (update ∷ updates) h =
    bytes_append (update_of fast update) (flat_map (update_of fast) updates) (update_of_are_bytes fast update h.0) (updates_are_bytes fast updates h.1)

orders_of_frame : (c : Confirmed) (regs : Registers) (os : List SentOrder) → HoldBytes os → AreOrders (bytes_of_orders c regs os)
orders_of_frame c regs [] h = tt
orders_of_frame c regs (o ∷ os) h = (order_are_bytes c regs o h.0, orders_of_frame c (registers_after_order c regs o) os h.1)

-- ---- tiles

two_before : (x : ℕ) (bs : List ℕ) → AreBytes bs → AreBytes (little_bytes 2 x ++ bs)
two_before x bs h = bytes_append (little_bytes 2 x) bs (little_are_bytes 2 x) h

tile_data_are_bytes : (depth : Depth) (x y w h : ℕ) (p : PixelData) → AreBytes p.bytes → AreBytes (tile_data_bytes depth x y w h p)
tile_data_are_bytes depth x y w h p are =
    let pixels = little_bytes 2 (length p.bytes) ++ p.bytes in
    let flags = little_bytes 2 (tile_flags p.is_packed) ++ pixels in
    let bits = little_bytes 2 (bits_in depth) ++ flags in
    let high = little_bytes 2 h ++ bits in
    let wide = little_bytes 2 w ++ high in
    let bottom = little_bytes 2 (y + h - 1) ++ wide in
    let right = little_bytes 2 (x + w - 1) ++ bottom in
    let top = little_bytes 2 y ++ right in
    two_before x top (two_before y right (two_before (x + w - 1) bottom (two_before (y + h - 1) wide (two_before w high (two_before h bits
    (two_before (bits_in depth) flags (two_before (tile_flags p.is_packed) pixels (two_before (length p.bytes) p.bytes are))))))))

tile_body_are_bytes : (depth : Depth) (no_header : Bool) (r : Rect) (pixels : List ℕ) → AreBytes (tile_body depth no_header r pixels)
tile_body_are_bytes depth no_header r pixels =
    let cut = turned_over r.w r.h (shown_colors depth pixels) in
    let p = data_of depth no_header r.w cut in
    let rest = tile_data_bytes depth (nat_of r.x) (nat_of r.y) r.w r.h p in
    bytes_after (1 ∷ 0 ∷ 1 ∷ 0 ∷ []) rest refl
    (tile_data_are_bytes depth (nat_of r.x) (nat_of r.y) r.w r.h p (data_are_bytes depth no_header r.w cut))

tile_are_bytes : (depth : Depth) (fast no_header : Bool) (r : Rect) (pixels : List ℕ) → AreBytes (tile_packet depth fast no_header r pixels)
tile_are_bytes depth false no_header r pixels = update_are_bytes (tile_body depth no_header r pixels) (tile_body_are_bytes depth no_header r pixels)
tile_are_bytes depth true no_header r pixels = fast_are_bytes 1 (tile_body depth no_header r pixels) (omega arith) (tile_body_are_bytes depth no_header r pixels)

-- ---- a frame

synchronize_are_bytes : (fast : Bool) → AreBytes (synchronize_packet fast)
synchronize_are_bytes false = update_are_bytes synchronize_body (bytes_after synchronize_body [] refl bytes_nil)
synchronize_are_bytes true = fast_are_bytes 3 [] (omega arith) bytes_nil

mark_are_bytes : (c : Confirmed) (regs : Registers) (fast b : Bool) → AreBytes (mark_bytes fast b)
mark_are_bytes c regs fast true = update_of_are_bytes fast (frame_marker_bytes true ∷ []) (order_are_bytes c regs (FrameMarker true) tt, tt)
mark_are_bytes c regs fast false = synchronize_are_bytes fast

pub frame_are_bytes : (size : Size) (c : Confirmed) (regs : Registers) (uses : Uses) (f : FrameOf) → HoldBytes (orders_before_tiles size c uses f)
    → AreBytes (frame_bytes size c regs uses f)
frame_are_bytes size c regs uses f h =
    let fast = takes_fast c in
    let os = orders_before_tiles size c uses f in
    let orders = bytes_of_orders c regs os in
    let tiles = flat_map (tile_bytes size c f.picture) f.tiles in
    bytes_append (updates_of fast orders) (tiles ++ mark_bytes fast c.marker)
    (updates_are_bytes fast (gathered fast orders) (gathered_are fast orders (orders_of_frame c regs os h)))
    (bytes_append tiles (mark_bytes fast c.marker)
    (flat_are_bytes (tile_bytes size c f.picture) f.tiles
    (λ tile. tile_are_bytes (depth_of c) fast c.no_header (tile_on size tile) (cut_out size f.picture 0 (tile_on size tile))))
    (mark_are_bytes c regs fast c.marker))
