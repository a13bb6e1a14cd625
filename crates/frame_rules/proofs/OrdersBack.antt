-- The orders of a frame are read as they were sent.
use Rattle.std.proofs.Common.{◌≡◌, ℕ, ◌^◌, ◌<◌, List, [], ◌∷◌, ◌++◌, length, map, refl, ap, ◌∙◌, arith, Bool, true, false}
use Rattle.std.specs.Prelude.{Ok, None}
use Rattle.std.proofs.lemmas.List.{length-map}
use Rattle.caps_sets.specs.declared.confirmed.Confirmed.{Confirmed}
use Rattle.caps_sets.specs.Confirmed.{depth_of}
use Rattle.px_core.specs.declared.depth.Depth.{Depth}
use Rattle.px_core.specs.Depth.{bits_in, brush_format, brush_bytes, shown, shown_colors}
use Rattle.order_fields.specs.OrderTable.{Registers, AreRegisters}
use Rattle.order_fields.specs.OrderStream.{seen, seen_others, order_at, then_orders, with_orders, orders_in}
use Rattle.order_fields.specs.OrderDelta.{edges_of_optional}
use Rattle.order_fields.specs.Secondary.Cached.{Bitmap}
use Rattle.order_fields.proofs.OrderBack.{order_back}
use Rattle.order_fields.specs.NamedDrawing.{drawing_fields}
use Rattle.px_core.specs.Picture.{turned_over}
use Rattle.order_means.specs.UpdateBodies.{pixel_data}
use Rattle.order_means.specs.KeptContent.{kept_image, padded_glyph}
use Rattle.px_core.specs.Pixels.{pixels_bytes, are_pixels}
use Rattle.order_means.specs.CacheOrders.{cache_bitmap_body, cache_bitmap_data}
use Rattle.order_means.specs.ClientState.{bitmap_flags}
use Rattle.byteorder.specs.Endian.{little_bytes}
use Rattle.wire_num.specs.Number.{little_signed}
use Rattle.frame_rules.specs.FrameOrders.{SentOrder}
use Rattle.frame_rules.specs.FrameOrders.SentOrder.{Drawn, CacheImage, CacheGlyph, CacheBrush, FrameMarker}
use Rattle.frame_rules.specs.FrameBytes.{bytes_of_order, registers_after_order, bytes_of_orders, registers_after_orders, joined_bytes}
use Rattle.frame_rules.specs.FrameRead.{image_data, as_read, FitsOrder, FitOrders}
use Rattle.frame_rules.proofs.SecondaryBack.{secondary_back, bitmap_back, glyph_order_back, brush_is_short, brush_back}
use Rattle.px_core.proofs.Colors.{all_are_colors}
use Rattle.px_core.proofs.Pixels.{shown_are_pixels}
use Rattle.px_core.proofs.Turned.{turned_over-map}
use Rattle.frame_rules.proofs.RegistersKept.{registers_kept}

bitmap_order_back : (depth : Depth) (regs : Registers) (cache index w h : ℕ) (packed : Bool) (bytes rest : List ℕ) → index < 2 ^ 16 → length bytes < 2 ^ 15
    → order_at depth regs (cache_bitmap_data depth cache index w h (pixel_data packed bytes) ++ rest)
    ≡ Ok (seen_others regs (Bitmap (record { cache = cache; index = index; w = w; h = h; depth = bits_in depth; flags = bitmap_flags packed; packed = packed; bytes = bytes }) ∷ []), rest)
bitmap_order_back depth regs cache index w h true bytes rest hi few =
    secondary_back depth regs 0x0400 2 (cache_bitmap_body depth cache index w h bytes) _ rest (omega arith) (omega arith) (omega arith) (bitmap_back depth 0x0400 true cache index w h bytes hi (omega arith))
bitmap_order_back depth regs cache index w h false bytes rest hi few =
    secondary_back depth regs 0 0 (cache_bitmap_body depth cache index w h bytes) _ rest (omega arith) (omega arith) (omega arith) (bitmap_back depth 0 false cache index w h bytes hi (omega arith))

-- an order at the front of bytes
pub sent_back : (c : Confirmed) (regs : Registers) (o : SentOrder) (rest : List ℕ) → AreRegisters regs → FitsOrder c o
    → order_at (depth_of c) regs (bytes_of_order c regs o ++ rest) ≡ Ok (seen (as_read c o ∷ []) (registers_after_order c regs o), rest)
sent_back c regs (Drawn touched d bounds) rest are fits = order_back (depth_of c) regs c.zero_bounds (drawing_fields (depth_of c) touched d) (edges_of_optional bounds) rest are fits.0 fits.1
sent_back c regs (CacheImage cache index image) rest are fits =
    let k = kept_image (depth_of c) image in bitmap_order_back (depth_of c) regs cache index k.w k.h (image_data c image).is_packed (image_data c image).bytes rest fits.index_fits fits.few
sent_back c regs (CacheGlyph cache index glyph) rest are fits =
    let few = fits.few in
    secondary_back (depth_of c) regs 0 3 (cache ∷ 1 ∷ (little_bytes 2 index ++ (little_signed 2 glyph.x ++ (little_signed 2 glyph.y ++ (little_bytes 2 glyph.cx ++ (little_bytes 2 glyph.cy ++ (padded_glyph glyph).bits)))))) _ rest
    (omega arith) (omega arith) (omega arith)
    (glyph_order_back cache index glyph.x glyph.y glyph.cx glyph.cy (padded_glyph glyph).bits fits.index_fits fits.x fits.y fits.wide fits.high fits.bits)
sent_back c regs (CacheBrush entry brush) rest are fits =
    let depth = depth_of c in
    let ps = turned_over 8 8 brush in
    let cs = turned_over 8 8 (shown_colors depth brush) in
    let cut : cs ≡ shown_colors depth ps = turned_over-map (shown depth) 8 8 brush in
    let whole : length cs ≡ 64 = ap length cut ∙ length-map ps (shown depth) ∙ fits.whole in
    let pixels : are_pixels depth cs ≡ true = ap (are_pixels depth) cut ∙ shown_are_pixels depth ps (all_are_colors ps fits.colors) in
    let short = brush_is_short depth cs whole in
    secondary_back depth regs 0 7 (entry ∷ brush_format depth ∷ 8 ∷ 8 ∷ 0 ∷ brush_bytes depth ∷ pixels_bytes depth cs) _ rest (omega arith) (omega (arith, short.0)) (omega (arith, short.1)) (brush_back depth entry cs whole pixels)
sent_back c regs (FrameMarker true) rest are fits = refl
sent_back c regs (FrameMarker false) rest are fits = refl

pub sent_registers : (c : Confirmed) (regs : Registers) (o : SentOrder) → AreRegisters regs → FitsOrder c o → AreRegisters (registers_after_order c regs o)
sent_registers c regs (Drawn touched d bounds) are fits = registers_kept regs (drawing_fields (depth_of c) touched d) (edges_of_optional bounds) are fits.0 fits.1
sent_registers c regs (CacheImage cache index image) are fits = are
sent_registers c regs (CacheGlyph cache index glyph) are fits = are
sent_registers c regs (CacheBrush entry brush) are fits = are
sent_registers c regs (FrameMarker ends) are fits = are

pub sent_registers_all : (c : Confirmed) (regs : Registers) (os : List SentOrder) → AreRegisters regs → FitOrders c os → AreRegisters (registers_after_orders c regs os)
sent_registers_all c regs [] are fits = are
sent_registers_all c regs (o ∷ os) are fits = sent_registers_all c (registers_after_order c regs o) os (sent_registers c regs o are fits.0) fits.1

-- the orders of an update
pub orders_back : (c : Confirmed) (regs : Registers) (os : List SentOrder) → AreRegisters regs → FitOrders c os
    → orders_in (depth_of c) (joined_bytes (bytes_of_orders c regs os)) (length os) regs ≡ record { orders = map (as_read c) os; after = registers_after_orders c regs os; refused = None }
orders_back c regs [] are fits = refl
orders_back c regs (o ∷ os) are fits =
    ap (λ r. then_orders r regs (λ rest after. orders_in (depth_of c) rest (length os) after)) (sent_back c regs o (joined_bytes (bytes_of_orders c (registers_after_order c regs o) os)) are fits.0)
    ∙ ap (with_orders (as_read c o ∷ [])) (orders_back c (registers_after_order c regs o) os (sent_registers c regs o are fits.0) fits.1)
