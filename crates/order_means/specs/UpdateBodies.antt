-- The bytes of updates ([MS-RDPBCGR] 2.2.9.1.1.3), and their packets of either kind: Send Data Indications, or those of the fast path (2.2.9.1.2).
use Rattle.std.specs.Prelude.{ℕ, ◌+◌, ◌-◌, Bool, true, false, List, [], ◌∷◌, ◌++◌, length}
use Rattle.byteorder.specs.Endian.{little_bytes}
use Rattle.px_core.specs.declared.depth.Depth.{Depth}
use Rattle.px_core.specs.declared.rectangle.Rect.{Rect}
use Rattle.px_core.specs.Depth.{bits_in, shown_colors}
use Rattle.px_core.specs.Picture.{nat_of, turned_over}
pub use Rattle.share_pdu.specs.Packet.{update_packet}
pub use Rattle.fast_path.specs.Written.{fast_packet}
pub use Rattle.run_lengths.specs.WirePixels.{PixelData, pixel_data, data_of}

-- what stands before so many orders: updateType, pad, numberOrders, pad
abbrev pub orders_head : ℕ → List ℕ
orders_head count = 0 ∷ 0 ∷ 0 ∷ 0 ∷ (little_bytes 2 count ++ 0 ∷ 0 ∷ [])

-- an Orders update
abbrev pub orders_body : ℕ → List ℕ → List ℕ
orders_body count orders = orders_head count ++ orders

-- a Synchronize update
abbrev pub synchronize_body : List ℕ
synchronize_body = 3 ∷ 0 ∷ 0 ∷ 0 ∷ []

-- bits that are set in the flags of packed pixels: BITMAP_COMPRESSION and NO_BITMAP_COMPRESSION_HDR
abbrev pub tile_flags : Bool → ℕ
tile_flags true = 0x0401
tile_flags false = 0

-- destLeft, destTop, destRight, destBottom (inclusive), width, height, bitsPerPixel, flags, bitmapLength, the pixels
abbrev pub tile_data_bytes : Depth → ℕ → ℕ → ℕ → ℕ → PixelData → List ℕ
tile_data_bytes depth x y w h data_ =
    little_bytes 2 x ++ (little_bytes 2 y
    ++ (little_bytes 2 (x + w - 1) ++ (little_bytes 2 (y + h - 1) ++ (little_bytes 2 w ++ (little_bytes 2 h ++ (little_bytes 2 (bits_in depth)
    ++ (little_bytes 2 (tile_flags data_.is_packed) ++ (little_bytes 2 (length data_.bytes) ++ data_.bytes))))))))

-- a Bitmap update of one rectangle, whose pixels are given in the session's colours, row by row from the top
abbrev pub tile_body : Depth → Bool → Rect → List ℕ → List ℕ
tile_body depth no_header r pixels =
    1 ∷ 0 ∷ 1 ∷ 0 ∷ tile_data_bytes depth (nat_of r.x) (nat_of r.y) r.w r.h (data_of depth no_header r.w (turned_over r.w r.h (shown_colors depth pixels)))

-- ---- packets, of the fast path or not

-- how many bytes an Orders update counts for whose orders have so many: its user data, or its whole packet of the fast path with two length bytes
abbrev pub orders_size : Bool → ℕ → ℕ
orders_size false count = 26 + count
orders_size true count = 8 + count

-- the data of orders: numberOrders, the orders
abbrev pub orders_data : ℕ → List ℕ → List ℕ
orders_data count orders = little_bytes 2 count ++ orders

-- the packet of an Orders update
abbrev pub orders_packet : Bool → ℕ → List ℕ → List ℕ
orders_packet false count orders = update_packet (orders_body count orders)
orders_packet true count orders = fast_packet 0 (orders_data count orders)

-- the packet of a Synchronize update
abbrev pub synchronize_packet : Bool → List ℕ
synchronize_packet false = update_packet synchronize_body
synchronize_packet true = fast_packet 3 []

-- the packet of a Bitmap update of one rectangle, whose data are the whole body
abbrev pub tile_packet : Depth → Bool → Bool → Rect → List ℕ → List ℕ
tile_packet depth false no_header r pixels = update_packet (tile_body depth no_header r pixels)
tile_packet depth true no_header r pixels = fast_packet 1 (tile_body depth no_header r pixels)
