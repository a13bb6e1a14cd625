-- What is written: orders against registers, cache orders, and the packets of updates.
use Rattle.std.proofs.Common.{◌≡◌, ℕ, List, [], ◌∷◌, ◌++◌, refl, Some, None, replicate, pos, true, false}
use Rattle.std.specs.Prelude.{Option}
use Rattle.px_core.specs.declared.rectangle.Rect.{Rect}
use Rattle.px_core.specs.Rectangle.{boxed}
use Rattle.px_core.specs.declared.depth.Depth.TheVariants.{Bits24}
use Rattle.order_fields.specs.OrderTable.{Registers, first_registers, registers_after}
use Rattle.order_fields.specs.OrderDelta.{order_bytes, edges_of, edges_of_optional}
use Rattle.order_fields.specs.NamedDrawing.{NamedDrawing, drawing_fields}
use Rattle.order_fields.specs.NamedDrawing.NamedDrawing.{Opaque, Scr, Mem, SaveBlock, RestoreBlock, Glyphs}
use Rattle.order_means.specs.UpdateBodies.{orders_packet, synchronize_packet, tile_packet}
use Rattle.order_means.specs.CacheOrders.{cache_bitmap_bytes, cache_glyph_bytes, frame_marker_bytes}
use Rattle.wire_examples.proofs.Captures.{one_take, marker_support}

abbrev rect : ℕ → ℕ → ℕ → ℕ → Rect
rect x y w h = boxed (pos x) (pos y) w h

-- the rectangle of a run, and of drawings that have none
abbrev run_rect : Rect
run_rect = rect 4 5 24 1

-- the bytes of a drawing for a viewer with zero bounds deltas, and the registers after it
abbrev written : Registers → Option Rect → NamedDrawing → List ℕ
written regs clip d = order_bytes regs true (drawing_fields Bits24 run_rect d) (edges_of_optional clip)

abbrev after : Registers → Option Rect → NamedDrawing → Registers
after regs clip d = registers_after regs (drawing_fields Bits24 run_rect d) (edges_of_optional clip)

abbrev fill : Rect → ℕ → NamedDrawing
fill r color = Opaque r color

abbrev first_fill : NamedDrawing
first_fill = fill (rect 0 0 64 48) 0

abbrev red_fill : NamedDrawing
red_fill = fill (rect 10 20 5 5) 0xFF0000

abbrev after_first : Registers
after_first = after first_registers None first_fill

abbrev after_red : Registers
after_red = after after_first None red_fill

pub first_frame : written first_registers None first_fill ≡ 0x19 ∷ 0x0A ∷ 0x0C ∷ 0x40 ∷ 0x30 ∷ []
first_frame = refl

pub a_fill : written after_first None red_fill ≡ 0x11 ∷ 0x1F ∷ 0x0A ∷ 0x14 ∷ 0xC5 ∷ 0xD5 ∷ 0xFF ∷ []
a_fill = refl

pub the_same_fill : written after_red None red_fill ≡ 0x41 ∷ []
the_same_fill = refl

-- wrong: a delta that doesn't fit is written modulo 256
pub a_fill_128_columns_on : written after_red None (fill (rect 138 21 5 5) 0xFF0000) ≡ 0x01 ∷ 0x03 ∷ 0x8A ∷ 0x00 ∷ 0x15 ∷ 0x00 ∷ []
a_fill_128_columns_on = refl

pub a_fill_of_one_pixel : written after_first None (fill (rect 0 0 1 1) 1) ≡ 0x11 ∷ 0x4C ∷ 0xC1 ∷ 0xD1 ∷ 0x01 ∷ []
a_fill_of_one_pixel = refl

pub a_copy_in_a_clip : written after_first (Some (rect 8 8 16 16)) (Scr (rect 0 1 64 47) 0xCC (pos 0) (pos 0)) ≡ 0x1D ∷ 0x02 ∷ 0x1E ∷ 0xF0 ∷ 0x08 ∷ 0x08 ∷ 0x17 ∷ 0x17 ∷ 0x01 ∷ 0x40 ∷ 0x2F ∷ 0xCC ∷ []
a_copy_in_a_clip = refl

pub the_same_copy : written (after after_first (Some (rect 8 8 16 16)) (Scr (rect 0 1 64 47) 0xCC (pos 0) (pos 0))) (Some (rect 8 8 16 16)) (Scr (rect 0 1 64 47) 0xCC (pos 0) (pos 0)) ≡ 0x65 ∷ []
the_same_copy = refl

pub the_same_copy_without_zero_bounds : order_bytes (after after_first (Some (rect 8 8 16 16)) (Scr (rect 0 1 64 47) 0xCC (pos 0) (pos 0))) false (drawing_fields Bits24 run_rect (Scr (rect 0 1 64 47) 0xCC (pos 0) (pos 0))) (Some (edges_of (rect 8 8 16 16))) ≡ 0x45 ∷ 0x00 ∷ []
the_same_copy_without_zero_bounds = refl

pub an_image_of_a_cache : written after_first None (Mem 2 0 (rect 0 0 64 64) 0xCC (pos 0) (pos 0)) ≡ 0x59 ∷ 0x0D ∷ 0x39 ∷ 0x02 ∷ 0x00 ∷ 0x40 ∷ 0x40 ∷ 0xCC ∷ []
an_image_of_a_cache = refl

-- wrong: one register set for all types
pub a_run_of_glyphs : written after_first None (Glyphs 0 (pos 4) (pos 5) 0xFFFFFF (0 ∷ 0 ∷ 1 ∷ 8 ∷ 2 ∷ 8 ∷ [])) ≡ 0x09 ∷ 0x1B ∷ 0xDA ∷ 0x03 ∷ 0x38 ∷ 0x03 ∷ 0x01 ∷ 0xFF ∷ 0xFF ∷ 0xFF ∷ 0x04 ∷ 0x00 ∷ 0x05 ∷ 0x00 ∷ 0x1C ∷ 0x00 ∷ 0x06 ∷ 0x00 ∷ 0x04 ∷ 0x00 ∷ 0x05 ∷ 0x00 ∷ 0x06 ∷ 0x00 ∷ 0x00 ∷ 0x01 ∷ 0x08 ∷ 0x02 ∷ 0x08 ∷ []
a_run_of_glyphs = refl

pub a_save : written after_first None (SaveBlock 0 (rect 0 0 10 10)) ≡ 0x19 ∷ 0x0B ∷ 0x18 ∷ 0x09 ∷ 0x09 ∷ []
a_save = refl

pub a_restore : written (after after_first None (SaveBlock 0 (rect 0 0 10 10))) None (RestoreBlock 0 (rect 0 0 10 10)) ≡ 0x01 ∷ 0x20 ∷ 0x01 ∷ []
a_restore = refl

pub a_cached_image : cache_bitmap_bytes Bits24 true 2 0 (record { w = 64; h = 64; pixels = replicate 4096 0xFF0000 }) ≡ 0x03 ∷ 0x0A ∷ 0x00 ∷ 0x00 ∷ 0x04 ∷ 0x02 ∷ 0x02 ∷ 0x00 ∷ 0x40 ∷ 0x40 ∷ 0x18 ∷ 0x08 ∷ 0x00 ∷ 0x00 ∷ 0x00 ∷ 0x60 ∷ 0x20 ∷ 0x00 ∷ 0x00 ∷ 0xFF ∷ 0xF0 ∷ 0xC0 ∷ 0x0F ∷ []
a_cached_image = refl

-- wrong: an image goes without the columns that are added to its width
pub a_raw_image_of_three_columns : cache_bitmap_bytes Bits24 false 0 1 (record { w = 3; h = 2; pixels = 0x010203 ∷ 0x040506 ∷ 0x070809 ∷ 0x0A0B0C ∷ 0x0D0E0F ∷ 0x101112 ∷ [] }) ≡ 0x03 ∷ 0x1A ∷ 0x00 ∷ 0x00 ∷ 0x00 ∷ 0x00 ∷ 0x00 ∷ 0x00 ∷ 0x04 ∷ 0x02 ∷ 0x18 ∷ 0x18 ∷ 0x00 ∷ 0x01 ∷ 0x00 ∷ 0x0C ∷ 0x0B ∷ 0x0A ∷ 0x0F ∷ 0x0E ∷ 0x0D ∷ 0x12 ∷ 0x11 ∷ 0x10 ∷ 0x12 ∷ 0x11 ∷ 0x10 ∷ 0x03 ∷ 0x02 ∷ 0x01 ∷ 0x06 ∷ 0x05 ∷ 0x04 ∷ 0x09 ∷ 0x08 ∷ 0x07 ∷ 0x09 ∷ 0x08 ∷ 0x07 ∷ []
a_raw_image_of_three_columns = refl

pub a_cached_glyph : cache_glyph_bytes 0 0 (record { x = pos 0; y = pos 0; cx = 8; cy = 1; bits = 0xFF ∷ [] }) ≡ 0x03 ∷ 0x09 ∷ 0x00 ∷ 0x00 ∷ 0x00 ∷ 0x03 ∷ 0x00 ∷ 0x01 ∷ 0x00 ∷ 0x00 ∷ 0x00 ∷ 0x00 ∷ 0x00 ∷ 0x00 ∷ 0x08 ∷ 0x00 ∷ 0x01 ∷ 0x00 ∷ 0xFF ∷ 0x00 ∷ 0x00 ∷ 0x00 ∷ []
a_cached_glyph = refl

pub a_start_marker : frame_marker_bytes false ≡ 0x36 ∷ 0x00 ∷ 0x00 ∷ 0x00 ∷ 0x00 ∷ []
a_start_marker = refl

pub an_end_marker : frame_marker_bytes true ≡ 0x36 ∷ 0x01 ∷ 0x00 ∷ 0x00 ∷ 0x00 ∷ []
an_end_marker = refl

pub a_mark : synchronize_packet false ≡ 0x03 ∷ 0x00 ∷ 0x00 ∷ 0x24 ∷ 0x02 ∷ 0xF0 ∷ 0x80 ∷ 0x68 ∷ 0x00 ∷ 0x01 ∷ 0x03 ∷ 0xEB ∷ 0x70 ∷ 0x16 ∷ 0x16 ∷ 0x00 ∷ 0x17 ∷ 0x00 ∷ 0xEA ∷ 0x03 ∷ 0xEA ∷ 0x03 ∷ 0x01 ∷ 0x00 ∷ 0x00 ∷ 0x01 ∷ 0x08 ∷ 0x00 ∷ 0x02 ∷ 0x00 ∷ 0x00 ∷ 0x00 ∷ 0x03 ∷ 0x00 ∷ 0x00 ∷ 0x00 ∷ []
a_mark = refl

pub a_packed_tile : tile_packet Bits24 false true (rect 0 0 64 64) (replicate 4096 0xFF0000) ≡ 0x03 ∷ 0x00 ∷ 0x00 ∷ 0x3E ∷ 0x02 ∷ 0xF0 ∷ 0x80 ∷ 0x68 ∷ 0x00 ∷ 0x01 ∷ 0x03 ∷ 0xEB ∷ 0x70 ∷ 0x30 ∷ 0x30 ∷ 0x00 ∷ 0x17 ∷ 0x00 ∷ 0xEA ∷ 0x03 ∷ 0xEA ∷ 0x03 ∷ 0x01 ∷ 0x00 ∷ 0x00 ∷ 0x01 ∷ 0x22 ∷ 0x00 ∷ 0x02 ∷ 0x00 ∷ 0x00 ∷ 0x00 ∷ 0x01 ∷ 0x00 ∷ 0x01 ∷ 0x00 ∷ 0x00 ∷ 0x00 ∷ 0x00 ∷ 0x00 ∷ 0x3F ∷ 0x00 ∷ 0x3F ∷ 0x00 ∷ 0x40 ∷ 0x00 ∷ 0x40 ∷ 0x00 ∷ 0x18 ∷ 0x00 ∷ 0x01 ∷ 0x04 ∷ 0x08 ∷ 0x00 ∷ 0x60 ∷ 0x20 ∷ 0x00 ∷ 0x00 ∷ 0xFF ∷ 0xF0 ∷ 0xC0 ∷ 0x0F ∷ []
a_packed_tile = refl

-- a first frame whole: its update and its mark
pub a_first_frame : orders_packet false 1 (written first_registers None first_fill) ++ synchronize_packet false ≡ one_take
a_first_frame = refl

-- the same between frame markers, of which the second has an update of its own
pub a_first_frame_with_markers : orders_packet false 2 (frame_marker_bytes false ++ written first_registers None first_fill) ++ orders_packet false 1 (frame_marker_bytes true) ≡ marker_support
a_first_frame_with_markers = refl
