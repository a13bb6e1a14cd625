-- What a client keeps of cache orders.
use Rattle.std.specs.Prelude.{ℕ, ◌==◌, nat_lt, Bool, ◌&&◌, List, Result, Ok}
use Rattle.px_core.specs.declared.depth.Depth.{Depth}
use Rattle.draw_ops.specs.Content.{GlyphOf}
use Rattle.draw_ops.specs.Slots.{filled_slot}
use Rattle.caps_sets.specs.declared.confirmed.Confirmed.{Confirmed}
use Rattle.order_fields.specs.Secondary.{BitmapOrder, GlyphOrder}
use Rattle.order_means.specs.ClientState.{ClientState, Fault, needs, brush_entries, is_bitmap, bitmap_flags}
use Rattle.order_means.specs.ClientState.Fault.{Oversized}
use Rattle.client_caches.specs.declared.cached_bitmap.CachedBitmap.{CachedBitmap}

-- a bitmap with its bytes, as an order
abbrev pub bitmap_order : CachedBitmap → List ℕ → BitmapOrder
bitmap_order b bytes = record { cache = b.cache; index = b.index; w = b.w; h = b.h; depth = b.depth; flags = b.flags; packed = b.packed; bytes = bytes }

-- its sides, its bits per pixel, its cache and its flags are those that a client of this depth takes
abbrev pub is_cached_bitmap : Depth → CachedBitmap → Bool
is_cached_bitmap depth b = is_bitmap depth b.w b.h b.depth && (nat_lt b.cache 3 && (b.flags == bitmap_flags b.packed))

-- a glyph, as an order
abbrev pub glyph_order : ℕ → ℕ → GlyphOf → GlyphOrder
glyph_order cache index g = record { cache = cache; index = index; x = g.x; y = g.y; cx = g.cx; cy = g.cy; bits = g.bits }

-- a brush whose rows stand from the top is kept as it is
abbrev pub client_after_upright_brush : Confirmed → ClientState → ℕ → List ℕ → Result ClientState Fault
client_after_upright_brush confirmed c entry pixels = needs (nat_lt entry (brush_entries confirmed.brush)) (Oversized 13 entry) (Ok (record c { brushes = filled_slot entry pixels c.brushes }))
