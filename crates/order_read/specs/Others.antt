-- Parts of secondary orders.
use Rattle.std.specs.Prelude.{ℕ, List, [], ◌∷◌, map}
use Rattle.px_core.specs.declared.depth.Depth.{Depth}
use Rattle.px_core.specs.Depth.{brush_format, brush_bytes}
use Rattle.wire_num.specs.Field.{Read, then_read, map_read, wanted}
use Rattle.wire_num.specs.Number.{little_at, little_signed_at}
use Rattle.order_fields.specs.Secondary.{Cached, glyph_at, secondary_kind, secondary_body}
use Rattle.order_fields.specs.OrderStream.{Order}
use Rattle.order_fields.specs.OrderStream.Order.{Other}
use Rattle.order_read.specs.declared.secondary.BitmapHead.{BitmapHead}
use Rattle.order_read.specs.declared.secondary.GlyphHead.{GlyphHead}

-- what cache orders and markers say, as orders
abbrev pub others : (List ℕ → Read (List Cached)) → List ℕ → Read (List Order)
others read bs = map_read (map Other) (read bs)

-- a cached bitmap up to its bytes: cacheId 1, pad 1, width 1, height 1, bits per pixel 1, length 2, cacheIndex 2
abbrev pub bitmap_head_at : List ℕ → Read BitmapHead
bitmap_head_at bs =
    then_read (little_at 1 bs) (λ cache a. then_read (little_at 1 a) (λ pad b. then_read (little_at 1 b) (λ w c. then_read (little_at 1 c) (λ h d.
    then_read (little_at 1 d) (λ depth e. then_read (little_at 2 e) (λ count f.
    map_read (λ index. record { cache = cache; w = w; h = h; depth = depth; count = count; index = index }) (little_at 2 f)))))))

-- a glyph up to its bits: cacheIndex 2, x 2, y 2, cx 2, cy 2
abbrev pub glyph_head_at : List ℕ → Read GlyphHead
glyph_head_at bs =
    then_read (little_at 2 bs) (λ index a. then_read (little_signed_at 2 a) (λ x b. then_read (little_signed_at 2 b) (λ y c.
    then_read (little_at 2 c) (λ cx d. map_read (λ cy. record { index = index; x = x; y = y; cx = cx; cy = cy }) (little_at 2 d)))))

-- one glyph
abbrev pub one_glyph_at : ℕ → List ℕ → Read (List Cached)
one_glyph_at cache bs = map_read (λ o. o ∷ []) (glyph_at cache bs)

-- a cached brush up to its pixels: entry 1, format 05, sides 08 08, style 1, length C0; at 16 bits format 04 and length 80
abbrev pub brush_head_at : Depth → List ℕ → Read ℕ
brush_head_at depth bs =
    then_read (little_at 1 bs) (λ entry a. then_read (wanted (brush_format depth ∷ []) a) (λ format b. then_read (wanted (8 ∷ 8 ∷ []) b) (λ sides c. then_read (little_at 1 c) (λ style d.
    map_read (λ _. entry) (wanted (brush_bytes depth ∷ []) d)))))

-- what stands within a total: extraFlags 2, type 1, body
abbrev pub inside_at : Depth → List ℕ → Read (List Cached)
inside_at depth inside = then_read (little_at 2 inside) (λ flags c. then_read (little_at 1 c) (λ t d. secondary_body depth (secondary_kind t) flags c d))
