-- What a client and its viewer make of orders as a reader tells them: bounds are rectangles, and a brush has its rows from the top.
use Rattle.std.specs.Prelude.{ℕ, ◌+◌, nat_lt, nat_le, ◌&&◌, List, [], ◌∷◌, Option, None, Result, Ok}
use Rattle.px_core.specs.declared.surface.Size.{Size}
use Rattle.px_core.specs.declared.rectangle.Rect.{Rect}
use Rattle.px_core.specs.Picture.{rows_of}
use Rattle.px_core.specs.Rectangle.{is_inside, in_clip}
use Rattle.rop3_core.specs.Palette.{client_colors}
use Rattle.wire_num.specs.Field.{bind}
use Rattle.draw_ops.specs.Formulas.{solid, brushed, shifted, imaged, image_rows, Painting, over_rect, picture_after}
use Rattle.caps_sets.specs.declared.confirmed.Confirmed.{Confirmed}
use Rattle.order_fields.specs.Secondary.{Cached}
use Rattle.order_fields.specs.Secondary.Cached.{Bitmap, Glyph, Brush, Marker}
use Rattle.order_fields.specs.NamedDrawing.{NamedDrawing, drawing_of}
use Rattle.order_fields.specs.NamedDrawing.NamedDrawing.{Dst, Pat, Scr, Opaque, SaveBlock, RestoreBlock, Mem, Mem3, Glyphs}
use Rattle.order_read.specs.Told.{Told}
use Rattle.order_read.specs.Told.Told.{Drawn, Stored}
use Rattle.order_means.specs.ClientState.{ClientState, Fault, needs, found, cached, mixing, no_operand, brush_used, image_used, glyph_used, pairs_of}
use Rattle.order_means.specs.ClientState.{with_glyphs, writing, positions, block_at, block_of, with_block, restoring, source_rect}
use Rattle.order_means.specs.ClientState.{client_after_bitmap, client_after_glyph}
use Rattle.order_means.specs.ClientState.Fault.{Broken}
use Rattle.order_means.specs.FrameMarks.{View, view_with, marked_if, is_mark}
use Rattle.client_caches.specs.Stored.{client_after_upright_brush}

-- the client after a painting within a clip
abbrev pub clipped_painting : Size → Option Rect → Painting (Option ℕ) → ClientState → ClientState
clipped_painting size clip p c = record c { picture = picture_after size (in_clip clip) p c.picture }

-- the client after a drawing within a clip
abbrev pub client_after_clipped : Confirmed → Size → Option Rect → ClientState → NamedDrawing → Result ClientState Fault
client_after_clipped confirmed size clip c (Dst r code) = Ok (clipped_painting size clip (mixing c.depth r code no_operand no_operand) c)
client_after_clipped confirmed size clip c (Pat r code entry) =
    bind (brush_used confirmed c entry) (λ brush. Ok (clipped_painting size clip (mixing c.depth r code (brushed client_colors brush) no_operand) c))
client_after_clipped confirmed size clip c (Scr r code sx sy) =
    needs (is_inside size (source_rect r sx sy)) Broken
    (Ok (clipped_painting size clip (mixing c.depth r code no_operand (shifted (rows_of size.w size.h c.picture) None r sx sy)) c))
client_after_clipped confirmed size clip c (Opaque r color) = Ok (clipped_painting size clip (over_rect r (solid client_colors color)) c)
client_after_clipped confirmed size clip c (SaveBlock position r) =
    needs (is_inside size r && nat_le (position + positions r.w r.h) 57600) Broken (Ok (with_block (block_of size c position r) c))
client_after_clipped confirmed size clip c (RestoreBlock position r) =
    needs (is_inside size r) Broken (bind (found (block_at position r.w r.h c.blocks) Broken) (λ b. Ok (clipped_painting size clip (restoring b r) c)))
client_after_clipped confirmed size clip c (Mem cache index r code sx sy) =
    bind (image_used confirmed c cache index (source_rect r sx sy))
    (λ image. Ok (clipped_painting size clip (mixing c.depth r code no_operand (imaged client_colors (image_rows image) r sx sy)) c))
client_after_clipped confirmed size clip c (Mem3 cache index r code sx sy entry) =
    bind (image_used confirmed c cache index (source_rect r sx sy)) (λ image. bind (brush_used confirmed c entry) (λ brush.
    Ok (clipped_painting size clip (mixing c.depth r code (brushed client_colors brush) (imaged client_colors (image_rows image) r sx sy)) c)))
client_after_clipped confirmed size clip c (Glyphs cache x y color run) =
    needs (nat_lt cache 10) Broken (bind (found (pairs_of run) Broken) (λ pairs. with_glyphs (glyph_used confirmed c cache) pairs
    (Ok (clipped_painting size clip (writing (λ index. cached cache index c.glyphs) x y color pairs) c))))

-- the client after a cache order whose brush has its rows from the top
abbrev pub client_after_stored : Confirmed → ClientState → Cached → Result ClientState Fault
client_after_stored confirmed c (Bitmap b) = client_after_bitmap confirmed c b
client_after_stored confirmed c (Glyph g) = client_after_glyph confirmed c g
client_after_stored confirmed c (Brush b) = client_after_upright_brush confirmed c b.entry b.pixels
client_after_stored confirmed c (Marker ends) = Ok c

abbrev pub client_after_told : Confirmed → Size → ClientState → Told → Result ClientState Fault
client_after_told confirmed size c (Drawn o clip) = bind (found (drawing_of c.depth o) Broken) (client_after_clipped confirmed size clip c)
client_after_told confirmed size c (Stored o) = client_after_stored confirmed c o

-- a drawing is counted, and the mark of a viewer with frame markers is kept
abbrev pub counted_told : Confirmed → Told → View → View
counted_told confirmed (Drawn o clip) v = record v { orders = v.orders + 1 }
counted_told confirmed (Stored o) v = marked_if (is_mark confirmed o) v

abbrev pub view_after_told : Confirmed → Size → View → Told → Result View Fault
view_after_told confirmed size v t = bind (client_after_told confirmed size v.client t) (λ c. Ok (counted_told confirmed t (view_with v c)))

-- one by one
abbrev pub view_after_all_told : Confirmed → Size → View → List Told → Result View Fault
view_after_all_told confirmed size v [] = Ok v
view_after_all_told confirmed size v (t ∷ ts) = bind (view_after_told confirmed size v t) (λ w. view_after_all_told confirmed size w ts)
