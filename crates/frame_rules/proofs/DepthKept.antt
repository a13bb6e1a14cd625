-- Obeying orders leaves a client's depth.
use Rattle.std.proofs.Common.{◌≡◌, ℕ, ◌+◌, ◌*◌, length, List, [], ◌∷◌, refl, ◌∙◌, Bool, true, false, subst}
use Rattle.std.specs.Prelude.{⊤, ◌==◌, nat_lt, nat_le, ◌&&◌, Option, None, Result, Ok, Err}
use Rattle.px_core.specs.declared.depth.Depth.{Depth}
use Rattle.px_core.specs.declared.surface.Size.{Size}
use Rattle.px_core.specs.Depth.{bytes_in}
use Rattle.caps_sets.specs.declared.confirmed.Confirmed.{Confirmed}
use Rattle.caps_sets.specs.Confirmed.{cache_size}
use Rattle.draw_ops.specs.Content.{ImageOf, GlyphOf}
use Rattle.wire_num.specs.Field.{bind}
use Rattle.order_fields.specs.OrderTable.{Edges}
use Rattle.order_fields.specs.Secondary.{Cached}
use Rattle.order_fields.specs.Secondary.Cached.{Bitmap, Glyph, Brush, Marker}
use Rattle.order_fields.specs.OrderStream.{Order}
use Rattle.order_fields.specs.OrderStream.Order.{Primary, Other}
use Rattle.order_fields.specs.NamedDrawing.{NamedDrawing, drawing_of}
use Rattle.order_fields.specs.NamedDrawing.NamedDrawing.{Dst, Pat, Scr, Opaque, SaveBlock, RestoreBlock, Mem, Mem3, Glyphs}
use Rattle.order_means.specs.ClientState.{ClientState, Block, Fault, needs, found, pairs_of, with_glyphs, client_after_drawing, client_after_cached, client_after_order, brush_used, image_used, glyph_used, after_painting, mixing, no_operand, source_rect, with_block, block_of, block_at, positions, restoring, writing, cached, with_cached, holds, is_bitmap, bitmap_flags, wire_pixels, glyph_of, brush_entries}
use Rattle.order_means.specs.ClientState.Fault.{Broken, Oversized}
use Rattle.draw_ops.specs.Slots.{filled_slot}
use Rattle.draw_ops.specs.Formulas.{brushed, shifted, imaged, image_rows}
use Rattle.rop3_core.specs.Palette.{client_colors}
use Rattle.px_core.specs.Picture.{rows_of, turned_over}
use Rattle.px_core.specs.Rectangle.{is_inside}
use Rattle.order_means.specs.FrameMarks.{View, marked_if, is_mark, counted_order, view_with, view_after_order, view_after_orders}

-- a client that is made has the depth
abbrev HasDepth : Depth → Result ClientState Fault → Type 0
HasDepth depth (Ok c) = c.depth ≡ depth
HasDepth depth (Err fault) = ⊤

bind_keeps : {A : Type 0} (depth : Depth) (x : Result A Fault) (f : A → Result ClientState Fault) → ((a : A) → HasDepth depth (f a)) → HasDepth depth (bind x f)
bind_keeps depth (Ok a) f h = h a
bind_keeps depth (Err fault) f h = tt

needs_keeps : (depth : Depth) (test : Bool) (fault : Fault) (x : Result ClientState Fault) → HasDepth depth x → HasDepth depth (needs test fault x)
needs_keeps depth true fault x h = h
needs_keeps depth false fault x h = tt

made_keeps : (depth : Depth) (test : Bool) (c : ClientState) → c.depth ≡ depth → HasDepth depth (needs test Broken (Ok c))
made_keeps depth test c h = needs_keeps depth test Broken (Ok c) h

glyphs_keep : (depth : Depth) (glyph : ℕ → Result GlyphOf Fault) (ps : List (ℕ × ℕ)) (x : Result ClientState Fault) → HasDepth depth x → HasDepth depth (with_glyphs glyph ps x)
glyphs_keep depth glyph [] x h = h
glyphs_keep depth glyph (p ∷ ps) x h = bind_keeps depth (glyph p.0) (λ _. with_glyphs glyph ps x) (λ g. glyphs_keep depth glyph ps x h)

drawing_keeps : (c : Confirmed) (size : Size) (bounds : Option Edges) (cl : ClientState) (d : NamedDrawing) → HasDepth cl.depth (client_after_drawing c size bounds cl d)
drawing_keeps c size bounds cl (Dst r code) = refl
drawing_keeps c size bounds cl (Pat r code entry) =
    let f = λ (brush : List ℕ). let m : Result ClientState Fault = Ok (after_painting size bounds (mixing cl.depth r code (brushed client_colors brush) no_operand) cl) in m in
    bind_keeps cl.depth (brush_used c cl entry) f (λ brush. refl)
drawing_keeps c size bounds cl (Scr r code sx sy) =
    made_keeps cl.depth (is_inside size (source_rect r sx sy)) (after_painting size bounds (mixing cl.depth r code no_operand (shifted (rows_of size.w size.h cl.picture) None r sx sy)) cl) refl
drawing_keeps c size bounds cl (Opaque r color) = refl
drawing_keeps c size bounds cl (SaveBlock position r) =
    made_keeps cl.depth (is_inside size r && nat_le (position + positions r.w r.h) 57600) (with_block (block_of size cl position r) cl) refl
drawing_keeps c size bounds cl (RestoreBlock position r) =
    let x : Result Block Fault = found (block_at position r.w r.h cl.blocks) Broken in
    let f = λ (b : Block). let m : Result ClientState Fault = Ok (after_painting size bounds (restoring b r) cl) in m in
    needs_keeps cl.depth (is_inside size r) Broken (bind x f) (bind_keeps cl.depth x f (λ b. refl))
drawing_keeps c size bounds cl (Mem cache index r code sx sy) =
    let f = λ (image : ImageOf). let m : Result ClientState Fault = Ok (after_painting size bounds (mixing cl.depth r code no_operand (imaged client_colors (image_rows image) r sx sy)) cl) in m in
    bind_keeps cl.depth (image_used c cl cache index (source_rect r sx sy)) f (λ image. refl)
drawing_keeps c size bounds cl (Mem3 cache index r code sx sy entry) =
    let k = λ (image : ImageOf) (brush : List ℕ).
    let m : Result ClientState Fault = Ok (after_painting size bounds (mixing cl.depth r code (brushed client_colors brush) (imaged client_colors (image_rows image) r sx sy)) cl) in m in
    bind_keeps cl.depth (image_used c cl cache index (source_rect r sx sy)) (λ image. bind (brush_used c cl entry) (k image)) (λ image. bind_keeps cl.depth (brush_used c cl entry) (k image) (λ brush. refl))
drawing_keeps c size bounds cl (Glyphs cache x y color run) =
    let ps : Result (List (ℕ × ℕ)) Fault = found (pairs_of run) Broken in
    let k = λ (pairs : List (ℕ × ℕ)). let m : Result ClientState Fault = Ok (after_painting size bounds (writing (λ index. cached cache index cl.glyphs) x y color pairs) cl) in m in
    let f = λ (pairs : List (ℕ × ℕ)). with_glyphs (glyph_used c cl cache) pairs (k pairs) in
    needs_keeps cl.depth (nat_lt cache 10) Broken (bind ps f) (bind_keeps cl.depth ps f (λ pairs. glyphs_keep cl.depth (glyph_used c cl cache) pairs (k pairs) refl))

cached_keeps : (c : Confirmed) (cl : ClientState) (o : Cached) → HasDepth cl.depth (client_after_cached c cl o)
cached_keeps c cl (Bitmap b) =
    let x : Result (List ℕ) Fault = wire_pixels cl.depth b.packed b.w b.h b.bytes in
    let fits = holds (cache_size c.bitmaps b.cache) b.index (bytes_in cl.depth * (b.w * b.h)) in
    let k = λ (pixels : List ℕ). let m : Result ClientState Fault = Ok (record cl { images = with_cached b.cache b.index (record { w = b.w; h = b.h; pixels = turned_over b.w b.h pixels }) cl.images }) in m in
    let f = λ (pixels : List ℕ). needs fits (Oversized b.cache b.index) (k pixels) in
    needs_keeps cl.depth (is_bitmap cl.depth b.w b.h b.depth && (nat_lt b.cache 3 && (b.flags == bitmap_flags b.packed))) Broken (bind x f)
    (bind_keeps cl.depth x f (λ pixels. needs_keeps cl.depth fits (Oversized b.cache b.index) (k pixels) refl))
cached_keeps c cl (Glyph g) =
    let fits = holds (cache_size c.glyphs g.cache) g.index (length g.bits) in
    let made : Result ClientState Fault = Ok (record cl { glyphs = with_cached g.cache g.index (glyph_of g) cl.glyphs }) in
    let fault = Oversized (3 + g.cache) g.index in
    needs_keeps cl.depth (nat_lt g.cache 10) Broken (needs fits fault made) (needs_keeps cl.depth fits fault made refl)
cached_keeps c cl (Brush b) =
    let made : Result ClientState Fault = Ok (record cl { brushes = filled_slot b.entry (turned_over 8 8 b.pixels) cl.brushes }) in
    needs_keeps cl.depth (nat_lt b.entry (brush_entries c.brush)) (Oversized 13 b.entry) made refl
cached_keeps c cl (Marker ends) = refl

client_keeps : (c : Confirmed) (size : Size) (cl : ClientState) (o : Order) → HasDepth cl.depth (client_after_order c size cl o)
client_keeps c size cl (Primary fields bounds) =
    let x : Result NamedDrawing Fault = found (drawing_of cl.depth fields) Broken in
    bind_keeps cl.depth x (client_after_drawing c size bounds cl) (λ d. drawing_keeps c size bounds cl d)
client_keeps c size cl (Other o) = cached_keeps c cl o

-- ---- views

marked_keeps : (b : Bool) (v : View) → (marked_if b v).client.depth ≡ v.client.depth
marked_keeps true v = refl
marked_keeps false v = refl

counted_keeps : (c : Confirmed) (o : Order) (v : View) → (counted_order c o v).client.depth ≡ v.client.depth
counted_keeps c (Primary fields bounds) v = refl
counted_keeps c (Other o) v = marked_keeps (is_mark c o) v

-- a view that is made has the depth
abbrev ShowsDepth : Depth → Result View Fault → Type 0
ShowsDepth depth (Ok v) = v.client.depth ≡ depth
ShowsDepth depth (Err fault) = ⊤

view_of_client : (c : Confirmed) (o : Order) (v : View) (x : Result ClientState Fault) → HasDepth v.client.depth x
    → ShowsDepth v.client.depth (bind x (λ d. Ok (counted_order c o (view_with v d))))
view_of_client c o v (Ok d) h = counted_keeps c o (view_with v d) ∙ h
view_of_client c o v (Err fault) h = tt

then_keeps : (depth : Depth) (x : Result View Fault) (f : View → Result View Fault) → ShowsDepth depth x → ((w : View) → ShowsDepth w.client.depth (f w)) → ShowsDepth depth (bind x f)
then_keeps depth (Ok w) f h more = after (f w) (more w)
  where
    after : (y : Result View Fault) → ShowsDepth w.client.depth y → ShowsDepth depth y
    after (Ok u) e = e ∙ h
    after (Err fault) e = tt
then_keeps depth (Err fault) f h more = tt

orders_keep : (c : Confirmed) (size : Size) (v : View) (os : List Order) → ShowsDepth v.client.depth (view_after_orders c size v os)
orders_keep c size v [] = refl
orders_keep c size v (o ∷ os) =
    then_keeps v.client.depth (view_after_order c size v o) (λ w. view_after_orders c size w os) (view_of_client c o v (client_after_order c size v.client o) (client_keeps c size v.client o)) (λ w. orders_keep c size w os)

-- a client has the depth after orders that it had before them
pub depth_kept : (c : Confirmed) (size : Size) (v w : View) (os : List Order) → view_after_orders c size v os ≡ Ok w → w.client.depth ≡ v.client.depth
depth_kept c size v w os obeys = subst (λ r. ShowsDepth v.client.depth r) obeys (orders_keep c size v os)
