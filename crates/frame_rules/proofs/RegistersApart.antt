-- What a client makes of orders doesn't depend on its registers, which only reading looks at.
use Rattle.std.proofs.Common.{◌≡◌, ℕ, ◌+◌, ◌*◌, length, List, [], ◌∷◌, refl, ap, ◌∙◌, Bool, true, false}
use Rattle.std.specs.Prelude.{◌==◌, nat_lt, nat_le, ◌&&◌, Option, None, Result, Ok, Err}
use Rattle.px_core.specs.declared.surface.Size.{Size}
use Rattle.caps_sets.specs.declared.confirmed.Confirmed.{Confirmed}
use Rattle.draw_ops.specs.Content.{ImageOf, GlyphOf}
use Rattle.wire_num.specs.Field.{bind}
use Rattle.order_fields.specs.OrderTable.{Registers, Edges}
use Rattle.order_fields.specs.Secondary.{Cached}
use Rattle.order_fields.specs.Secondary.Cached.{Bitmap, Glyph, Brush, Marker}
use Rattle.order_fields.specs.OrderStream.{Order}
use Rattle.order_fields.specs.OrderStream.Order.{Primary, Other}
use Rattle.order_fields.specs.NamedDrawing.{NamedDrawing, drawing_of}
use Rattle.order_fields.specs.NamedDrawing.NamedDrawing.{Dst, Pat, Scr, Opaque, SaveBlock, RestoreBlock, Mem, Mem3, Glyphs}
use Rattle.order_means.specs.ClientState.{ClientState, Block, Fault, needs, found, pairs_of, with_glyphs, client_after_drawing, client_after_cached, client_after_order, after_painting, no_operand, brush_used, image_used, glyph_used, source_rect, with_block, block_of, block_at, positions, restoring, writing, cached, with_cached, holds, is_bitmap, bitmap_flags, wire_pixels, glyph_of, brush_entries}
use Rattle.order_means.specs.ClientState.Fault.{Broken, Oversized}
use Rattle.draw_ops.specs.Slots.{filled_slot}
use Rattle.draw_ops.specs.Formulas.{over_rect, rastered, brushed, shifted, imaged, image_rows}
use Rattle.rop3_core.specs.Palette.{client_colors}
use Rattle.draw_ops.specs.Depths.{client_colors_at}
use Rattle.px_core.specs.Depth.{bytes_in}
use Rattle.px_core.specs.declared.rectangle.Rect.{Rect}
use Rattle.px_core.specs.Picture.{Formula, rows_of, turned_over}
use Rattle.px_core.specs.Rectangle.{is_inside}
use Rattle.caps_sets.specs.Confirmed.{cache_size}
use Rattle.order_means.specs.FrameMarks.{View, marked_if, is_mark, counted_order, view_with, view_after_order, view_after_orders, with_registers}

-- a result, seen through a function
abbrev pub over : {A B E : Type 0} → (A → B) → Result A E → Result B E
over h (Ok a) = Ok (h a)
over h (Err e) = Err e

-- a client with other registers
abbrev pub moved : Registers → ClientState → ClientState
moved r c = record c { registers = r }

bind_over : {A B C E : Type 0} (h : B → C) (x : Result A E) (f : A → Result C E) (g : A → Result B E) → ((a : A) → f a ≡ over h (g a)) → bind x f ≡ over h (bind x g)
bind_over h (Ok a) f g e = e a
bind_over h (Err q) f g e = refl

needs_over : {B C : Type 0} (h : B → C) (test : Bool) (fault : Fault) (x : Result C Fault) (y : Result B Fault) → x ≡ over h y → needs test fault x ≡ over h (needs test fault y)
needs_over h true fault x y e = e
needs_over h false fault x y e = refl

glyphs_over : {B C : Type 0} (h : B → C) (glyph : ℕ → Result GlyphOf Fault) (ps : List (ℕ × ℕ)) (x : Result C Fault) (y : Result B Fault) → x ≡ over h y → with_glyphs glyph ps x ≡ over h (with_glyphs glyph ps y)
glyphs_over h glyph [] x y e = e
glyphs_over h glyph (p ∷ ps) x y e = bind_over h (glyph p.0) (λ _. with_glyphs glyph ps x) (λ _. with_glyphs glyph ps y) (λ g. glyphs_over h glyph ps x y e)

abbrev Made : Type 0
Made = Result ClientState Fault

abbrev painted_by : Size → Option Edges → Rect → Formula (Option ℕ) → ClientState → Made
painted_by size bounds rect f c = Ok (after_painting size bounds (over_rect rect f) c)

drawing_apart : (c : Confirmed) (size : Size) (bounds : Option Edges) (cl : ClientState) (r : Registers) (d : NamedDrawing)
    → client_after_drawing c size bounds (moved r cl) d ≡ over (moved r) (client_after_drawing c size bounds cl d)
drawing_apart c size bounds cl r (Dst rect code) = refl
drawing_apart c size bounds cl r (Pat rect code entry) =
    let k = λ (s : ClientState) (brush : List ℕ). painted_by size bounds rect (rastered (client_colors_at s.depth) code (brushed client_colors brush) no_operand) s in
    bind_over (moved r) (brush_used c cl entry) (k (moved r cl)) (k cl) (λ brush. refl)
drawing_apart c size bounds cl r (Scr rect code sx sy) =
    let k = λ (s : ClientState). painted_by size bounds rect (rastered (client_colors_at s.depth) code no_operand (shifted (rows_of size.w size.h cl.picture) None rect sx sy)) s in
    needs_over (moved r) (is_inside size (source_rect rect sx sy)) Broken (k (moved r cl)) (k cl) refl
drawing_apart c size bounds cl r (Opaque rect color) = refl
drawing_apart c size bounds cl r (SaveBlock position rect) =
    let k = λ (s : ClientState). let m : Made = Ok (with_block (block_of size s position rect) s) in m in
    needs_over (moved r) (is_inside size rect && nat_le (position + positions rect.w rect.h) 57600) Broken (k (moved r cl)) (k cl) refl
drawing_apart c size bounds cl r (RestoreBlock position rect) =
    let k = λ (s : ClientState) (b : Block). let m : Made = Ok (after_painting size bounds (restoring b rect) s) in m in
    let x : Result Block Fault = found (block_at position rect.w rect.h cl.blocks) Broken in
    needs_over (moved r) (is_inside size rect) Broken (bind x (k (moved r cl))) (bind x (k cl)) (bind_over (moved r) x (k (moved r cl)) (k cl) (λ b. refl))
drawing_apart c size bounds cl r (Mem cache index rect code sx sy) =
    let k = λ (s : ClientState) (image : ImageOf). painted_by size bounds rect (rastered (client_colors_at s.depth) code no_operand (imaged client_colors (image_rows image) rect sx sy)) s in
    bind_over (moved r) (image_used c cl cache index (source_rect rect sx sy)) (k (moved r cl)) (k cl) (λ image. refl)
drawing_apart c size bounds cl r (Mem3 cache index rect code sx sy entry) =
    let k = λ (s : ClientState) (image : ImageOf) (brush : List ℕ). painted_by size bounds rect (rastered (client_colors_at s.depth) code (brushed client_colors brush) (imaged client_colors (image_rows image) rect sx sy)) s in
    bind_over (moved r) (image_used c cl cache index (source_rect rect sx sy)) (λ image. bind (brush_used c cl entry) (k (moved r cl) image)) (λ image. bind (brush_used c cl entry) (k cl image))
    (λ image. bind_over (moved r) (brush_used c cl entry) (k (moved r cl) image) (k cl image) (λ brush. refl))
drawing_apart c size bounds cl r (Glyphs cache x y color run) =
    let k = λ (s : ClientState) (pairs : List (ℕ × ℕ)). let m : Made = Ok (after_painting size bounds (writing (λ index. cached cache index s.glyphs) x y color pairs) s) in m in
    let f = λ (s : ClientState) (pairs : List (ℕ × ℕ)). with_glyphs (glyph_used c cl cache) pairs (k s pairs) in
    let ps : Result (List (ℕ × ℕ)) Fault = found (pairs_of run) Broken in
    needs_over (moved r) (nat_lt cache 10) Broken (bind ps (f (moved r cl))) (bind ps (f cl))
    (bind_over (moved r) ps (f (moved r cl)) (f cl) (λ pairs. glyphs_over (moved r) (glyph_used c cl cache) pairs (k (moved r cl) pairs) (k cl pairs) refl))

cached_apart : (c : Confirmed) (cl : ClientState) (r : Registers) (o : Cached) → client_after_cached c (moved r cl) o ≡ over (moved r) (client_after_cached c cl o)
cached_apart c cl r (Bitmap b) =
    let k = λ (s : ClientState) (pixels : List ℕ). let m : Made = Ok (record s { images = with_cached b.cache b.index (record { w = b.w; h = b.h; pixels = turned_over b.w b.h pixels }) s.images }) in m in
    let f = λ (s : ClientState) (pixels : List ℕ). needs (holds (cache_size c.bitmaps b.cache) b.index (bytes_in cl.depth * (b.w * b.h))) (Oversized b.cache b.index) (k s pixels) in
    let x : Result (List ℕ) Fault = wire_pixels cl.depth b.packed b.w b.h b.bytes in
    needs_over (moved r) (is_bitmap cl.depth b.w b.h b.depth && (nat_lt b.cache 3 && (b.flags == bitmap_flags b.packed))) Broken (bind x (f (moved r cl))) (bind x (f cl))
    (bind_over (moved r) x (f (moved r cl)) (f cl) (λ pixels. needs_over (moved r) (holds (cache_size c.bitmaps b.cache) b.index (bytes_in cl.depth * (b.w * b.h))) (Oversized b.cache b.index) (k (moved r cl) pixels) (k cl pixels) refl))
cached_apart c cl r (Glyph g) =
    let k = λ (s : ClientState). let m : Made = Ok (record s { glyphs = with_cached g.cache g.index (glyph_of g) s.glyphs }) in m in
    let f = λ (s : ClientState). needs (holds (cache_size c.glyphs g.cache) g.index (length g.bits)) (Oversized (3 + g.cache) g.index) (k s) in
    needs_over (moved r) (nat_lt g.cache 10) Broken (f (moved r cl)) (f cl)
    (needs_over (moved r) (holds (cache_size c.glyphs g.cache) g.index (length g.bits)) (Oversized (3 + g.cache) g.index) (k (moved r cl)) (k cl) refl)
cached_apart c cl r (Brush b) =
    let k = λ (s : ClientState). let m : Made = Ok (record s { brushes = filled_slot b.entry (turned_over 8 8 b.pixels) s.brushes }) in m in
    needs_over (moved r) (nat_lt b.entry (brush_entries c.brush)) (Oversized 13 b.entry) (k (moved r cl)) (k cl) refl
cached_apart c cl r (Marker ends) = refl

order_apart : (c : Confirmed) (size : Size) (cl : ClientState) (r : Registers) (o : Order) → client_after_order c size (moved r cl) o ≡ over (moved r) (client_after_order c size cl o)
order_apart c size cl r (Primary fields bounds) =
    let x : Result NamedDrawing Fault = found (drawing_of cl.depth fields) Broken in
    bind_over (moved r) x (client_after_drawing c size bounds (moved r cl)) (client_after_drawing c size bounds cl) (λ d. drawing_apart c size bounds cl r d)
order_apart c size cl r (Other o) = cached_apart c cl r o

-- ---- views

mark_apart : (b : Bool) (v : View) (r : Registers) → marked_if b (with_registers v r) ≡ with_registers (marked_if b v) r
mark_apart true v r = refl
mark_apart false v r = refl

count_apart : (c : Confirmed) (o : Order) (v : View) (r : Registers) → counted_order c o (with_registers v r) ≡ with_registers (counted_order c o v) r
count_apart c (Primary fields bounds) v r = refl
count_apart c (Other o) v r = mark_apart (is_mark c o) v r

abbrev registered : Registers → View → View
registered r v = with_registers v r

view_of_result : (c : Confirmed) (o : Order) (v : View) (r : Registers) (x : Result ClientState Fault)
    → bind (over (moved r) x) (λ d. Ok (counted_order c o (view_with (with_registers v r) d))) ≡ over (registered r) (bind x (λ d. Ok (counted_order c o (view_with v d))))
view_of_result c o v r (Ok d) = ap Ok (count_apart c o (view_with v d) r)
view_of_result c o v r (Err fault) = refl

view_order_apart : (c : Confirmed) (size : Size) (v : View) (r : Registers) (o : Order) → view_after_order c size (with_registers v r) o ≡ over (registered r) (view_after_order c size v o)
view_order_apart c size v r o = ap (λ x. bind x (λ d. Ok (counted_order c o (view_with (with_registers v r) d)))) (order_apart c size v.client r o) ∙ view_of_result c o v r (client_after_order c size v.client o)

then_apart : (r : Registers) (x : Result View Fault) (f : View → Result View Fault) → ((w : View) → f (registered r w) ≡ over (registered r) (f w)) → bind (over (registered r) x) f ≡ over (registered r) (bind x f)
then_apart r (Ok w) f e = e w
then_apart r (Err fault) f e = refl

-- orders are obeyed alike whatever the registers
pub view_orders_apart : (c : Confirmed) (size : Size) (v : View) (r : Registers) (os : List Order) → view_after_orders c size (with_registers v r) os ≡ over (λ w. with_registers w r) (view_after_orders c size v os)
view_orders_apart c size v r [] = refl
view_orders_apart c size v r (o ∷ os) =
    ap (λ x. bind x (λ w. view_after_orders c size w os)) (view_order_apart c size v r o)
    ∙ then_apart r (view_after_order c size v o) (λ w. view_after_orders c size w os) (λ w. view_orders_apart c size w r os)
