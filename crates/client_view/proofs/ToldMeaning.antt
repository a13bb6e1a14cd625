-- What is made of orders is what is made of them as they are told.
use Rattle.std.proofs.Common.{◌≡◌, ℕ, List, [], ◌∷◌, refl, ap, sym, ◌∙◌, Some, None}
use Rattle.std.specs.Prelude.{Option, Result, Ok, Err}
use Rattle.px_core.specs.declared.surface.Size.{Size}
use Rattle.px_core.specs.Picture.{rows_of}
use Rattle.px_core.specs.Rectangle.{in_rect, is_inside}
use Rattle.std.specs.Prelude.{nat_lt}
use Rattle.rop3_core.specs.Palette.{client_colors}
use Rattle.wire_num.specs.Field.{bind}
use Rattle.draw_ops.specs.Content.{ImageOf}
use Rattle.draw_ops.specs.Formulas.{solid, brushed, shifted, imaged, image_rows, Painting, over_rect}
use Rattle.caps_sets.specs.declared.confirmed.Confirmed.{Confirmed}
use Rattle.order_fields.specs.OrderTable.{Edges}
use Rattle.order_fields.specs.Secondary.{Cached}
use Rattle.order_fields.specs.Secondary.Cached.{Bitmap, Glyph, Brush, Marker}
use Rattle.order_fields.specs.OrderStream.{Order}
use Rattle.order_fields.specs.OrderStream.Order.{Primary, Other}
use Rattle.order_fields.specs.NamedDrawing.{NamedDrawing, drawing_of}
use Rattle.order_fields.specs.NamedDrawing.NamedDrawing.{Dst, Pat, Scr, Opaque, SaveBlock, RestoreBlock, Mem, Mem3, Glyphs}
use Rattle.order_read.specs.Told.{bounds_rect, optional_rect, upright, told_order, told_orders}
use Rattle.order_means.specs.ClientState.{ClientState, Fault, Block, needs, found, cached, mixing, no_operand, brush_used, image_used, glyph_used, pairs_of, with_glyphs, writing, block_at, restoring, source_rect, in_edges, after_painting, client_after_drawing, client_after_cached, client_after_order}
use Rattle.order_means.specs.ClientState.Fault.{Broken}
use Rattle.order_means.specs.FrameMarks.{View, view_with, marked_if, is_mark, counted_order, view_after_order, view_after_orders}
use Rattle.client_picture.proofs.Clips.{same_clip, bounds_are_a_rectangle}
use Rattle.client_view.specs.Told.{clipped_painting, client_after_clipped, client_after_stored, client_after_told, counted_told, view_after_told, view_after_all_told}

pub bind_same : {A B E : Type 0} (r : Result A E) (f g : A → Result B E) → ((x : A) → f x ≡ g x) → bind r f ≡ bind r g
bind_same (Ok x) f g same = same x
bind_same (Err e) f g same = refl

-- ---- drawings

painted_alike : (size : Size) (bounds : Option Edges) (p : Painting (Option ℕ)) (c : ClientState) → after_painting size bounds p c ≡ clipped_painting size (optional_rect bounds) p c
painted_alike size None p c = refl
painted_alike size (Some e) p c = ap (λ (picture : List (Option ℕ)). record c { picture = picture }) (same_clip size (in_edges e) (in_rect (bounds_rect e)) p c.picture (λ x y. sym (bounds_are_a_rectangle e x y)))

ok_alike : (size : Size) (bounds : Option Edges) (p : Painting (Option ℕ)) (c : ClientState) → ◌≡◌ {A = Result ClientState Fault} (Ok (after_painting size bounds p c)) (Ok (clipped_painting size (optional_rect bounds) p c))
ok_alike size bounds p c = ap (λ (d : ClientState). Ok d) (painted_alike size bounds p c)

drawn_alike : (confirmed : Confirmed) (size : Size) (bounds : Option Edges) (c : ClientState) (d : NamedDrawing) → client_after_drawing confirmed size bounds c d ≡ client_after_clipped confirmed size (optional_rect bounds) c d
drawn_alike confirmed size bounds c (Dst r code) = ok_alike size bounds (mixing c.depth r code no_operand no_operand) c
drawn_alike confirmed size bounds c (Pat r code entry) = bind_same (brush_used confirmed c entry) _ _ (λ brush. ok_alike size bounds (mixing c.depth r code (brushed client_colors brush) no_operand) c)
drawn_alike confirmed size bounds c (Scr r code sx sy) =
    ap (needs (is_inside size (source_rect r sx sy)) Broken) (ok_alike size bounds (mixing c.depth r code no_operand (shifted (rows_of size.w size.h c.picture) None r sx sy)) c)
drawn_alike confirmed size bounds c (Opaque r color) = ok_alike size bounds (over_rect r (solid client_colors color)) c
drawn_alike confirmed size bounds c (SaveBlock position r) = refl
drawn_alike confirmed size bounds c (RestoreBlock position r) =
    ap (needs (is_inside size r) Broken) (bind_same (found (block_at position r.w r.h c.blocks) Broken) _ _ (λ (b : Block). ok_alike size bounds (restoring b r) c))
drawn_alike confirmed size bounds c (Mem cache index r code sx sy) =
    bind_same (image_used confirmed c cache index (source_rect r sx sy)) _ _ (λ (image : ImageOf). ok_alike size bounds (mixing c.depth r code no_operand (imaged client_colors (image_rows image) r sx sy)) c)
drawn_alike confirmed size bounds c (Mem3 cache index r code sx sy entry) =
    bind_same (image_used confirmed c cache index (source_rect r sx sy)) _ _ (λ (image : ImageOf). bind_same (brush_used confirmed c entry) _ _ (λ (brush : List ℕ).
    ok_alike size bounds (mixing c.depth r code (brushed client_colors brush) (imaged client_colors (image_rows image) r sx sy)) c))
drawn_alike confirmed size bounds c (Glyphs cache x y color run) =
    ap (needs (nat_lt cache 10) Broken) (bind_same (found (pairs_of run) Broken) _ _ (λ (pairs : List (ℕ × ℕ)). ap (with_glyphs (glyph_used confirmed c cache) pairs)
    (ok_alike size bounds (writing (λ index. cached cache index c.glyphs) x y color pairs) c)))

-- ---- orders

stored_alike : (confirmed : Confirmed) (c : ClientState) (o : Cached) → client_after_cached confirmed c o ≡ client_after_stored confirmed c (upright o)
stored_alike confirmed c (Bitmap b) = refl
stored_alike confirmed c (Glyph g) = refl
stored_alike confirmed c (Brush b) = refl
stored_alike confirmed c (Marker ends) = refl

told_alike : (confirmed : Confirmed) (size : Size) (c : ClientState) (o : Order) → client_after_order confirmed size c o ≡ client_after_told confirmed size c (told_order o)
told_alike confirmed size c (Primary o bounds) = bind_same (found (drawing_of c.depth o) Broken) _ _ (λ (d : NamedDrawing). drawn_alike confirmed size bounds c d)
told_alike confirmed size c (Other o) = stored_alike confirmed c o

mark_alike : (confirmed : Confirmed) (o : Cached) → is_mark confirmed o ≡ is_mark confirmed (upright o)
mark_alike confirmed (Bitmap b) = refl
mark_alike confirmed (Glyph g) = refl
mark_alike confirmed (Brush b) = refl
mark_alike confirmed (Marker ends) = refl

counted_alike : (confirmed : Confirmed) (o : Order) (v : View) → counted_order confirmed o v ≡ counted_told confirmed (told_order o) v
counted_alike confirmed (Primary o bounds) v = refl
counted_alike confirmed (Other o) v = ap (λ t. marked_if t v) (mark_alike confirmed o)

one_alike : (confirmed : Confirmed) (size : Size) (v : View) (o : Order) → view_after_order confirmed size v o ≡ view_after_told confirmed size v (told_order o)
one_alike confirmed size v o =
    ap (λ (r : Result ClientState Fault). bind r (λ c. Ok (counted_order confirmed o (view_with v c)))) (told_alike confirmed size v.client o)
    ∙ bind_same (client_after_told confirmed size v.client (told_order o)) _ _ (λ (c : ClientState). ap (λ (w : View). Ok w) (counted_alike confirmed o (view_with v c)))

-- orders are obeyed as they are told
pub all_alike : (confirmed : Confirmed) (size : Size) (v : View) (os : List Order) → view_after_orders confirmed size v os ≡ view_after_all_told confirmed size v (told_orders os)
all_alike confirmed size v [] = refl
all_alike confirmed size v (o ∷ os) =
    ap (λ (r : Result View Fault). bind r (λ w. view_after_orders confirmed size w os)) (one_alike confirmed size v o)
    ∙ bind_same (view_after_told confirmed size v (told_order o)) _ _ (λ (w : View). all_alike confirmed size w os)
