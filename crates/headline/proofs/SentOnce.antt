-- Each drawing that is sent goes as exactly one order of its shape, after the cache orders of what it uses; one that isn't sent goes as none.
use Rattle.std.proofs.Common.{◌≡◌, ℕ, ◌+◌, List, [], ◌∷◌, ◌++◌, length, refl, ap, sym, ◌∙◌, subst, append_assoc, Some, None, ◌⊎◌, inl, inr}
use Rattle.std.specs.Prelude.{Bool, true, false, ◌&&◌, nat_lt, Option, ⊤}
use Rattle.px_core.specs.declared.surface.Size.{Size}
use Rattle.px_core.specs.Tiles.{Tiles}
use Rattle.px_core.specs.declared.rectangle.Rect.{Rect}
use Rattle.draw_ops.specs.declared.shape.Shape.{Shape}
use Rattle.draw_ops.specs.declared.shape.Shape.TheVariants.{Fill, Dst, Pat, Copy, Blit, Blit3, Text, Line, Save, Restore, LoadImage, LoadBrush, LoadGlyph}
use Rattle.draw_ops.specs.Content.{ImageOf, GlyphOf}
use Rattle.draw_ops.specs.Slots.{Loaded}
use Rattle.caps_sets.specs.declared.confirmed.Confirmed.{Confirmed}
use Rattle.cache_plan.specs.CacheUse.{misses, cache_index, uses_of}
use Rattle.order_fields.specs.NamedDrawing.{NamedDrawing}
use Rattle.order_fields.specs.NamedDrawing.NamedDrawing.{Dst as DstBlt, Pat as PatBlt, Scr as ScrBlt, Opaque as OpaqueRect, SaveBlock, RestoreBlock}
use Rattle.order_fields.specs.NamedDrawing.NamedDrawing.{Mem as MemBlt, Mem3 as Mem3Blt, Glyphs as GlyphIndex}
use Rattle.frame_rules.specs.Blocks.{Held, Place, positions_of, least_free}
use Rattle.session_rules.specs.Pending.{Pending}
use Rattle.frame_rules.specs.Cautious.{as_walked}
use Rattle.frame_rules.specs.Support.{supports, image_cache, run_cache}
use Rattle.frame_rules.specs.Frame.{Walk, Sent, sent_if, saved_at, saved_if, given_up, restored_from, block_if, reads_clean_tiles, walked, walked_as}
use Rattle.frame_rules.specs.Frame.{walked_pending}
use Rattle.frame_rules.specs.Frame.{FrameOf, most_orders, first_dirty, framed_by, frame_over, sent_from}
use Rattle.frame_rules.specs.FrameOrders.{SentOrder, Uses, or_0, use_by, entries_of, first_glyph_cache, brush_cache, brush_use, image_use, glyph_use}
use Rattle.frame_rules.specs.FrameOrders.{run_use, run_pairs}
use Rattle.frame_rules.specs.FrameOrders.{bounds_of, sending_by, sending_of, orders_from, start_orders, black_orders, orders_before_tiles}
use Rattle.frame_rules.specs.FrameOrders.SentOrder.{Drawn, CacheImage, CacheGlyph, CacheBrush, FrameMarker}
use Rattle.headline.specs.SentOnce.{IsSentOnceOrNot, drawn_orders, IsOrderOf, AreDrawnAs, NamesImage, NamesBrush, NamesGlyphs, IsUsedBy}
use Rattle.headline.specs.SentOnce.{AreUsedBy, EachEndsWithItsOrder}
use Rattle.headline.proofs.Packed.{index_is}

-- ---- the walk

-- nothing, or once this pending drawing, whose shape has an order
abbrev HasOrder : Shape → Type 0
HasOrder (Fill r color) = ⊤
HasOrder (Dst r code) = ⊤
HasOrder (Pat r code brush) = ⊤
HasOrder (Copy r code sx sy) = ⊤
HasOrder (Blit r code image sx sy) = ⊤
HasOrder (Blit3 r code image sx sy brush) = ⊤
HasOrder (Text x y color font run) = ⊤
HasOrder (Line x0 y0 x1 y1 color) = ⊥
HasOrder (Save slot r) = ⊤
HasOrder (Restore slot x y) = ⊤
HasOrder (LoadImage slot image) = ⊥
HasOrder (LoadBrush slot brush) = ⊥
HasOrder (LoadGlyph font code glyph) = ⊥

abbrev Once : Shape → Pending → List Sent → Type 0
Once shape p sent = (sent ≡ []) ⊎ ((s : Sent) × (sent ≡ s ∷ []) × (p ≡ s.pending) × HasOrder shape)

by_test : (b : Bool) (size : Size) (w : Walk) (p : Pending) (shape : Shape) → HasOrder shape → Once shape p (sent_if b size w p).sent
by_test true size w p shape h = inr (_, refl, refl, h)
by_test false size w p shape h = inl refl

by_place : (o : Option Place) (size : Size) (w : Walk) (p : Pending) (shape : Shape) → HasOrder shape → Once shape p (restored_from size w p o).sent
by_place None size w p shape h = inl refl
by_place (Some place) size w p shape h = inr (_, refl, refl, h)

by_position : (o : Option ℕ) (size : Size) (w : Walk) (p : Pending) (slot : ℕ) (r : Rect) (shape : Shape) → HasOrder shape
    → Once shape p (saved_at size w p slot r o).sent
by_position None size w p slot r shape h = inl refl
by_position (Some position) size w p slot r shape h = inr (_, refl, refl, h)

by_save : (b : Bool) (size : Size) (w : Walk) (p : Pending) (slot : ℕ) (r : Rect) (shape : Shape) → HasOrder shape
    → Once shape p (saved_if b size w p slot r).sent
by_save true size w p slot r shape h = by_position (least_free (positions_of r.w r.h) w.held) size w p slot r shape h
by_save false size w p slot r shape h = inl refl

once : (size : Size) (c : Confirmed) (w : Walk) (p : Pending) (s : Shape) → Once s p (walked size c w p s).sent
once size c w p (Fill r color) = by_test (supports c p (Fill r color)) size w p (Fill r color) tt
once size c w p (Dst r code) = by_test (supports c p (Dst r code)) size w p (Dst r code) tt
once size c w p (Pat r code brush) = by_test (supports c p (Pat r code brush)) size w p (Pat r code brush) tt
once size c w p (Copy r code sx sy) = by_test (supports c p (Copy r code sx sy) && reads_clean_tiles size w (Copy r code sx sy)) size w p (Copy r code sx sy) tt
once size c w p (Blit r code image sx sy) = by_test (supports c p (Blit r code image sx sy)) size w p (Blit r code image sx sy) tt
once size c w p (Blit3 r code image sx sy brush) = by_test (supports c p (Blit3 r code image sx sy brush)) size w p (Blit3 r code image sx sy brush) tt
once size c w p (Text x y color font run) = by_test (supports c p (Text x y color font run)) size w p (Text x y color font run) tt
once size c w p (Line x0 y0 x1 y1 color) = inl refl
once size c w p (Save slot r) = by_save (supports c p (Save slot r) && reads_clean_tiles size w (Save slot r)) size (given_up slot w) p slot r (Save slot r) tt
once size c w p (Restore slot x y) = by_place (block_if (supports c p (Restore slot x y)) slot w) size w p (Restore slot x y) tt
once size c w p (LoadImage slot image) = inl refl
once size c w p (LoadBrush slot brush) = inl refl
once size c w p (LoadGlyph font code glyph) = inl refl

pub sent_once_or_not : (size : Size) (c : Confirmed) (w : Walk) (p : Pending) → IsSentOnceOrNot size c w p
sent_once_or_not size c w p = by (as_walked size c p) refl
  where
    by : (o : Option Pending) → as_walked size c p ≡ o
        → ((walked_as size c w o).sent ≡ []) ⊎ ((s : Sent) × ((walked_as size c w o).sent ≡ s ∷ []) × (as_walked size c p ≡ Some s.pending))
    by None is = inl refl
    by (Some q) is = chosen (once size c w q q.drawing.shape)
      where
        chosen : Once q.drawing.shape q (walked size c w q q.drawing.shape).sent
            → ((walked size c w q q.drawing.shape).sent ≡ []) ⊎ ((s : Sent) × ((walked size c w q q.drawing.shape).sent ≡ s ∷ [])
            × (as_walked size c p ≡ Some s.pending))
        chosen (inl none) = inl none
        chosen (inr one) = inr (one.0, one.1, is ∙ ap Some one.2)

abbrev AllHaveOrders : List Sent → Type 0
AllHaveOrders [] = ⊤
AllHaveOrders (s ∷ ss) = HasOrder s.pending.drawing.shape × AllHaveOrders ss

have_append : (xs ys : List Sent) → AllHaveOrders xs → AllHaveOrders ys → AllHaveOrders (xs ++ ys)
have_append [] ys h k = k
have_append (x ∷ xs) ys h k = (h.0, have_append xs ys h.1 k)

of_once : (q : Pending) (sent : List Sent) → Once q.drawing.shape q sent → AllHaveOrders sent
of_once q sent (inl none) = subst AllHaveOrders (sym none) tt
of_once q sent (inr one) =
    subst AllHaveOrders (sym one.1) (subst (λ (p : Pending). HasOrder p.drawing.shape) one.2 one.3, tt)

walked_have : (size : Size) (c : Confirmed) (w : Walk) (o : Option Pending) → AllHaveOrders (walked_as size c w o).sent
walked_have size c w None = tt
walked_have size c w (Some q) = of_once q (walked size c w q q.drawing.shape).sent (once size c w q q.drawing.shape)

sent_have : (size : Size) (c : Confirmed) (ps : List Pending) (w : Walk) → AllHaveOrders (sent_from size c w ps)
sent_have size c [] w = tt
sent_have size c (p ∷ ps) w =
    have_append (walked_pending size c w p).sent (sent_from size c (walked_pending size c w p).walk ps) (walked_have size c w (as_walked size c p))
    (sent_have size c ps (walked_pending size c w p).walk)

-- ---- orders

drawn_append : (xs ys : List SentOrder) → drawn_orders (xs ++ ys) ≡ drawn_orders xs ++ drawn_orders ys
drawn_append [] ys = refl
drawn_append (Drawn touched d bounds ∷ xs) ys = ap (λ (l : List SentOrder). Drawn touched d bounds ∷ l) (drawn_append xs ys)
drawn_append (CacheImage cache index image ∷ xs) ys = drawn_append xs ys
drawn_append (CacheGlyph cache index glyph ∷ xs) ys = drawn_append xs ys
drawn_append (CacheBrush entry brush ∷ xs) ys = drawn_append xs ys
drawn_append (FrameMarker ends ∷ xs) ys = drawn_append xs ys

-- cache orders draw nothing
none_drawn : (d : NamedDrawing) (os : List SentOrder) → AreUsedBy d os → drawn_orders os ≡ []
none_drawn d [] h = refl
none_drawn d (Drawn touched other bounds ∷ os) h = absurd h.0
none_drawn d (CacheImage cache index image ∷ os) h = none_drawn d os h.1
none_drawn d (CacheGlyph cache index glyph ∷ os) h = none_drawn d os h.1
none_drawn d (CacheBrush entry brush ∷ os) h = none_drawn d os h.1
none_drawn d (FrameMarker ends ∷ os) h = absurd h.0

used_append : (d : NamedDrawing) (xs ys : List SentOrder) → AreUsedBy d xs → AreUsedBy d ys → AreUsedBy d (xs ++ ys)
used_append d [] ys h k = k
used_append d (x ∷ xs) ys h k = (h.0, used_append d xs ys h.1 k)

use_used : (d : NamedDrawing) (b : Bool) (index : ℕ) (uses : Uses) (content : ℕ → SentOrder) → IsUsedBy d (content index)
    → AreUsedBy d (use_by b index uses content).orders
use_used d true index uses content h = (h, tt)
use_used d false index uses content h = tt

image_used : (d : NamedDrawing) (c : Confirmed) (uses : Uses) (cache : ℕ) (o : Option (Loaded ImageOf)) → NamesImage d cache (image_use c uses cache o).index
    → AreUsedBy d (image_use c uses cache o).orders
image_used d c uses cache None h = tt
image_used d c uses cache (Some image) h =
    let content : ℕ → SentOrder = λ index. CacheImage cache index image.content in
    use_used d (misses (entries_of c cache) (uses_of cache uses) image.number) (cache_index (entries_of c cache) (uses_of cache uses) image.number)
    ((cache, image.number) ∷ uses) content (subst (NamesImage d cache) (index_is c uses cache image.number content) h)

brush_used : (d : NamedDrawing) (c : Confirmed) (uses : Uses) (o : Option (Loaded (List ℕ))) → NamesBrush d (brush_use c uses o).index
    → AreUsedBy d (brush_use c uses o).orders
brush_used d c uses None h = tt
brush_used d c uses (Some brush) h =
    let content : ℕ → SentOrder = λ index. CacheBrush index brush.content in
    use_used d (misses (entries_of c brush_cache) (uses_of brush_cache uses) brush.number)
    (cache_index (entries_of c brush_cache) (uses_of brush_cache uses) brush.number) ((brush_cache, brush.number) ∷ uses) content
    (subst (NamesBrush d) (index_is c uses brush_cache brush.number content) h)

run_used : (d : NamedDrawing) (c : Confirmed) (cache : ℕ) → NamesGlyphs d cache → (gs : List (Loaded GlyphOf)) (uses : Uses)
    → AreUsedBy d (run_use c uses cache gs).orders
run_used d c cache h [] uses = tt
run_used d c cache h (g ∷ gs) uses =
    let n = first_glyph_cache + cache in
    let past = uses_of n uses in
    let u = glyph_use c uses cache g in
    used_append d u.orders (run_use c u.uses cache gs).orders
    (use_used d (misses (entries_of c n) past g.number) (cache_index (entries_of c n) past g.number) ((n, g.number) ∷ uses)
    (λ index. CacheGlyph cache index g.content) h)
    (run_used d c cache h gs u.uses)

-- what a drawing sends has one order that draws, the last one
record Sends (s : Sent) (shape : Shape) (orders : List SentOrder) : Type 0 where
  caches : List SentOrder
  touched : Rect
  drawing : NamedDrawing
  bounds : Option Rect
  are : orders ≡ caches ++ Drawn touched drawing bounds ∷ []
  used : AreUsedBy drawing caches
  draws : IsOrderOf s shape drawing

alone : (s : Sent) (shape : Shape) (touched : Rect) (drawing : NamedDrawing) (bounds : Option Rect) → IsOrderOf s shape drawing
    → Sends s shape (Drawn touched drawing bounds ∷ [])
alone s shape touched drawing bounds h =
    record { caches = []; touched = touched; drawing = drawing; bounds = bounds; are = refl; used = tt; draws = h }

module _ (c : Confirmed) where
  sends : (uses : Uses) (s : Sent) (clip : Option Rect) (shape : Shape) → HasOrder shape → Sends s shape (sending_by c uses s clip shape).orders
  sends uses s clip (Fill r color) h = alone s (Fill r color) r (OpaqueRect r color) (bounds_of r clip) refl
  sends uses s clip (Dst r code) h = alone s (Dst r code) r (DstBlt r code) (bounds_of r clip) refl
  sends uses s clip (Pat r code brush) h =
      let b = brush_use c uses s.pending.brush in
      record {
        caches = b.orders;
        touched = r;
        drawing = PatBlt r code b.index;
        bounds = bounds_of r clip;
        are = refl;
        used = brush_used (PatBlt r code b.index) c uses s.pending.brush refl;
        draws = (b.index, refl);
      }
  sends uses s clip (Copy r code sx sy) h = alone s (Copy r code sx sy) r (ScrBlt r code sx sy) (bounds_of r clip) refl
  sends uses s clip (Blit r code image sx sy) h =
      let cache = or_0 (image_cache c s.pending.image) in
      let i = image_use c uses cache s.pending.image in
      record {
        caches = i.orders;
        touched = r;
        drawing = MemBlt cache i.index r code sx sy;
        bounds = bounds_of r clip;
        are = refl;
        used = image_used (MemBlt cache i.index r code sx sy) c uses cache s.pending.image (refl, refl);
        draws = (cache, i.index, refl);
      }
  sends uses s clip (Blit3 r code image sx sy brush) h =
      let cache = or_0 (image_cache c s.pending.image) in
      let i = image_use c uses cache s.pending.image in
      let b = brush_use c i.uses s.pending.brush in
      let d = Mem3Blt cache i.index r code sx sy b.index in
      record {
        caches = i.orders ++ b.orders;
        touched = r;
        drawing = d;
        bounds = bounds_of r clip;
        are = sym (append_assoc i.orders b.orders (Drawn r d (bounds_of r clip) ∷ []));
        used = used_append d i.orders b.orders (image_used d c uses cache s.pending.image (refl, refl)) (brush_used d c i.uses s.pending.brush refl);
        draws = (cache, i.index, b.index, refl);
      }
  sends uses s clip (Text x y color font run) h =
      let cache = or_0 (run_cache c s.pending.glyphs) in
      let g = run_use c uses cache s.pending.glyphs in
      let d = GlyphIndex cache x y color (run_pairs g.indices run) in
      record {
        caches = g.orders;
        touched = s.pending.rect;
        drawing = d;
        bounds = bounds_of s.pending.rect clip;
        are = refl;
        used = run_used d c cache refl s.pending.glyphs uses;
        draws = (cache, run_pairs g.indices run, refl);
      }
  sends uses s clip (Line x0 y0 x1 y1 color) h = absurd h
  sends uses s clip (Save slot r) h = alone s (Save slot r) r (SaveBlock s.position r) None refl
  sends uses s clip (Restore slot x y) h = alone s (Restore slot x y) s.pending.rect (RestoreBlock s.position s.pending.rect) None refl
  sends uses s clip (LoadImage slot image) h = absurd h
  sends uses s clip (LoadBrush slot brush) h = absurd h
  sends uses s clip (LoadGlyph font code glyph) h = absurd h

  each_ends : (ss : List Sent) (uses : Uses) → AllHaveOrders ss → EachEndsWithItsOrder c uses ss
  each_ends [] uses h = tt
  each_ends (s ∷ ss) uses h =
      let x = sends uses s s.pending.drawing.clip s.pending.drawing.shape h.0 in (
        record { caches = x.caches; touched = x.touched; drawing = x.drawing; bounds = x.bounds; are = x.are; used = x.used; draws = x.draws },
        each_ends ss (sending_of c uses s).uses h.1,
      )

  drawn_as : (ss : List Sent) (uses : Uses) → EachEndsWithItsOrder c uses ss → AreDrawnAs ss (drawn_orders (orders_from c uses ss))
  drawn_as [] uses h = tt
  drawn_as (s ∷ ss) uses h =
      let x = h.0 in
      let next = (sending_of c uses s).uses in
      let own = (sending_of c uses s).orders in
      let last : List SentOrder = Drawn x.touched x.drawing x.bounds ∷ [] in
      let one : drawn_orders own ≡ last = ap drawn_orders x.are ∙ (drawn_append x.caches last
      ∙ ap (λ (l : List SentOrder). l ++ last) (none_drawn x.drawing x.caches x.used)) in
      subst (λ (l : List SentOrder). AreDrawnAs (s ∷ ss) l)
      (sym (drawn_append own (orders_from c next ss) ∙ ap (λ (l : List SentOrder). l ++ drawn_orders (orders_from c next ss)) one))
      (x.draws, drawn_as ss next h.1)

  pub sent_end : (size : Size) (w : Walk) (ps : List Pending) (uses : Uses) → EachEndsWithItsOrder c uses (sent_from size c w ps)
  sent_end size w ps uses = each_ends (sent_from size c w ps) uses (sent_have size c ps w)

  pub sent_drawn : (size : Size) (w : Walk) (ps : List Pending) (uses : Uses)
      → AreDrawnAs (sent_from size c w ps) (drawn_orders (orders_from c uses (sent_from size c w ps)))
  sent_drawn size w ps uses = drawn_as (sent_from size c w ps) uses (sent_end size w ps uses)

  -- ---- a frame

  pub frame_drawn : (size : Size) (first : Bool) (held : Held) (asked : Tiles) (picture : List ℕ) (ps : List Pending) (uses : Uses)
      → AreDrawnAs (frame_over size c first held asked picture ps).sent (drawn_orders (orders_from c uses (frame_over size c first held asked picture ps).sent))
  frame_drawn size first held asked picture ps uses = by (nat_lt most_orders (length ps))
    where
      w : Walk
      w = record { dirty = first_dirty size first c; held = held }

      by : (jump : Bool) → AreDrawnAs (framed_by jump size c first w asked picture ps).sent
          (drawn_orders (orders_from c uses (framed_by jump size c first w asked picture ps).sent))
      by true = tt
      by false = sent_drawn size w ps uses

  pub frame_ends : (size : Size) (first : Bool) (held : Held) (asked : Tiles) (picture : List ℕ) (ps : List Pending) (uses : Uses)
      → EachEndsWithItsOrder c uses (frame_over size c first held asked picture ps).sent
  frame_ends size first held asked picture ps uses = by (nat_lt most_orders (length ps))
    where
      w : Walk
      w = record { dirty = first_dirty size first c; held = held }

      by : (jump : Bool) → EachEndsWithItsOrder c uses (framed_by jump size c first w asked picture ps).sent
      by true = tt
      by false = sent_end size w ps uses

  start_draws_nothing : (b : Bool) → drawn_orders (start_orders b) ≡ []
  start_draws_nothing true = refl
  start_draws_nothing false = refl

  black_draws : (size : Size) (b : Bool) → drawn_orders (black_orders size b) ≡ black_orders size b
  black_draws size true = refl
  black_draws size false = refl

  pub whole_drawn : (size : Size) (uses : Uses) (f : FrameOf)
      → drawn_orders (orders_before_tiles size c uses f) ≡ black_orders size (f.first && c.pat) ++ drawn_orders (orders_from c uses f.sent)
  whole_drawn size uses f =
      let black = black_orders size (f.first && c.pat) in
      let sent = orders_from c uses f.sent in
      drawn_append (start_orders c.marker) (black ++ sent)
      ∙ (ap (λ (l : List SentOrder). l ++ drawn_orders (black ++ sent)) (start_draws_nothing c.marker)
      ∙ (drawn_append black sent ∙ ap (λ (l : List SentOrder). l ++ drawn_orders sent) (black_draws size (f.first && c.pat))))
