-- Each drawing that is sent is obeyed, and session and client agree after it: all nine shapes that have an order.
use Rattle.std.proofs.Common.{◌≡◌, ℕ, suc, ◌+◌, ◌-◌, ◌*◌, ◌^◌, ◌<◌, ◌≤◌, List, [], ◌∷◌, ◌++◌, length, map, refl, ap, sym, ◌∙◌, subst, arith, Some, None, fold}
use Rattle.std.specs.Prelude.{Bool, true, false, not, ◌&&◌, nat_le, max, Option, is_some, ⊤, ℤ, Ok, Result, Err, if◌then◌else◌}
use Rattle.std.proofs.lemmas.Bool.{and_parts}
use Rattle.std.proofs.lemmas.Bool.Decides.{nat_tests}
use Rattle.px_core.specs.declared.surface.Size.{Size}
use Rattle.px_core.specs.declared.rectangle.Rect.{Rect}
use Rattle.px_core.specs.Rectangle.{boxed, has_pixel, is_inside}
use Rattle.px_core.specs.Tiles.{tiles_of, share_tile}
use Rattle.draw_ops.specs.declared.shape.Drawing.{Drawing}
use Rattle.draw_ops.specs.declared.shape.Shape.{Shape}
use Rattle.draw_ops.specs.declared.shape.Shape.TheVariants.{Fill, Dst, Pat, Copy, Blit, Blit3, Text, Line, Save, Restore, LoadImage, LoadBrush, LoadGlyph}
use Rattle.draw_ops.specs.Content.{ImageOf, GlyphOf}
use Rattle.draw_ops.specs.Slots.{SurfaceState, Loaded, lookup}
use Rattle.draw_ops.specs.Drawing.{state_after_drawing}
use Rattle.caps_sets.specs.declared.cache_size.CacheSize.{CacheSize}
use Rattle.caps_sets.specs.declared.confirmed.Confirmed.{Confirmed}
use Rattle.caps_sets.specs.Confirmed.{cache_size, first_cache_from, first_cache, depth_of}
use Rattle.session_rules.specs.declared.entry.Entry.{Entry}
use Rattle.wire_num.specs.Field.{bind}
use Rattle.order_means.specs.KeptContent.{kept_image, glyph_cell_bytes}
use Rattle.draw_ops.specs.Formulas.{Painting}
use Rattle.draw_ops.specs.Drawing.{painting_of, restoring}
use Rattle.px_core.specs.Depth.{shown_colors}
use Rattle.order_fields.specs.OrderTable.{Edges}
use Rattle.order_fields.specs.OrderDelta.{edges_of_optional}
use Rattle.order_fields.specs.NamedDrawing.{NamedDrawing, drawing_of, drawing_fields}
use Rattle.order_fields.specs.NamedDrawing.NamedDrawing.{Dst as DstBlt, Pat as PatBlt, Scr as ScrBlt, Opaque as OpaqueRect, SaveBlock, RestoreBlock, Mem as MemBlt, Mem3 as Mem3Blt, Glyphs as GlyphIndex}
use Rattle.order_means.specs.ClientState.{ClientState, Fault, needs, found, cached, block_at, pairs_of, with_glyphs, brush_used, image_used, glyph_used}
use Rattle.order_means.specs.ClientState.{after_painting, client_after_drawing, client_after_order, source_rect}
use Rattle.order_means.specs.ClientState.Fault.{Broken}
use Rattle.frame_rules.specs.Blocks.{Place, placed, positions_of, least_free, place_of, without_slot}
use Rattle.session_rules.specs.Pending.{Pending, pending_of, run_glyphs, onto_optional}
use Rattle.frame_rules.specs.Support.{supports, serves_image, serves_run, has_glyph_level, image_cache, run_cache, used_glyph_entries, greatest_cell}
use Rattle.frame_rules.specs.Support.{distinct_loads}
use Rattle.frame_rules.specs.Frame.{Walk, Sent, sent_if, saved_at, saved_if, given_up, with_block, restored_from, block_if, reads_clean_tiles, walked}
use Rattle.frame_rules.specs.FrameOrders.{Uses, or_0, sending_of, entries_of, first_glyph_cache, brush_cache, bounds_of, image_use, brush_use, run_use}
use Rattle.frame_rules.specs.FrameOrders.{run_pairs}
use Rattle.frame_rules.specs.FrameOrders.SentOrder.{Drawn}
use Rattle.frame_rules.specs.FrameRead.{as_read}
use Rattle.frame_rules.specs.Describes.{image_loaded, brush_loaded, glyph_loaded, CachesAgree, IsSized, HasAllCaches, index_of}
use Rattle.frame_laws.specs.Agreement.{Agrees, ObeyedAndAgrees, drawn}
use Rattle.frame_laws.proofs.Sent.{fill_agrees, dst_agrees, copy_agrees}
use Rattle.frame_laws.proofs.SentSave.{save_agrees}
use Rattle.frame_laws.proofs.SentRestore.{restore_agrees}
use Rattle.frame_laws.specs.Sound.{IsSoundImage}
use Rattle.frame_laws.specs.Uses.{client_after_sent, ObeyedThrough, IsServed}
use Rattle.frame_laws.proofs.BlitSent.{blit_agrees}
use Rattle.frame_laws.proofs.BrushUse.{pat_agrees, blit3_agrees}
use Rattle.frame_laws.specs.Run.{AreServed}
use Rattle.frame_laws.specs.Drawings.{HasValues}
use Rattle.frame_laws.proofs.GlyphUse.{glyph_entries}
use Rattle.frame_laws.specs.Run.{AreGlyphs, AreDeltas}
use Rattle.frame_laws.proofs.TextSent.{text_agrees}

-- ---- which cache serves

pub first_serves : (serves : CacheSize → Bool) (sizes : List CacheSize) (from k : ℕ) → first_cache_from from serves sizes ≡ Some k
    → (from ≤ k) × (k < from + length sizes) × (serves (cache_size sizes (k - from)) ≡ true)
first_serves serves [] from k e = absurd (cc e)
first_serves serves (s ∷ ss) from k e = by (serves s) refl e (λ more. first_serves serves ss (from + 1) k more)
  where
    by : (b : Bool) → serves s ≡ b → (if b then Some from else first_cache_from (from + 1) serves ss) ≡ Some k
        → (first_cache_from (from + 1) serves ss ≡ Some k → (from + 1 ≤ k) × (k < (from + 1) + length ss) × (serves (cache_size ss (k - (from + 1))) ≡ true))
        → (from ≤ k) × (k < from + length (s ∷ ss)) × (serves (cache_size (s ∷ ss) (k - from)) ≡ true)
    by true t h rest =
        let same : from ≡ k = cc h in
        let none : k - from ≡ 0 = omega (arith, same) in
        (omega (arith, same), omega (arith, same), ap (λ n. serves (cache_size (s ∷ ss) n)) none ∙ t)
    by false t h rest =
        let r = rest h in
        let least = r.0 in
        let below = r.1 in
        let next : k - from ≡ suc (k - (from + 1)) = omega (arith, least) in
        (omega (arith, least), omega (arith, below), ap (λ n. serves (cache_size (s ∷ ss) n)) next ∙ r.2)

-- the cache that a test found
pub some_cache : (o : Option ℕ) → is_some o ≡ true → (k : ℕ) × (o ≡ Some k)
some_cache None e = absurd (cc e)
some_cache (Some k) e = (k, refl)

-- ---- what a fitting drawing has

pub record HasImage (size : Size) (j : List Entry) (st : SurfaceState) (slot : ℕ) (source : Rect) : Type 0 where
  pub image : Loaded ImageOf
  pub held : lookup slot st.images ≡ Some image
  pub sound : IsSoundImage image.content
  pub loaded : image_loaded size j image.number ≡ Some image.content
  pub inside : is_inside (record { w = image.content.w; h = image.content.h }) source ≡ true

pub record HasBrush (size : Size) (j : List Entry) (st : SurfaceState) (slot : ℕ) : Type 0 where
  pub brush : Loaded (List ℕ)
  pub held : lookup slot st.brushes ≡ Some brush
  pub whole : length brush.content ≡ 64
  pub loaded : brush_loaded size j brush.number ≡ Some brush.content

abbrev pub AreLoaded : Size → List Entry → List (Loaded GlyphOf) → Type 0
AreLoaded size j [] = ⊤
AreLoaded size j (g ∷ gs) = (glyph_loaded size j g.number ≡ Some g.content) × AreLoaded size j gs

pub record HasGlyphs (size : Size) (j : List Entry) (st : SurfaceState) (font : ℕ) (run : List (ℕ × ℕ)) : Type 0 where
  pub glyphs : List (Loaded GlyphOf)
  pub held : AreGlyphs st font run glyphs
  pub some : 0 < length glyphs
  pub deltas : AreDeltas run
  pub loaded : AreLoaded size j glyphs

pub record HasBlock (size : Size) (st : SurfaceState) (slot : ℕ) (x y : ℤ) (clip : Option Rect) : Type 0 where
  pub block : ImageOf
  pub held : lookup slot st.blocks ≡ Some block
  pub whole : length block.pixels ≡ block.w * block.h
  pub some : has_pixel (boxed x y block.w block.h) ≡ true
  pub inside : is_inside size (boxed x y block.w block.h) ≡ true
  pub unclipped : clip ≡ None

abbrev pub GoodShape : Size → List Entry → SurfaceState → Option Rect → Shape → Type 0
GoodShape size j st clip (Fill r color) = has_pixel r ≡ true
GoodShape size j st clip (Dst r code) = has_pixel r ≡ true
GoodShape size j st clip (Pat r code brush) = (has_pixel r ≡ true) × HasBrush size j st brush
GoodShape size j st clip (Copy r code sx sy) = (has_pixel r ≡ true) × (is_inside size (boxed sx sy r.w r.h) ≡ true)
GoodShape size j st clip (Blit r code image sx sy) = (has_pixel r ≡ true) × HasImage size j st image (source_rect r sx sy)
GoodShape size j st clip (Blit3 r code image sx sy brush) = (has_pixel r ≡ true) × HasImage size j st image (source_rect r sx sy) × HasBrush size j st brush
GoodShape size j st clip (Text x y color font run) = HasGlyphs size j st font run
GoodShape size j st clip (Line x0 y0 x1 y1 color) = ⊤
GoodShape size j st clip (Save slot r) = (has_pixel r ≡ true) × (is_inside size r ≡ true) × (slot < length st.blocks)
GoodShape size j st clip (Restore slot x y) = HasBlock size st slot x y clip
GoodShape size j st clip (LoadImage slot image) = ⊤
GoodShape size j st clip (LoadBrush slot brush) = ⊤
GoodShape size j st clip (LoadGlyph font code glyph) = ⊤

abbrev pub Good : Size → List Entry → SurfaceState → Drawing → Type 0
Good size j st d = GoodShape size j st d.clip d.shape

-- ---- what was sent

abbrev first_or : Sent → List Sent → Sent
first_or x [] = x
first_or x (y ∷ ys) = y

pub only_one : (a b : Sent) → a ∷ [] ≡ b ∷ [] → b ≡ a
only_one a b e = sym (ap (λ l. first_or a l) e)

-- a drawing that was sent passed its test
pub record Passed (b : Bool) (size : Size) (w : Walk) (p : Pending) (s : Sent) : Type 0 where
  pub test : b ≡ true
  pub is : s ≡ record { pending = p; position = 0 }
  pub walk : (sent_if b size w p).walk ≡ w

pub passed : (b : Bool) (size : Size) (w : Walk) (p : Pending) (s : Sent) → (sent_if b size w p).sent ≡ s ∷ [] → Passed b size w p s
passed true size w p s e = record { test = refl; is = only_one _ s e; walk = refl }
passed false size w p s e = absurd (cc e)

-- ---- an order that draws leaves the depth and the caches

pub record CachesKept (client x : ClientState) : Type 0 where
  pub depth : x.depth ≡ client.depth
  pub images : x.images ≡ client.images
  pub glyphs : x.glyphs ≡ client.glyphs
  pub brushes : x.brushes ≡ client.brushes

abbrev Made : Type 0
Made = Result ClientState Fault

abbrev KeepsAll : ClientState → Made → Type 0
KeepsAll client r = (x : ClientState) → r ≡ Ok x → CachesKept client x

abbrev or_made : ClientState → Made → ClientState
or_made y (Ok x) = x
or_made y (Err fault) = y

ok_keeps : (client y : ClientState) → CachesKept client y → KeepsAll client (Ok y)
ok_keeps client y k x e = subst (CachesKept client) (ap (or_made y) e) k

needs_keeps : (client : ClientState) (test : Bool) (fault : Fault) (r : Made) → KeepsAll client r → KeepsAll client (needs test fault r)
needs_keeps client true fault r k x e = k x e
needs_keeps client false fault r k x e = absurd (cc e)

bind_keeps : {A : Type 0} (client : ClientState) (r : Result A Fault) (f : A → Made) → ((a : A) → KeepsAll client (f a)) → KeepsAll client (bind r f)
bind_keeps client (Ok a) f k x e = k a x e
bind_keeps client (Err fault) f k x e = absurd (cc e)

glyphs_keep : (client : ClientState) (glyph : ℕ → Result GlyphOf Fault) (ps : List (ℕ × ℕ)) (r : Made) → KeepsAll client r
    → KeepsAll client (with_glyphs glyph ps r)
glyphs_keep client glyph [] r k = k
glyphs_keep client glyph (p ∷ ps) r k = bind_keeps client (glyph p.0) (λ _. with_glyphs glyph ps r) (λ a. glyphs_keep client glyph ps r k)

painted_keeps : (size : Size) (bounds : Option Edges) (p : Painting (Option ℕ)) (client : ClientState)
    → KeepsAll client (Ok (after_painting size bounds p client))
painted_keeps size bounds p client = ok_keeps client (after_painting size bounds p client) (record { depth = refl; images = refl; glyphs = refl; brushes = refl })

drawing_keeps : (c : Confirmed) (size : Size) (bounds : Option Edges) (client : ClientState) (d : NamedDrawing)
    → KeepsAll client (client_after_drawing c size bounds client d)
drawing_keeps c size bounds client (DstBlt r code) = painted_keeps size bounds _ client
drawing_keeps c size bounds client (PatBlt r code entry) = bind_keeps client (brush_used c client entry) _ (λ brush. painted_keeps size bounds _ client)
drawing_keeps c size bounds client (ScrBlt r code sx sy) = needs_keeps client _ _ _ (painted_keeps size bounds _ client)
drawing_keeps c size bounds client (OpaqueRect r color) = painted_keeps size bounds _ client
drawing_keeps c size bounds client (SaveBlock position r) =
    needs_keeps client _ _ _ (ok_keeps client _ (record { depth = refl; images = refl; glyphs = refl; brushes = refl }))
drawing_keeps c size bounds client (RestoreBlock position r) =
    needs_keeps client _ _ _ (bind_keeps client (found (block_at position r.w r.h client.blocks) Broken) _ (λ b. painted_keeps size bounds _ client))
drawing_keeps c size bounds client (MemBlt cache index r code sx sy) =
    bind_keeps client (image_used c client cache index (source_rect r sx sy)) _ (λ image. painted_keeps size bounds _ client)
drawing_keeps c size bounds client (Mem3Blt cache index r code sx sy entry) = bind_keeps client (image_used c client cache index (source_rect r sx sy)) _
    (λ image. bind_keeps client (brush_used c client entry) _ (λ brush. painted_keeps size bounds _ client))
drawing_keeps c size bounds client (GlyphIndex cache x y color run) = needs_keeps client _ _ _
    (bind_keeps client (found (pairs_of run) Broken) _ (λ pairs. glyphs_keep client (glyph_used c client cache) pairs _ (painted_keeps size bounds _ client)))

order_keeps : (c : Confirmed) (size : Size) (client : ClientState) (touched : Rect) (d : NamedDrawing) (bounds : Option Rect)
    → KeepsAll client (client_after_order c size client (as_read c (Drawn touched d bounds)))
order_keeps c size client touched d bounds = bind_keeps client (found (drawing_of client.depth (drawing_fields (depth_of c) touched d)) Broken) _
    (λ n. drawing_keeps c size (edges_of_optional bounds) client n)

-- ---- runs

pub glyphs_are : (st : SurfaceState) (font : ℕ) (run : List (ℕ × ℕ)) (gs : List (Loaded GlyphOf)) → AreGlyphs st font run gs
    → run_glyphs st.glyphs font run ≡ gs
glyphs_are st font [] [] h = refl
glyphs_are st font [] (g ∷ gs) h = absurd h
glyphs_are st font (p ∷ ps) [] h = absurd h
glyphs_are st font (p ∷ ps) (g ∷ gs) h = ap (λ o. onto_optional o (run_glyphs st.glyphs font ps)) h.0 ∙ ap (λ l. g ∷ l) (glyphs_are st font ps gs h.1)

pub some_keys : (gs : List (Loaded GlyphOf)) → 0 < length gs → 1 ≤ distinct_loads gs
some_keys [] h = absurd (omega (arith, h))
some_keys (g ∷ gs) h = omega arith

abbrev AllBelow : ℕ → List (Loaded GlyphOf) → Type 0
AllBelow n [] = ⊤
AllBelow n (g ∷ gs) = (glyph_cell_bytes g.content ≤ n) × AllBelow n gs

fold_least : (acc : ℕ) (xs : List ℕ) → acc ≤ fold max acc xs
fold_least acc [] = omega arith
fold_least acc (x ∷ xs) = let more = fold_least (max acc x) xs in omega (arith, more)

below_fold : (acc : ℕ) (gs : List (Loaded GlyphOf)) (n : ℕ) → fold max acc (map (λ g. glyph_cell_bytes g.content) gs) ≤ n → AllBelow n gs
below_fold acc [] n h = tt
below_fold acc (g ∷ gs) n h =
    let least = fold_least (max acc (glyph_cell_bytes g.content)) (map (λ g. glyph_cell_bytes g.content) gs) in
    (omega (arith, least, h), below_fold (max acc (glyph_cell_bytes g.content)) gs n h)

cells_below : (gs : List (Loaded GlyphOf)) → AllBelow (greatest_cell gs) gs
cells_below gs = below_fold 0 gs (greatest_cell gs) (omega arith)

-- where a block is put back
abbrev painted_rect : Option ImageOf → ℤ → ℤ → Rect
painted_rect o x y = (restoring o x y).rect

-- ---- an order without a cache

module _ (size : Size) (c : Confirmed) (j : List Entry) where
  plainly : (st : SurfaceState) (w : Walk) (uses : Uses) (client : ClientState) (touched : Rect) (n : NamedDrawing) (bounds : Option Rect)
      → ObeyedAndAgrees c size st w client (Drawn touched n bounds) → CachesAgree size c j uses client → IsSized c client
      → ObeyedThrough size c j st w uses client (Drawn touched n bounds ∷ [])
  plainly st w uses client touched n bounds h k z =
      let keeps = order_keeps c size client touched n bounds h.after h.obeys in
      record {
        after = h.after;
        obeys = ap (λ r. bind r (λ d. client_after_sent c size d [])) h.obeys;
        agrees = h.agrees;
        caches = record {
          images = λ cache key few held. let x = k.images cache key few held in (
            x.0,
            x.1,
            ap (cached cache (index_of c uses cache key)) keeps.images ∙ (x.2 ∙ ap (λ d. Some (kept_image d x.0)) (sym keeps.depth)),
          );
          glyphs = λ cache key few held. let x = k.glyphs cache key few held in
              (x.0, x.1, ap (cached cache (index_of c uses (first_glyph_cache + cache) key)) keeps.glyphs ∙ x.2);
          brushes = λ key held. let x = k.brushes key held in (
            x.0,
            x.1,
            ap (lookup (index_of c uses brush_cache key)) keeps.brushes ∙ (x.2 ∙ ap (λ d. Some (shown_colors d x.0)) (sym keeps.depth)),
          );
        };
        sized = record {
          depth = keeps.depth ∙ z.depth;
          images = ap (map length) keeps.images ∙ z.images;
          glyphs = ap (map length) keeps.glyphs ∙ z.glyphs;
          brushes = ap length keeps.brushes
              ∙ z.brushes;
        };
      }

  -- a drawing that was sent is obeyed, with the walk after it
  abbrev SentObeys : SurfaceState → Walk → Uses → ClientState → Option Rect → Shape → Walk → Sent → Type 0
  SentObeys st w uses client clip s next sent = ObeyedThrough size c j (state_after_drawing size st (drawn s clip)) next (sending_of c uses sent).uses client
      (sending_of c uses sent).orders

  -- a drawing that passed its test leaves the walk
  by_passing : (b : Bool) (st : SurfaceState) (w : Walk) (uses : Uses) (client : ClientState) (clip : Option Rect) (s : Shape) (sent : Sent)
      → Passed b size w (pending_of size st (drawn s clip)) sent
      → SentObeys st w uses client clip s w (record { pending = pending_of size st (drawn s clip); position = 0 })
      → SentObeys st w uses client clip s (sent_if b size w (pending_of size st (drawn s clip))).walk sent
  by_passing b st w uses client clip s sent p h =
      subst (λ next. SentObeys st w uses client clip s next sent) (sym p.walk) (subst (λ (x : Sent). SentObeys st w uses client clip s w x) (sym p.is) h)

  module _ (narrow : size.w ≤ 2048) (all : HasAllCaches c) where
    pub image_served : (st : SurfaceState) (slot : ℕ) (source : Rect) (h : HasImage size j st slot source)
        → is_some (image_cache c (lookup slot st.images)) ≡ true → (k : ℕ) × (image_cache c (lookup slot st.images) ≡ Some k) × IsServed size c j k h.image
    image_served st slot source h test =
        let k = some_cache (image_cache c (lookup slot st.images)) test in
        let found_ : first_cache (serves_image h.image.content) c.bitmaps ≡ Some k.0 = ap (image_cache c) (sym h.held) ∙ k.1 in
        let f = first_serves (serves_image h.image.content) c.bitmaps 0 k.0 found_ in
        let three = all.bitmaps in
        let below = f.1 in
        let same : k.0 - 0 ≡ k.0 = omega arith in (
          k.0,
          k.1,
          record {
            sound = h.sound;
            loaded = h.loaded;
            bitmap = omega (arith, below, three);
            serves = ap
                (λ n. serves_image h.image.content (cache_size c.bitmaps n)) (sym same) ∙ f.2;
          },
        )

    served : (cache : ℕ) (gs : List (Loaded GlyphOf)) (most : ℕ) → AreLoaded size j gs → AllBelow most gs → most ≤ (cache_size c.glyphs cache).cell
        → AreServed size c j cache gs
    served cache [] most h b cell = tt
    served cache (g ∷ gs) most h b cell = let one = b.0 in (record { loaded = h.0; cell = omega (arith, one, cell) }, served cache gs most h.1 b.1 cell)

    not_true : (b : Bool) → not b ≡ true → b ≡ false
    not_true true e = absurd (cc e)
    not_true false e = refl

    -- a save, by its test and its position
    save_by : (st : SurfaceState) (w : Walk) (uses : Uses) (client : ClientState) (clip : Option Rect) (slot : ℕ) (r : Rect) (sent : Sent)
        → GoodShape size j st clip (Save slot r) → (walked size c w (pending_of size st (drawn (Save slot r) clip)) (Save slot r)).sent ≡ sent ∷ []
        → Agrees size st w client → CachesAgree size c j uses client → IsSized c client
        → SentObeys st w uses client clip (Save slot r) (walked size c w (pending_of size st (drawn (Save slot r) clip)) (Save slot r)).walk sent
    save_by st w uses client clip slot r sent g e a k z =
        by_test (supports c (pending_of size st (drawn (Save slot r) clip)) (Save slot r) && reads_clean_tiles size w (Save slot r)) refl e
      where
        by_position : (o : Option ℕ) → least_free (positions_of r.w r.h) (without_slot slot w.held) ≡ o → share_tile size w.dirty (tiles_of size r) ≡ false
            → (saved_at size (given_up slot w) (pending_of size st (drawn (Save slot r) clip)) slot r o).sent ≡ sent ∷ []
            → SentObeys st w uses client clip (Save slot r) (saved_at size (given_up slot w) (pending_of size st (drawn (Save slot r) clip)) slot r o).walk sent
        by_position None least clean e = absurd (cc e)
        by_position (Some position) least clean e =
            let h = save_agrees size st w client slot r clip position c narrow z.depth g.0 g.1 g.2 clean least a in
            subst (λ (x : Sent). SentObeys st w uses client clip (Save slot r) (with_block slot (placed position r.w r.h) (given_up slot w)) x)
            (sym (only_one (record { pending = pending_of size st (drawn (Save slot r) clip); position = position }) sent e))
            (plainly _ (with_block slot (placed position r.w r.h) (given_up slot w)) uses client r (SaveBlock position r) None h k z)

        by_test : (b : Bool) → (supports c (pending_of size st (drawn (Save slot r) clip)) (Save slot r) && reads_clean_tiles size w (Save slot r)) ≡ b
            → (saved_if b size (given_up slot w) (pending_of size st (drawn (Save slot r) clip)) slot r).sent ≡ sent ∷ []
            → SentObeys st w uses client clip (Save slot r) (saved_if b size (given_up slot w) (pending_of size st (drawn (Save slot r) clip)) slot r).walk sent
        by_test false t e = absurd (cc e)
        by_test true t e = by_position (least_free (positions_of r.w r.h) (without_slot slot w.held)) refl
            (not_true (share_tile size w.dirty (tiles_of size r))
            (and_parts (supports c (pending_of size st (drawn (Save slot r) clip)) (Save slot r)) (reads_clean_tiles size w (Save slot r)) t).1) e

    -- a restore, by its test and its place
    restore_by : (st : SurfaceState) (w : Walk) (uses : Uses) (client : ClientState) (clip : Option Rect) (slot : ℕ) (x y : ℤ) (sent : Sent)
        → GoodShape size j st clip (Restore slot x y) → (walked size c w (pending_of size st (drawn (Restore slot x y) clip)) (Restore slot x y)).sent
        ≡ sent ∷ []
        → Agrees size st w client → CachesAgree size c j uses client → IsSized c client
        → SentObeys st w uses client clip (Restore slot x y) (walked size c w (pending_of size st (drawn (Restore slot x y) clip)) (Restore slot x y)).walk sent
    restore_by st w uses client clip slot x y sent g e a k z =
        by_test (supports c (pending_of size st (drawn (Restore slot x y) clip)) (Restore slot x y)) e
      where
        by_place : (o : Option Place) → place_of slot w.held ≡ o → (restored_from size w (pending_of size st (drawn (Restore slot x y) clip)) o).sent
            ≡ sent ∷ []
            → SentObeys st w uses client clip (Restore slot x y) (restored_from size w (pending_of size st (drawn (Restore slot x y) clip)) o).walk sent
        by_place None held e = absurd (cc e)
        by_place (Some place) held e =
            let b = a.blocks slot place held in
            let same : b.0 ≡ g.block = cc (sym b.1 ∙ g.held) in
            let wide : place.w ≡ g.block.w = sym b.2 ∙ ap (λ i. i.w) same in
            let high : place.h ≡ g.block.h = sym b.3 ∙ ap (λ i. i.h) same in
            let is : place ≡ placed place.position g.block.w g.block.h =
            ap (λ n. placed place.position n place.h) wide ∙ ap (λ n. placed place.position g.block.w n) high in
            let there : place_of slot w.held ≡ Some (placed place.position g.block.w g.block.h) = held ∙ ap Some is in
            let h = restore_agrees size st w client slot x y g.block c place.position z.depth g.held g.whole g.some g.inside there a in
            let area : Rect = boxed x y g.block.w g.block.h in
            let o : ObeyedThrough size c j (state_after_drawing size st (drawn (Restore slot x y) None)) w uses client
            (Drawn area (RestoreBlock place.position area) None ∷ []) = plainly _ w uses client area (RestoreBlock place.position area) None h k z in
            subst (λ (q : Sent). SentObeys st w uses client clip (Restore slot x y) w q)
            (sym (only_one (record { pending = pending_of size st (drawn (Restore slot x y) clip); position = place.position }) sent e))
            (subst (λ q. ObeyedThrough size c j (state_after_drawing size st (drawn (Restore slot x y) q)) w uses client
            (Drawn (painted_rect (lookup slot st.blocks) x y) (RestoreBlock place.position (painted_rect (lookup slot st.blocks) x y)) None ∷ []))
            (sym g.unclipped)
            (subst (λ q. ObeyedThrough size c j (state_after_drawing size st (drawn (Restore slot x y) None)) w uses client
            (Drawn (painted_rect q x y) (RestoreBlock place.position (painted_rect q x y)) None ∷ [])) (sym g.held) o))

        by_test : (b : Bool) → (restored_from size w (pending_of size st (drawn (Restore slot x y) clip)) (block_if b slot w)).sent ≡ sent ∷ []
            → SentObeys st w uses client clip (Restore slot x y)
            (restored_from size w (pending_of size st (drawn (Restore slot x y) clip)) (block_if b slot w)).walk sent
        by_test false e = absurd (cc e)
        by_test true e = by_place (place_of slot w.held) refl e

    -- a text, whose run a cache serves
    text_by : (st : SurfaceState) (w : Walk) (uses : Uses) (client : ClientState) (clip : Option Rect) (x y : ℤ) (color font : ℕ) (run : List (ℕ × ℕ))
        (sent : Sent) → color < 2 ^ 24 → GoodShape size j st clip (Text x y color font run)
        → (walked size c w (pending_of size st (drawn (Text x y color font run) clip)) (Text x y color font run)).sent ≡ sent ∷ []
        → Agrees size st w client → CachesAgree size c j uses client → IsSized c client
        → SentObeys st w uses client clip (Text x y color font run)
        (walked size c w (pending_of size st (drawn (Text x y color font run) clip)) (Text x y color font run)).walk sent
    text_by st w uses client clip x y color font run sent v g e a k z =
        let s = Text x y color font run in
        let p = pending_of size st (drawn s clip) in
        let t = passed (supports c p s) size w p sent e in
        let cache = some_cache (run_cache c (run_glyphs st.glyphs font run))
        (and_parts (c.glyph && has_glyph_level c.glyph_level) (is_some (run_cache c (run_glyphs st.glyphs font run)))
        (and_parts (not c.cautious) ((c.glyph && has_glyph_level c.glyph_level) && is_some (run_cache c (run_glyphs st.glyphs font run))) t.test).1).1 in
        let found_ : first_cache (serves_run g.glyphs) c.glyphs ≡ Some cache.0 = ap (run_cache c) (sym (glyphs_are st font run g.glyphs g.held)) ∙ cache.1 in
        let f = first_serves (serves_run g.glyphs) c.glyphs 0 cache.0 found_ in
        let ten = all.glyphs in
        let under = f.1 in
        let few : cache.0 < 10 = omega (arith, under, ten) in
        let back : cache.0 - 0 ≡ cache.0 = omega arith in
        let serves : serves_run g.glyphs (cache_size c.glyphs cache.0) ≡ true = ap (λ n. serves_run g.glyphs (cache_size c.glyphs n)) (sym back) ∙ f.2 in
        let tests = and_parts (nat_le (distinct_loads g.glyphs) (used_glyph_entries (cache_size c.glyphs cache.0)))
        (nat_le (greatest_cell g.glyphs) (cache_size c.glyphs cache.0).cell) serves in
        let t0 = tests.0 in
        let t1 = tests.1 in
        let enough : distinct_loads g.glyphs ≤ used_glyph_entries (cache_size c.glyphs cache.0) = grind (arith, nat_tests, t0) in
        let cell : greatest_cell g.glyphs ≤ (cache_size c.glyphs cache.0).cell = grind (arith, nat_tests, t1) in
        let entries : entries_of c (first_glyph_cache + cache.0) ≡ used_glyph_entries (cache_size c.glyphs cache.0) = glyph_entries c cache.0 few in
        let one = some_keys g.glyphs g.some in
        let some : 0 < entries_of c (first_glyph_cache + cache.0) = omega (arith, entries, enough, one) in
        by_passing (supports c p s) st w uses client clip s sent t
        (subst (λ gs. SentObeys st w uses client clip s w (record {
          pending = record {
            drawing = drawn s clip;
            rect =
                (painting_of size st s).rect;
            image = None;
            brush = None;
            glyphs = gs;
          };
          position = 0;
        })) (sym (glyphs_are st font run g.glyphs g.held))
        (subst (λ o. ObeyedThrough size c j (state_after_drawing size st (drawn s clip)) w (run_use c uses (or_0 o) g.glyphs).uses client
        ((run_use c uses (or_0 o) g.glyphs).orders ++ Drawn (painting_of size st s).rect
        (GlyphIndex (or_0 o) x y color (run_pairs (run_use c uses (or_0 o) g.glyphs).indices run)) (bounds_of (painting_of size st s).rect clip) ∷ []))
        (sym found_)
        (text_agrees size c j cache.0 few some all.glyphs st w client uses g.glyphs x y color font run clip v
        (served cache.0 g.glyphs (greatest_cell g.glyphs) g.loaded (cells_below g.glyphs) cell) g.held g.deltas (omega (arith, entries, enough)) a k z)))

    pub sent_by : (st : SurfaceState) (w : Walk) (uses : Uses) (client : ClientState) (clip : Option Rect) (s : Shape) (sent : Sent)
        → HasValues s → GoodShape size j st clip s → (walked size c w (pending_of size st (drawn s clip)) s).sent ≡ sent ∷ []
        → Agrees size st w client → CachesAgree size c j uses client → IsSized c client
        → SentObeys st w uses client clip s (walked size c w (pending_of size st (drawn s clip)) s).walk sent
    sent_by st w uses client clip (Fill r color) sent v g e a k z =
        let p = pending_of size st (drawn (Fill r color) clip) in
        by_passing (supports c p (Fill r color)) st w uses client clip (Fill r color) sent (passed (supports c p (Fill r color)) size w p sent e)
        (plainly _ w uses client r (OpaqueRect r color) (bounds_of r clip) (fill_agrees c size st w client r color clip z.depth v g a) k z)
    sent_by st w uses client clip (Dst r code) sent v g e a k z =
        let p = pending_of size st (drawn (Dst r code) clip) in
        by_passing (supports c p (Dst r code)) st w uses client clip (Dst r code) sent (passed (supports c p (Dst r code)) size w p sent e)
        (plainly _ w uses client r (DstBlt r code) (bounds_of r clip) (dst_agrees c size st w client r code clip z.depth g a) k z)
    sent_by st w uses client clip (Copy r code sx sy) sent v g e a k z =
        let p = pending_of size st (drawn (Copy r code sx sy) clip) in
        let b = supports c p (Copy r code sx sy) && reads_clean_tiles size w (Copy r code sx sy) in
        let t = passed b size w p sent e in
        let clean = (and_parts (supports c p (Copy r code sx sy)) (reads_clean_tiles size w (Copy r code sx sy)) t.test).1 in
        by_passing b st w uses client clip (Copy r code sx sy) sent t
        (plainly _ w uses client r (ScrBlt r code sx sy) (bounds_of r clip)
        (copy_agrees c size st w client r code sx sy clip narrow z.depth g.0 g.1
        (not_true (share_tile size w.dirty (tiles_of size (boxed sx sy r.w r.h))) clean) a) k z)
    sent_by st w uses client clip (Pat r code brush) sent v g e a k z =
        let p = pending_of size st (drawn (Pat r code brush) clip) in
        let h = g.1 in
        let t = passed (supports c p (Pat r code brush)) size w p sent e in
        let serves = (and_parts c.pat c.brush t.test).1 in
        by_passing (supports c p (Pat r code brush)) st w uses client clip (Pat r code brush) sent t
        (subst (λ o. SentObeys st w uses client clip (Pat r code brush) w
        (record { pending = record { drawing = drawn (Pat r code brush) clip; rect = r; image = None; brush = o; glyphs = [] }; position = 0 }))
        (sym h.held)
        (pat_agrees size c j st w client uses h.brush brush r code clip (record { whole = h.whole; loaded = h.loaded; serves = serves }) h.held g.0 a k z))
    sent_by st w uses client clip (Blit r code image sx sy) sent v g e a k z =
        let p = pending_of size st (drawn (Blit r code image sx sy) clip) in
        let h = g.1 in
        let t = passed (supports c p (Blit r code image sx sy)) size w p sent e in
        let i = image_served st image (source_rect r sx sy) h (and_parts c.mem (is_some (image_cache c (lookup image st.images))) t.test).1 in
        let there : image_cache c (Some h.image) ≡ Some i.0 = ap (image_cache c) (sym h.held) ∙ i.1 in
        by_passing (supports c p (Blit r code image sx sy)) st w uses client clip (Blit r code image sx sy) sent t
        (subst (λ o. SentObeys st w uses client clip (Blit r code image sx sy) w
        (record { pending = record { drawing = drawn (Blit r code image sx sy) clip; rect = r; image = o; brush = None; glyphs = [] }; position = 0 }))
        (sym h.held)
        (subst (λ o. ObeyedThrough size c j (state_after_drawing size st (drawn (Blit r code image sx sy) clip)) w
        (image_use c uses (or_0 o) (Some h.image)).uses client
        ((image_use c uses (or_0 o) (Some h.image)).orders ++ Drawn r (MemBlt (or_0 o) (image_use c uses (or_0 o) (Some h.image)).index r code sx sy)
        (bounds_of r clip) ∷ [])) (sym there)
        (blit_agrees size c j st w client uses i.0 h.image image r code sx sy clip i.2 all.bitmaps h.held g.0 h.inside a k z)))
    sent_by st w uses client clip (Blit3 r code image sx sy brush) sent v g e a k z =
        let p = pending_of size st (drawn (Blit3 r code image sx sy brush) clip) in
        let h = g.1 in
        let hb = g.2 in
        let t = passed (supports c p (Blit3 r code image sx sy brush)) size w p sent e in
        let tests = and_parts (is_some (image_cache c (lookup image st.images))) c.brush
        (and_parts c.mem3 (is_some (image_cache c (lookup image st.images)) && c.brush) t.test).1 in
        let i = image_served st image (source_rect r sx sy) h tests.0 in
        let there : image_cache c (Some h.image) ≡ Some i.0 = ap (image_cache c) (sym h.held) ∙ i.1 in
        by_passing (supports c p (Blit3 r code image sx sy brush)) st w uses client clip (Blit3 r code image sx sy brush) sent t
        (subst (λ o. SentObeys st w uses client clip (Blit3 r code image sx sy brush) w
        (record {
          pending = record {
            drawing = drawn
                (Blit3 r code image sx sy brush) clip;
            rect = r;
            image = o;
            brush = lookup brush st.brushes;
            glyphs = [];
          };
          position = 0;
        })) (sym h.held)
        (subst (λ o. SentObeys st w uses client clip (Blit3 r code image sx sy brush) w
        (record {
          pending = record {
            drawing = drawn
                (Blit3 r code image sx sy brush) clip;
            rect = r;
            image = Some h.image;
            brush = o;
            glyphs = [];
          };
          position = 0;
        })) (sym hb.held)
        (subst (λ o. ObeyedThrough size c j (state_after_drawing size st (drawn (Blit3 r code image sx sy brush) clip)) w
        (brush_use c (image_use c uses (or_0 o) (Some h.image)).uses (Some hb.brush)).uses client
        ((image_use c uses (or_0 o) (Some h.image)).orders ++ ((brush_use c (image_use c uses (or_0 o) (Some h.image)).uses (Some hb.brush)).orders
        ++ Drawn r (Mem3Blt (or_0 o) (image_use c uses (or_0 o) (Some h.image)).index r code sx sy
        (brush_use c (image_use c uses (or_0 o) (Some h.image)).uses (Some hb.brush)).index) (bounds_of r clip) ∷ []))) (sym there)
        (blit3_agrees size c j st w client uses i.0 h.image hb.brush image brush r code sx sy clip i.2
        (record { whole = hb.whole; loaded = hb.loaded; serves = tests.1 }) all.bitmaps h.held hb.held g.0 h.inside a k z))))
    sent_by st w uses client clip (Text x y color font run) sent v g e a k z = text_by st w uses client clip x y color font run sent v g e a k z
    sent_by st w uses client clip (Line x0 y0 x1 y1 color) sent v g e a k z = absurd (cc e)
    sent_by st w uses client clip (Save slot r) sent v g e a k z = save_by st w uses client clip slot r sent g e a k z
    sent_by st w uses client clip (Restore slot x y) sent v g e a k z = restore_by st w uses client clip slot x y sent g e a k z
    sent_by st w uses client clip (LoadImage slot image) sent v g e a k z = absurd (cc e)
    sent_by st w uses client clip (LoadBrush slot brush) sent v g e a k z = absurd (cc e)
    sent_by st w uses client clip (LoadGlyph font code glyph) sent v g e a k z = absurd (cc e)
