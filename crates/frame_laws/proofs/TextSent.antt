-- The orders of a Text are obeyed; session and client agree after them, and so do the caches.
use Rattle.std.proofs.Common.{◌≡◌, ℕ, zero, suc, ◌+◌, ◌-◌, ◌*◌, ◌/◌, ◌%◌, ◌<◌, ◌≤◌, List, [], ◌∷◌, ◌++◌, length, replicate, refl, ap, sym, ◌∙◌, arith, Some}
use Rattle.std.specs.Prelude.{true, ◌&&◌, ◌||◌, ◌==◌, ◌^◌, nat_lt, Option, ℤ, pos, ◌+ℤ◌, ◌-ℤ◌, Ok, Result}
use Rattle.std.proofs.lemmas.Bool.{and_from}
use Rattle.std.proofs.lemmas.Bool.Decides.{nat_tests}
use Rattle.px_core.specs.declared.surface.Size.{Size}
use Rattle.px_core.specs.declared.rectangle.Rect.{Rect}
use Rattle.px_core.specs.Depth.{shown}
use Rattle.px_core.specs.Picture.{nat_of, item}
use Rattle.px_core.specs.Rectangle.{in_rect}
use Rattle.draw_ops.specs.declared.shape.Shape.TheVariants.{Text}
use Rattle.draw_ops.specs.Content.{GlyphOf}
use Rattle.draw_ops.specs.Slots.{SurfaceState, Loaded}
use Rattle.draw_ops.specs.Formulas.{Painting, glyph_cell, glyph_area, run_area, cell_of, run_cells, joint_of}
use Rattle.draw_ops.specs.Drawing.{content_of, glyphs_in, painting_of, state_after_drawing}
use Rattle.caps_sets.specs.declared.confirmed.Confirmed.{Confirmed}
use Rattle.caps_sets.specs.Confirmed.{cache_size}
use Rattle.session_rules.specs.declared.entry.Entry.{Entry}
use Rattle.wire_num.specs.Field.{bind}
use Rattle.order_fields.specs.OrderDelta.{edges_of_optional}
use Rattle.run_lengths.specs.WirePixels.{padded}
use Rattle.order_means.specs.KeptContent.{padded_glyph}
use Rattle.order_fields.specs.NamedDrawing.NamedDrawing.{Glyphs}
use Rattle.order_means.specs.ClientState.{ClientState, Fault, found, needs, cached, pairs_if, onto_pairs, pairs_of, with_glyphs, glyph_used, writing, after_painting, client_after_order}
use Rattle.order_means.specs.ClientState.Fault.{Broken, Oversized, Empty}
use Rattle.cache_plan.specs.CacheUse.{distinct_keys, uses_of}
use Rattle.frame_rules.specs.Frame.{Walk}
use Rattle.frame_rules.specs.FrameOrders.{SentOrder, Uses, run_use, run_pairs, bounds_of, entries_of, first_glyph_cache}
use Rattle.frame_rules.specs.FrameOrders.SentOrder.{Drawn}
use Rattle.frame_rules.specs.FrameRead.{as_read}
use Rattle.frame_rules.specs.Describes.{CachesAgree, IsSized}
use Rattle.frame_laws.specs.Agreement.{Agrees, drawn}
use Rattle.frame_laws.proofs.Sent.{DoesTheSame, painting_agrees, obeyed_as}
use Rattle.frame_laws.specs.Uses.{client_after_sent, ObeyedThrough}
use Rattle.frame_laws.proofs.BlitSent.{orders_then}
use Rattle.frame_laws.proofs.GlyphUse as glyphs
use Rattle.frame_laws.specs.Run.{AreGlyphs, AreDeltas, AreServed, keys_of}

-- ---- a padded glyph has the same pixels

-- so many zeros
abbrev zeros : ℕ → List ℕ
zeros n = replicate n 0

abbrev byte_at : List ℕ → ℕ → ℕ
byte_at xs k = item xs k 0

item_zeros : (n k : ℕ) → byte_at (zeros n) k ≡ byte_at [] k
item_zeros zero k = refl
item_zeros (suc n) zero = refl
item_zeros (suc n) (suc k) = item_zeros n k

item_padded : (xs : List ℕ) (n k : ℕ) → byte_at (xs ++ zeros n) k ≡ byte_at xs k
item_padded [] n k = item_zeros n k
item_padded (x ∷ xs) n zero = refl
item_padded (x ∷ xs) n (suc k) = item_padded xs n k

same_area : (g : GlyphOf) (x y u v : ℤ) → glyph_area (Some (padded_glyph g)) x y u v ≡ glyph_area (Some g) x y u v
same_area g x y u v =
    let cell = glyph_cell g x y in
    let row = nat_of (v -ℤ cell.y) in
    let column = nat_of (u -ℤ cell.x) in
    ap (λ b. in_rect cell u v && ((b / 2 ^ (7 - column % 8)) % 2 == 1))
    (item_padded g.bits (padded (length g.bits) - length g.bits) ((cell.w + 7) / 8 * row + column / 8))

-- ---- a run of codes, and the run of indices that is sent for it

abbrev paired : List ℕ → List (ℕ × ℕ) → List (ℕ × ℕ)
paired [] ps = []
paired (i ∷ is) [] = []
paired (i ∷ is) (p ∷ ps) = (i, p.1) ∷ paired is ps

module _ (size : Size) (c : Confirmed) (j : List Entry) (cache : ℕ) (few : cache < 10) (some : 0 < entries_of c (first_glyph_cache + cache))
    (ten : length c.glyphs ≡ 10) where
  abbrev AllFound : ClientState → List ℕ → List (Loaded GlyphOf) → Type 0
  AllFound d is gs = glyphs.AllFound size c j cache few some ten d is gs

  pairs_back : (d : ClientState) (is : List ℕ) (ps : List (ℕ × ℕ)) (gs : List (Loaded GlyphOf)) → AllFound d is gs → AreDeltas ps
      → pairs_of (run_pairs is ps) ≡ Some (paired is ps)
  pairs_back d [] ps gs f h = refl
  pairs_back d (i ∷ is) [] gs f h = refl
  pairs_back d (i ∷ is) (p ∷ ps) [] f h = absurd f
  pairs_back d (i ∷ is) (p ∷ ps) (g ∷ gs) f h =
      let byte = f.0.byte in
      let delta = h.0 in
      let a : nat_lt i 254 ≡ true = grind (arith, nat_tests, byte) in
      let b : nat_lt p.1 128 ≡ true = grind (arith, nat_tests, delta) in
      ap (λ t. pairs_if t (onto_pairs i p.1 (pairs_of (run_pairs is ps)))) (and_from _ _ a b) ∙ ap (onto_pairs i p.1) (pairs_back d is ps gs f.1 h.1)

  glyph_found : (d : ClientState) (i : ℕ) (g : Loaded GlyphOf) → glyphs.Found size c j cache few some ten d i g
      → glyph_used c d cache i ≡ Ok (padded_glyph g.content)
  glyph_found d i g f =
      let below = f.below in
      let test : nat_lt i (cache_size c.glyphs cache).entries ≡ true = grind (arith, nat_tests, below) in
      ap (λ t. needs t (Oversized (3 + cache) i) (found (cached cache i d.glyphs) (Empty (3 + cache) i))) test ∙ ap (λ o. found o (Empty (3 + cache) i)) f.there

  all_used : (d : ClientState) (is : List ℕ) (ps : List (ℕ × ℕ)) (gs : List (Loaded GlyphOf)) (next : Result ClientState Fault) → AllFound d is gs
      → with_glyphs (glyph_used c d cache) (paired is ps) next ≡ next
  all_used d [] ps gs next f = refl
  all_used d (i ∷ is) [] gs next f = refl
  all_used d (i ∷ is) (p ∷ ps) [] next f = absurd f
  all_used d (i ∷ is) (p ∷ ps) (g ∷ gs) next f = ap (λ r. bind r (λ _. with_glyphs (glyph_used c d cache) (paired is ps) next)) (glyph_found d i g f.0)
      ∙ all_used d is ps gs next f.1

  -- the glyphs of the client
  abbrev theirs : ClientState → ℕ → Option GlyphOf
  theirs d index = cached cache index d.glyphs

  same_cells : (st : SurfaceState) (font : ℕ) (d : ClientState) (is : List ℕ) (ps : List (ℕ × ℕ)) (gs : List (Loaded GlyphOf)) (x y : ℤ) → AllFound d is gs
      → AreGlyphs st font ps gs
      → run_cells (glyphs_in st font) x y ps ≡ run_cells (theirs d) x y (paired is ps)
  same_cells st font d [] [] [] x y f h = refl
  same_cells st font d [] (p ∷ ps) [] x y f h = absurd h
  same_cells st font d [] ps (g ∷ gs) x y f h = absurd f
  same_cells st font d (i ∷ is) ps [] x y f h = absurd f
  same_cells st font d (i ∷ is) [] (g ∷ gs) x y f h = absurd h
  same_cells st font d (i ∷ is) (p ∷ ps) (g ∷ gs) x y f h =
      ap (λ o. cell_of (content_of o) (x +ℤ pos p.1) y (run_cells (glyphs_in st font) (x +ℤ pos p.1) y ps)) h.0
      ∙ (ap (λ cells. glyph_cell g.content (x +ℤ pos p.1) y ∷ cells) (same_cells st font d is ps gs (x +ℤ pos p.1) y f.1 h.1)
      ∙ ap (λ o. cell_of o (x +ℤ pos p.1) y (run_cells (theirs d) (x +ℤ pos p.1) y (paired is ps))) (sym f.0.there))

  same_areas : (st : SurfaceState) (font : ℕ) (d : ClientState) (is : List ℕ) (ps : List (ℕ × ℕ)) (gs : List (Loaded GlyphOf)) (x y u v : ℤ) → AllFound d is gs
      → AreGlyphs st font ps gs
      → run_area (glyphs_in st font) x y ps u v ≡ run_area (theirs d) x y (paired is ps) u v
  same_areas st font d [] [] [] x y u v f h = refl
  same_areas st font d [] (p ∷ ps) [] x y u v f h = absurd h
  same_areas st font d [] ps (g ∷ gs) x y u v f h = absurd f
  same_areas st font d (i ∷ is) ps [] x y u v f h = absurd f
  same_areas st font d (i ∷ is) [] (g ∷ gs) x y u v f h = absurd h
  same_areas st font d (i ∷ is) (p ∷ ps) (g ∷ gs) x y u v f h =
      ap (λ o. glyph_area (content_of o) (x +ℤ pos p.1) y u v || run_area (glyphs_in st font) (x +ℤ pos p.1) y ps u v) h.0
      ∙ (ap (λ b. b || run_area (glyphs_in st font) (x +ℤ pos p.1) y ps u v) (sym (same_area g.content (x +ℤ pos p.1) y u v))
      ∙ (ap (λ b. glyph_area (Some (padded_glyph g.content)) (x +ℤ pos p.1) y u v || b) (same_areas st font d is ps gs (x +ℤ pos p.1) y u v f.1 h.1)
      ∙ ap (λ o. glyph_area o (x +ℤ pos p.1) y u v || run_area (theirs d) (x +ℤ pos p.1) y (paired is ps) u v) (sym f.0.there)))

  module _ (st : SurfaceState) (w : Walk) (client : ClientState) (uses : Uses) (gs : List (Loaded GlyphOf)) (x y : ℤ) (color font : ℕ) (run : List (ℕ × ℕ))
      (clip : Option Rect) where
    abbrev area : Rect
    area = (painting_of size st (Text x y color font run)).rect

    abbrev indices : List ℕ
    indices = (run_use c uses cache gs).indices

    abbrev order : SentOrder
    order = Drawn area (Glyphs cache x y color (run_pairs indices run)) (bounds_of area clip)

    pub text_agrees : color < 2 ^ 24 → AreServed size c j cache gs → AreGlyphs st font run gs → AreDeltas run
        → length (distinct_keys (keys_of gs)) ≤ entries_of c (first_glyph_cache + cache)
        → Agrees size st w client → CachesAgree size c j uses client → IsSized c client
        → ObeyedThrough size c j (state_after_drawing size st (drawn (Text x y color font run) clip)) w (run_use c uses cache gs).uses client
        ((run_use c uses cache gs).orders ++ order ∷ [])
    text_agrees low served are deltas small a caches sized =
        let u = glyphs.run_is_used size c j cache few some ten gs client uses served sized caches in
        let d = u.after in
        let n = first_glyph_cache + cache in
        let all = glyphs.run_found size c j cache few some ten gs uses [] (uses_of n uses) (run_use c uses cache gs).uses d served refl
        (glyphs.run_history size c j cache few some ten gs uses) small u.caches in
        let pairs = paired indices run in
        let q : Painting (Option ℕ) = writing (theirs d) x y (shown d.depth color) pairs in
        let after = after_painting size (edges_of_optional (bounds_of area clip)) q d in
        let ten_caches : nat_lt cache 10 ≡ true = grind (arith, nat_tests, few) in
        let draws : client_after_order c size d (as_read c order) ≡ Ok after =
        obeyed_as c size d area (Glyphs cache x y color (run_pairs indices run)) (bounds_of area clip) (Ok after) u.sized.depth tt low
        (ap (λ t. needs t Broken (bind (found (pairs_of (run_pairs indices run)) Broken)
        (λ ps. with_glyphs (glyph_used c d cache) ps (Ok (after_painting size (edges_of_optional (bounds_of area clip))
        (writing (theirs d) x y (shown d.depth color) ps) d))))) ten_caches
        ∙ (ap (λ o. bind (found o Broken) (λ ps. with_glyphs (glyph_used c d cache) ps
        (Ok (after_painting size (edges_of_optional (bounds_of area clip)) (writing (theirs d) x y (shown d.depth color) ps) d)))) (pairs_back d indices run gs all deltas)
        ∙ all_used d indices run gs (Ok after) all)) in
        let same : DoesTheSame d.depth size st w.dirty clip (painting_of size st (Text x y color font run)) q = record {
          rects = ap joint_of (same_cells st font d indices run gs x y all are);
          areas = λ s t. same_areas st font d indices run gs x y s t all are;
          formulas = λ i old below clean here. refl;
        } in
        record {
          after = after;
          obeys = orders_then c size client d after (run_use c uses cache gs).orders (order ∷ []) u.obeys
              (ap (λ o. bind o (λ e. client_after_sent c size e [])) draws);
          agrees = painting_agrees size st w d (Text x y color font run) clip q refl same (u.agrees st w a);
          caches = record { images = u.caches.images; glyphs = u.caches.glyphs; brushes = u.caches.brushes };
          sized = record { depth = u.sized.depth; images = u.sized.images; glyphs = u.sized.glyphs; brushes = u.sized.brushes };
        }
