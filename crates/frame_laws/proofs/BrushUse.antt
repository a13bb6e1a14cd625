-- The use of a brush, the orders of a Pat and of a Blit3.
use Rattle.std.proofs.Common.{◌≡◌, ◌≢◌, ℕ, zero, suc, ◌+◌, ◌/◌, ◌%◌, ◌<◌, List, [], ◌∷◌, ◌++◌, length, refl, ap, sym, ◌∙◌, subst, arith, Some}
use Rattle.std.specs.Prelude.{Bool, true, false, ◌==◌, nat_lt, Option, ℤ, pos, Ok}
use Rattle.std.proofs.lemmas.Bool.Decides.{nat_tests}
use Rattle.px_core.specs.declared.depth.Depth.{Depth}
use Rattle.px_core.specs.declared.surface.Size.{Size}
use Rattle.px_core.specs.declared.rectangle.Rect.{Rect}
use Rattle.px_core.specs.Depth.{seen, shown_colors}
use Rattle.px_core.specs.Rectangle.{has_pixel, is_inside}
use Rattle.rop3_core.specs.Palette.{session_colors, client_colors}
use Rattle.draw_ops.specs.declared.shape.Shape.TheVariants.{Pat, Blit3}
use Rattle.draw_ops.specs.Content.{ImageOf}
use Rattle.draw_ops.specs.Slots.{SurfaceState, Slots, Loaded, lookup, filled_slot}
use Rattle.draw_ops.specs.Formulas.{Painting, brushed, imaged, image_rows}
use Rattle.draw_ops.specs.Drawing.{painting_of, state_after_drawing}
use Rattle.draw_ops.proofs.Shapes.{brushed_shown}
use Rattle.draw_ops.proofs.ShownRaster.{operation}
use Rattle.caps_sets.specs.declared.confirmed.Confirmed.{Confirmed}
use Rattle.caps_sets.specs.Confirmed.{cache_size}
use Rattle.session_rules.specs.declared.entry.Entry.{Entry}
use Rattle.wire_num.specs.Field.{bind}
use Rattle.order_fields.specs.OrderDelta.{edges_of_optional}
use Rattle.order_fields.specs.OrderStream.{Order}
use Rattle.order_fields.specs.OrderStream.Order.{Other}
use Rattle.order_fields.specs.Secondary.Cached.{Brush}
use Rattle.px_core.specs.Picture.{turned_over}
use Rattle.order_means.specs.KeptContent.{kept_image}
use Rattle.order_fields.specs.NamedDrawing.NamedDrawing.{Pat as PatBlt, Mem3}
use Rattle.order_means.specs.ClientState.{ClientState, found, needs, used, cached, brush_entries, brush_used, image_used, source_rect, after_painting, mixing, no_operand, client_after_order}
use Rattle.order_means.specs.ClientState.Fault.{Broken, Oversized, Empty}
use Rattle.cache_plan.specs.CacheUse.{with_item, misses, last_index, cache_index, uses_of}
use Rattle.cache_plan.proofs.Indices.{cache_index_below, index_of_use, held_after_use}
use Rattle.frame_rules.specs.Frame.{Walk}
use Rattle.frame_rules.specs.FrameOrders.{SentOrder, Uses, Use, use_by, entries_of, brush_use, image_use, bounds_of, first_glyph_cache, brush_cache}
use Rattle.frame_rules.specs.FrameOrders.SentOrder.{Drawn, CacheBrush}
use Rattle.frame_rules.specs.FrameRead.{as_read}
use Rattle.frame_rules.specs.Describes.{brush_loaded, CachesAgree, IsSized}
use Rattle.frame_laws.specs.Agreement.{Agrees, drawn}
use Rattle.frame_laws.proofs.Sent.{black, DoesTheSame, painting_agrees, obeyed_as}
use Rattle.frame_laws.specs.Sound.{IsSoundImage}
use Rattle.frame_laws.specs.Uses.{client_after_sent, IsServed, IsBrushLoaded, BrushUsed, ObeyedThrough}
use Rattle.frame_laws.proofs.TurnedOver.{turned_over_twice}
use Rattle.frame_laws.proofs.WireBack.{length-shown}
use Rattle.frame_laws.proofs.CacheHeld.{holds_hit, holds_miss}
use Rattle.frame_laws.proofs.BlitSent.{orders_then, inside_padded, image_pixel}
use Rattle.frame_laws.proofs.ImageUse as images

module _ (size : Size) (c : Confirmed) (j : List Entry) (client : ClientState) (uses : Uses) (brush : Loaded (List ℕ)) (s : IsBrushLoaded size c j brush)
    (sized : IsSized c client) (caches : CachesAgree size c j uses client) where
  abbrev past : List ℕ
  past = uses_of brush_cache uses

  abbrev entry : ℕ
  entry = cache_index 64 past brush.number

  abbrev later : Uses
  later = (brush_cache, brush.number) ∷ uses

  entry_below : entry < 64
  entry_below = cache_index_below 64 past brush.number (omega arith)

  not_here : (k : ℕ) → k ≢ brush_cache → uses_of k later ≡ uses_of k uses
  not_here k ne = let e : (k == brush_cache) ≡ false = grind (arith, nat_tests, ne) in ap (λ t. with_item t brush.number (uses_of k uses)) e

  agree_after : (d : ClientState) → d.depth ≡ client.depth → d.images ≡ client.images → d.glyphs ≡ client.glyphs
      → ((key : ℕ) → misses 64 (brush.number ∷ past) key ≡ false → (x : List ℕ) × (brush_loaded size j key ≡ Some x)
      × (lookup (last_index 64 (brush.number ∷ past) key) d.brushes ≡ Some (shown_colors client.depth x))) → CachesAgree size c j later d
  agree_after d same is gs held = record {
    images = λ k key few h.
        let e = not_here k (λ b. absurd (omega (arith, few, b))) in
        let old = caches.images k key few (rw e at h) in (
          old.0,
          old.1,
          ap (λ p. cached k (last_index (entries_of c k) p key) d.images) e
              ∙ (ap (cached k (last_index (entries_of c k) (uses_of k uses) key)) is ∙ old.2) ∙ ap (λ e. Some (kept_image e old.0)) (sym same),
        );
    glyphs = λ k key few h.
        let e = not_here (first_glyph_cache + k) (λ b. absurd (omega (arith, few, b))) in
        let old = caches.glyphs k key few (rw e at h) in (
          old.0,
          old.1,
          ap (λ p. cached k (last_index (entries_of c (first_glyph_cache + k)) p key) d.glyphs) e
              ∙ (ap (cached k (last_index (entries_of c (first_glyph_cache + k)) (uses_of (first_glyph_cache + k) uses) key)) gs ∙ old.2),
        );
    brushes = λ key h. let new = held key h in (new.0, new.1, new.2 ∙ ap (λ e. Some (shown_colors e new.0)) (sym same));
  }

  old_holds : (key : ℕ) → misses 64 past key ≡ false → (x : List ℕ) × (brush_loaded size j key ≡ Some x)
      × (lookup (last_index 64 past key) client.brushes ≡ Some (shown_colors client.depth x))
  old_holds key h = caches.brushes key h

  brush_hit : misses 64 past brush.number ≡ false → BrushUsed size c j client later [] entry brush.content
  brush_hit hit =
      let all = holds_hit (shown_colors client.depth) (brush_loaded size j) 64 past client.brushes brush.number hit old_holds in
      let own = all brush.number (held_after_use 64 past brush.number (omega arith)) in
      let same : own.0 ≡ brush.content = cc (sym own.1 ∙ s.loaded) in
      record {
        after = client;
        obeys = refl;
        caches = agree_after client refl refl refl all;
        sized = sized;
        there = ap (λ i. lookup i client.brushes) (index_of_use 64 past brush.number) ∙ (own.2 ∙ ap (λ x. Some (shown_colors client.depth x)) same);
        below = entry_below;
        images = refl;
        agrees = λ st w a. a;
      }

  abbrev filled_with : List ℕ → ClientState
  filled_with x = record client { brushes = filled_slot entry x client.brushes }

  inside : entry < length client.brushes
  inside = let below = entry_below in let all : length client.brushes ≡ 64 = sized.brushes ∙ ap brush_entries s.serves in omega (arith, below, all)

  -- the brush as the client keeps it, and its order as it is read at a depth
  abbrev kept : List ℕ
  kept = shown_colors client.depth brush.content

  abbrev read_at : Depth → Order
  read_at d = Other (Brush (record { entry = entry; pixels = turned_over 8 8 (shown_colors d brush.content) }))

  brush_obeyed : client_after_order c size client (as_read c (CacheBrush entry brush.content)) ≡ Ok (filled_with kept)
  brush_obeyed =
      let below = entry_below in
      let test : nat_lt entry 64 ≡ true = grind (arith, nat_tests, below) in
      ap (λ k. client_after_order c size client (read_at k)) (sym sized.depth)
      ∙ (ap (λ b. needs (nat_lt entry (brush_entries b)) (Oversized 13 entry) (Ok (filled_with (turned_over 8 8 (turned_over 8 8 kept))))) s.serves
      ∙ (ap (λ t. needs t (Oversized 13 entry) (Ok (filled_with (turned_over 8 8 (turned_over 8 8 kept))))) test
      ∙ ap (λ x. Ok (filled_with x)) (turned_over_twice 8 8 kept (length-shown client.depth brush.content ∙ s.whole))))

  length-filled : (slots : Slots (List ℕ)) (i : ℕ) (x : List ℕ) → length (filled_slot i x slots) ≡ length slots
  length-filled [] i x = refl
  length-filled (y ∷ ys) zero x = refl
  length-filled (y ∷ ys) (suc i) x = ap suc (length-filled ys i x)

  brush_miss : BrushUsed size c j client later (CacheBrush entry brush.content ∷ []) entry brush.content
  brush_miss = record {
    after = filled_with kept;
    obeys = ap (λ r. bind r (λ d. client_after_sent c size d [])) brush_obeyed;
    caches = agree_after (filled_with kept) refl refl refl
        (holds_miss (shown_colors client.depth) (brush_loaded size j) 64 past client.brushes brush.number brush.content s.loaded (omega arith) inside old_holds);
    sized = record {
      depth = sized.depth;
      images = sized.images;
      glyphs = sized.glyphs;
      brushes = length-filled client.brushes entry kept ∙ sized.brushes;
    };
    there = filled_at entry client.brushes inside;
    below = entry_below;
    images = refl;
    agrees = λ st w a. record { shown = a.shown; blocks = a.blocks; filled = a.filled };
  }
    where
      filled_at : (i : ℕ) (slots : Slots (List ℕ)) → i < length slots → lookup i (filled_slot i kept slots) ≡ Some kept
      filled_at i [] h = absurd (omega (arith, h))
      filled_at zero (x ∷ slots) h = refl
      filled_at (suc i) (x ∷ slots) h = filled_at i slots (omega (arith, h))

  abbrev used_as : Bool → Use
  used_as b = use_by b entry later (λ i. CacheBrush i brush.content)

  pub brush_is_used : BrushUsed size c j client (brush_use c uses (Some brush)).uses (brush_use c uses (Some brush)).orders
      (brush_use c uses (Some brush)).index brush.content
  brush_is_used = by (misses 64 past brush.number) refl
    where
      by : (b : Bool) → misses 64 past brush.number ≡ b → BrushUsed size c j client (used_as (misses 64 past brush.number)).uses
          (used_as (misses 64 past brush.number)).orders (used_as (misses 64 past brush.number)).index brush.content
      by true e = subst (λ b. BrushUsed size c j client (used_as b).uses (used_as b).orders (used_as b).index brush.content) (sym e) brush_miss
      by false e = subst (λ b. BrushUsed size c j client (used_as b).uses (used_as b).orders (used_as b).index brush.content) (sym e) (brush_hit e)

-- a brush's pixel is what is shown of the session's
brush_pixel : (depth : Depth) (brush : List ℕ) (x y : ℤ) → brushed client_colors (shown_colors depth brush) x y ≡ seen depth (brushed session_colors brush x y)
brush_pixel depth brush x y = ap Some (brushed_shown depth brush x y)

-- a brush that is in its entry is used
brush_found : (c : Confirmed) (d : ClientState) (entry : ℕ) (brush : List ℕ) → c.brush ≡ true → entry < 64 → lookup entry d.brushes ≡ Some brush
    → brush_used c d entry ≡ Ok brush
brush_found c d entry brush serves below there =
    let test : nat_lt entry 64 ≡ true = grind (arith, nat_tests, below) in
    ap (λ b. used 13 (brush_entries b) entry (lookup entry d.brushes)) serves
    ∙ (ap (λ t. needs t (Oversized 13 entry) (found (lookup entry d.brushes) (Empty 13 entry))) test ∙ ap (λ o. found o (Empty 13 entry)) there)

module _ (size : Size) (c : Confirmed) (j : List Entry) (st : SurfaceState) (w : Walk) (client : ClientState) (uses : Uses) (brush : Loaded (List ℕ)) (slot : ℕ)
    (r : Rect) (code : ℕ) (clip : Option Rect) where
  abbrev pattern : Depth → List ℕ → Painting (Option ℕ)
  pattern depth pixels = mixing depth r code (brushed client_colors pixels) no_operand

  pat_paints_the_same : (depth : Depth) → lookup slot st.brushes ≡ Some brush
      → DoesTheSame depth size st w.dirty clip (painting_of size st (Pat r code slot)) (pattern depth (shown_colors depth brush.content))
  pat_paints_the_same depth held = rw held (record {
    rects = refl;
    areas = λ x y. refl;
    formulas = λ i d below clean here. operation depth code _ 0 d (brush_pixel depth brush.content (pos (i % size.w)) (pos (i / size.w))) (black depth);
  })

  abbrev pat_entry : ℕ
  pat_entry = (brush_use c uses (Some brush)).index

  pub pat_agrees : IsBrushLoaded size c j brush → lookup slot st.brushes ≡ Some brush → has_pixel r ≡ true → Agrees size st w client
      → CachesAgree size c j uses client → IsSized c client
      → ObeyedThrough size c j (state_after_drawing size st (drawn (Pat r code slot) clip)) w (brush_use c uses (Some brush)).uses client
      ((brush_use c uses (Some brush)).orders ++ Drawn r (PatBlt r code pat_entry) (bounds_of r clip) ∷ [])
  pat_agrees s held some a caches sized =
      let u = brush_is_used size c j client uses brush s sized caches in
      let d = u.after in
      let after = after_painting size (edges_of_optional (bounds_of r clip)) (pattern d.depth (shown_colors d.depth brush.content)) d in
      let draws : client_after_order c size d (as_read c (Drawn r (PatBlt r code pat_entry) (bounds_of r clip))) ≡ Ok after =
      obeyed_as c size d r (PatBlt r code pat_entry) (bounds_of r clip) (Ok after) u.sized.depth some tt
      (ap (λ o. bind o (λ b. Ok (after_painting size (edges_of_optional (bounds_of r clip)) (pattern d.depth b) d)))
      (brush_found c d pat_entry (shown_colors d.depth brush.content) s.serves u.below u.there)) in
      record {
        after = after;
        obeys = orders_then c size client d after (brush_use c uses (Some brush)).orders (Drawn r (PatBlt r code pat_entry) (bounds_of r clip) ∷ []) u.obeys
            (ap (λ o. bind o (λ e. client_after_sent c size e [])) draws);
        agrees = painting_agrees size st w d (Pat r code slot) clip (pattern d.depth (shown_colors d.depth brush.content)) refl
            (pat_paints_the_same d.depth held) (u.agrees st w a);
        caches = record { images = u.caches.images; glyphs = u.caches.glyphs; brushes = u.caches.brushes };
        sized = record { depth = u.sized.depth; images = u.sized.images; glyphs = u.sized.glyphs; brushes = u.sized.brushes };
      }

module _ (size : Size) (c : Confirmed) (j : List Entry) (st : SurfaceState) (w : Walk) (client : ClientState) (uses : Uses) (cache : ℕ) (image : Loaded ImageOf)
    (brush : Loaded (List ℕ)) (slot brush_slot : ℕ) (r : Rect) (code : ℕ) (sx sy : ℤ) (clip : Option Rect) where
  abbrev mixed_by : Depth → List (List ℕ) → List ℕ → Painting (Option ℕ)
  mixed_by depth rows pixels = mixing depth r code (brushed client_colors pixels) (imaged client_colors rows r sx sy)

  blit3_paints_the_same : (depth : Depth) → IsSoundImage image.content → lookup slot st.images ≡ Some image → lookup brush_slot st.brushes ≡ Some brush
      → is_inside (record { w = image.content.w; h = image.content.h }) (source_rect r sx sy) ≡ true
      → DoesTheSame depth size st w.dirty clip (painting_of size st (Blit3 r code slot sx sy brush_slot))
      (mixed_by depth (image_rows (kept_image depth image.content)) (shown_colors depth brush.content))
  blit3_paints_the_same depth sound held with_brush fits = rw (held, with_brush) (record {
    rects = refl;
    areas = λ x y. refl;
    formulas = λ i d below clean here. operation depth code _ _ d (brush_pixel depth brush.content (pos (i % size.w)) (pos (i / size.w)))
        (image_pixel depth r clip image.content sx sy (i % size.w) (i / size.w) sound fits here);
  })

  abbrev i_use : Use
  i_use = image_use c uses cache (Some image)

  abbrev b_use : Use
  b_use = brush_use c i_use.uses (Some brush)

  abbrev order : SentOrder
  order = Drawn r (Mem3 cache i_use.index r code sx sy b_use.index) (bounds_of r clip)

  pub blit3_agrees : IsServed size c j cache image → IsBrushLoaded size c j brush → length c.bitmaps ≡ 3 → lookup slot st.images ≡ Some image
      → lookup brush_slot st.brushes ≡ Some brush → has_pixel r ≡ true
      → is_inside (record { w = image.content.w; h = image.content.h }) (source_rect r sx sy) ≡ true → Agrees size st w client
      → CachesAgree size c j uses client → IsSized c client
      → ObeyedThrough size c j (state_after_drawing size st (drawn (Blit3 r code slot sx sy brush_slot) clip)) w b_use.uses client
      (i_use.orders ++ (b_use.orders ++ order ∷ []))
  blit3_agrees s sb three held with_brush some fits a caches sized =
      let u = images.image_used size c j client uses cache image s sized caches three in
      let v = brush_is_used size c j u.after i_use.uses brush sb u.sized u.caches in
      let d = v.after in
      let kept = kept_image d.depth image.content in
      let painted = mixed_by d.depth (image_rows kept) (shown_colors d.depth brush.content) in
      let after = after_painting size (edges_of_optional (bounds_of r clip)) painted d in
      let few = s.bitmap in
      let below = u.below in
      let bitmap : nat_lt cache 3 ≡ true = grind (arith, nat_tests, few) in
      let there_entry : nat_lt i_use.index (cache_size c.bitmaps cache).entries ≡ true = grind (arith, nat_tests, below) in
      let there : cached cache i_use.index d.images ≡ Some kept = ap (cached cache i_use.index) v.images ∙ u.there
      ∙ ap (λ k. Some (kept_image k image.content)) (u.sized.depth ∙ sym v.sized.depth) in
      let image_found : image_used c d cache i_use.index (source_rect r sx sy) ≡ Ok kept =
      ap (λ t. needs t Broken (bind (used cache (cache_size c.bitmaps cache).entries i_use.index (cached cache i_use.index d.images))
      (λ x. needs (is_inside (record { w = x.w; h = x.h }) (source_rect r sx sy)) Broken (Ok x)))) bitmap
      ∙ (ap (λ t. bind (needs t (Oversized cache i_use.index) (found (cached cache i_use.index d.images) (Empty cache i_use.index)))
      (λ x. needs (is_inside (record { w = x.w; h = x.h }) (source_rect r sx sy)) Broken (Ok x))) there_entry
      ∙ (ap (λ o. bind (found o (Empty cache i_use.index)) (λ x. needs (is_inside (record { w = x.w; h = x.h }) (source_rect r sx sy)) Broken (Ok x))) there
      ∙ ap (λ t. needs t Broken (Ok kept)) (inside_padded image.content (source_rect r sx sy) fits))) in
      let draws : client_after_order c size d (as_read c order) ≡ Ok after =
      obeyed_as c size d r (Mem3 cache i_use.index r code sx sy b_use.index) (bounds_of r clip) (Ok after) v.sized.depth some tt
      (ap (λ o. bind o (λ x. bind (brush_used c d b_use.index)
      (λ b. Ok (after_painting size (edges_of_optional (bounds_of r clip)) (mixed_by d.depth (image_rows x) b) d)))) image_found
      ∙ ap (λ o. bind o (λ b. Ok (after_painting size (edges_of_optional (bounds_of r clip)) (mixed_by d.depth (image_rows kept) b) d)))
      (brush_found c d b_use.index (shown_colors d.depth brush.content) sb.serves v.below v.there)) in
      record {
        after = after;
        obeys = orders_then c size client u.after after i_use.orders (b_use.orders ++ order ∷ []) u.obeys
            (orders_then c size u.after d after b_use.orders (order ∷ []) v.obeys (ap (λ o. bind o (λ e. client_after_sent c size e [])) draws));
        agrees = painting_agrees size st w d (Blit3 r code slot sx sy brush_slot) clip painted refl
            (blit3_paints_the_same d.depth s.sound held with_brush fits) (v.agrees st w (u.agrees st w a));
        caches = record { images = v.caches.images; glyphs = v.caches.glyphs; brushes = v.caches.brushes };
        sized = record { depth = v.sized.depth; images = v.sized.images; glyphs = v.sized.glyphs; brushes = v.sized.brushes };
      }
