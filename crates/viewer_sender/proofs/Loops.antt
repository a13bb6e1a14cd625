-- One drawing, one glyph and one tile after the other.
use Rattle.std.proofs.Common.{◌≡◌, ℕ, zero, suc, ◌+◌, ◌-◌, ◌<◌, ◌≤◌, ◌%◌, List, [], ◌∷◌, ◌++◌, length, take, drop, get_or, refl, ap, sym, ◌∙◌, subst, arith, append-nil, append_assoc, flat_map}
use Rattle.std.specs.Prelude.{Bool, true, false, nat_lt}
use Rattle.std.proofs.lemmas.Bool.Decides.{nat_tests}
use Rattle.std.proofs.Math.Seq.{drop-cons}
use Rattle.px_core.specs.declared.surface.Size.{Size}
use Rattle.px_core.specs.declared.rectangle.Rect.{Rect}
use Rattle.px_core.specs.Tiles.{tile_on}
use Rattle.order_means.specs.UpdateBodies.{tile_packet}
use Rattle.viewer_sender.specs.Gathering.{Gathering, with_packet}
use Rattle.caps_sets.specs.declared.confirmed.Confirmed.{Confirmed}
use Rattle.caps_sets.specs.Confirmed.{cache_size, depth_of}
use Rattle.draw_ops.specs.Content.{GlyphOf}
use Rattle.draw_ops.specs.Slots.{Loaded}
use Rattle.cache_plan.specs.CacheUse.{misses, cache_index, uses_of}
use Rattle.cache_plan.proofs.Indices.{cache_index_below}
use Rattle.frame_rules.specs.Support.{used_glyph_entries}
use Rattle.draw_ops.specs.declared.shape.Drawing.{Drawing}
use Rattle.draw_ops.specs.declared.shape.Shape.{Shape}
use Rattle.session_rules.specs.Pending.{Pending}
use Rattle.frame_rules.specs.Frame.{Sent}
use Rattle.frame_rules.specs.FrameOrders.{SentOrder, Use, Uses, sending, use_by, sending_by, sending_of, orders_from, uses_after, glyph_use, run_use, run_pairs, entries_of}
use Rattle.frame_rules.specs.FrameOrders.SentOrder.{CacheGlyph}
use Rattle.viewer_sender.specs.declared.writer.FrameWriter.{FrameWriter}
use Rattle.viewer_sender.specs.Stands.{CachesStand}
use Rattle.viewer_sender.specs.Writes.{Writes, used}
use Rattle.viewer_sender.proofs.CacheSteps.{use_of_none}
use Rattle.viewer_sender.proofs.UseSteps.{use_missed, writes_then, writes_as}
use Rattle.frame_plan.specs.Orders.{cached_of, all_cached, sent_as, drawings_in, cached_in, AreChosen}
use Rattle.frame_plan.specs.declared.orders.Planned.{Planned}
use Rattle.frame_plan.specs.declared.cached.Cached.{Cached}
use Rattle.viewer_sender.specs.Goes.{SentGoes, AllGo}
use Rattle.viewer_sender.specs.Runs.{run_sending, drawings_sending}

-- ---- lists

pub drop_next : {A : Type 0} (l : List A) (i : ℕ) (d : A) → i < length l → drop i l ≡ get_or l i d ∷ drop (i + 1) l
drop_next l i d h = let same : suc i ≡ i + 1 = omega arith in drop-cons l i d h ∙ ap (λ n. get_or l i d ∷ drop n l) same

pub take_next : {A : Type 0} (l : List A) (i : ℕ) (d : A) → i < length l → take (i + 1) l ≡ take i l ++ get_or l i d ∷ []
take_next {A} l i d h = let same : i + 1 ≡ suc i = omega arith in ap (λ n. take n l) same ∙ by l i h
  where
    by : (l : List A) (i : ℕ) → i < length l → take (suc i) l ≡ take i l ++ get_or l i d ∷ []
    by [] i h = absurd (omega (arith, h))
    by (x ∷ l) zero h = refl
    by (x ∷ l) (suc i) h = ap (λ ys. x ∷ ys) (by l i (omega (arith, h)))

-- ---- drawings

pub writes_nothing : (w : FrameWriter) → Writes w w (λ uses. sending [] uses)
writes_nothing w = (refl, λ uses stands. record { gathered = refl; registers = refl; caches = stands })

-- one drawing more, of those that were planned
pub drawings_last : (ps : List Planned) (i : ℕ) (d : Planned) → i < length ps → drawings_in (take (i + 1) ps) ≡ drawings_in (take i ps) ++ sent_as (get_or ps i d) ∷ []
drawings_last ps i d h = ap drawings_in (take_next ps i d h) ∙ by (take i ps)
  where
    by : (qs : List Planned) → drawings_in (qs ++ get_or ps i d ∷ []) ≡ drawings_in qs ++ sent_as (get_or ps i d) ∷ []
    by [] = refl
    by (q ∷ qs) = ap (λ ss. sent_as q ∷ ss) (by qs)

-- the next drawing and those behind it can be written, and each takes what serves it
pub next_goes : (c : Confirmed) (ps : List Planned) (i : ℕ) (d : Planned) → i < length ps → AllGo c (drawings_in (drop i ps))
    → SentGoes c (sent_as (get_or ps i d)) × AllGo c (drawings_in (drop (i + 1) ps))
next_goes c ps i d h k = subst (λ (qs : List Planned). AllGo c (drawings_in qs)) (drop_next ps i d h) k

pub next_chosen : (c : Confirmed) (ps : List Planned) (i : ℕ) (d : Planned) → i < length ps → AreChosen c (drop i ps)
    → ((get_or ps i d).cached ≡ cached_of c (sent_as (get_or ps i d))) × AreChosen c (drop (i + 1) ps)
next_chosen c ps i d h k = by (subst (AreChosen c) (drop_next ps i d h) k)
  where
    by : {x y : Cached} {xs ys : List Cached} → x ∷ xs ≡ y ∷ ys → (x ≡ y) × (xs ≡ ys)
    by e = (cc e, cc e)

-- what a take's orders take is what serves them
pub chosen_all : (c : Confirmed) (ps qs : List Planned) (cached : List Cached) (ss : List Sent) → ps ≡ qs → cached_in qs ≡ cached → drawings_in qs ≡ ss → cached ≡ all_cached c ss → AreChosen c ps
chosen_all c ps qs cached ss same a b e = subst (AreChosen c) (sym same) (a ∙ (e ∙ ap (all_cached c) (sym b)))

-- drawings, and more of them
module _ (c : Confirmed) where
  pub orders_joined : (xs ys : List Sent) (uses : Uses) → orders_from c uses (xs ++ ys) ≡ orders_from c uses xs ++ orders_from c (uses_after c uses xs) ys
  orders_joined [] ys uses = refl
  orders_joined (x ∷ xs) ys uses =
      let u = (sending_of c uses x).uses in
      ap (λ os. (sending_of c uses x).orders ++ os) (orders_joined xs ys u) ∙ sym (append_assoc (sending_of c uses x).orders (orders_from c u xs) (orders_from c (uses_after c u xs) ys))

  pub uses_joined : (xs ys : List Sent) (uses : Uses) → uses_after c uses (xs ++ ys) ≡ uses_after c (uses_after c uses xs) ys
  uses_joined [] ys uses = refl
  uses_joined (x ∷ xs) ys uses = uses_joined xs ys (sending_of c uses x).uses

pub sent_all : (a b d : FrameWriter) (xs ys : List Sent) → Writes a b (λ uses. drawings_sending a.confirmed uses xs) → Writes b d (λ uses. drawings_sending b.confirmed uses ys)
    → Writes a d (λ uses. drawings_sending a.confirmed uses (xs ++ ys))
sent_all a b d xs ys p q =
    let c = a.confirmed in
    writes_as a d _ _
    (λ uses stands.
    ap (λ k. sending (orders_from c uses xs ++ orders_from k (uses_after c uses xs) ys) (uses_after k (uses_after c uses xs) ys)) p.0
    ∙ (ap (λ os. sending os (uses_after c (uses_after c uses xs) ys)) (sym (orders_joined c xs ys uses))
    ∙ ap (λ us. sending (orders_from c uses (xs ++ ys)) us) (sym (uses_joined c xs ys uses))))
    (writes_then a b d (λ uses. drawings_sending a.confirmed uses xs) (λ uses. drawings_sending b.confirmed uses ys) p q)

-- one drawing
pub sent_alone : (a b : FrameWriter) (s : Sent) → Writes a b (λ uses. sending_of a.confirmed uses s) → Writes a b (λ uses. drawings_sending a.confirmed uses (s ∷ []))
sent_alone a b s h =
    writes_as a b _ _ (λ uses stands. ap (λ os. sending os (sending_of a.confirmed uses s).uses) (sym (append-nil (sending_of a.confirmed uses s).orders))) h

-- ---- glyphs

use_index : (m : Bool) (i : ℕ) (uses : Uses) (content : ℕ → SentOrder) → (use_by m i uses content).index ≡ i
use_index true i uses content = refl
use_index false i uses content = refl

-- the entry of a glyph has one byte
pub glyph_below : (c : Confirmed) (uses : Uses) (cache : ℕ) (glyph : Loaded GlyphOf) → cache < 10 → (glyph_use c uses cache glyph).index < 256
glyph_below c uses cache glyph few = by (entries_of c (3 + cache)) refl
  where
    entries_few : entries_of c (3 + cache) ≤ 254
    entries_few =
        let a : nat_lt (3 + cache) 3 ≡ false = grind (arith, nat_tests) in
        let b : nat_lt (3 + cache) 13 ≡ true = grind (arith, nat_tests, few) in
        let is : entries_of c (3 + cache) ≡ used_glyph_entries (cache_size c.glyphs (3 + cache - 3)) = rw a (rw b refl) in
        omega (arith, is)

    by : (n : ℕ) → entries_of c (3 + cache) ≡ n → (glyph_use c uses cache glyph).index < 256
    by zero e =
        let is = ap (λ (u : Use). u.index) (use_missed c uses (3 + cache) glyph.number 0 (λ index. CacheGlyph cache index glyph.content) (use_of_none (entries_of c (3 + cache)) (uses_of (3 + cache) uses) glyph.number e)) in
        omega (arith, is)
    by (suc n) e =
        let past = uses_of (3 + cache) uses in
        let below = cache_index_below (entries_of c (3 + cache)) past glyph.number (omega (arith, e)) in
        let is : (glyph_use c uses cache glyph).index ≡ cache_index (entries_of c (3 + cache)) past glyph.number =
        use_index (misses (entries_of c (3 + cache)) past glyph.number) (cache_index (entries_of c (3 + cache)) past glyph.number) ((3 + cache, glyph.number) ∷ uses) (λ index. CacheGlyph cache index glyph.content) in
        let most = entries_few in
        omega (arith, is, below, most)

module _ (c : Confirmed) (cache : ℕ) (g : Loaded GlyphOf) where
  run_orders-last : (gs : List (Loaded GlyphOf)) (uses : Uses) → (run_use c uses cache (gs ++ g ∷ [])).orders ≡ (run_use c uses cache gs).orders ++ (glyph_use c (run_use c uses cache gs).uses cache g).orders
  run_orders-last [] uses = append-nil (glyph_use c uses cache g).orders
  run_orders-last (x ∷ xs) uses =
      let u = glyph_use c uses cache x in
      ap (λ os. u.orders ++ os) (run_orders-last xs u.uses)
      ∙ sym (append_assoc u.orders (run_use c u.uses cache xs).orders (glyph_use c (run_use c u.uses cache xs).uses cache g).orders)

  run_uses-last : (gs : List (Loaded GlyphOf)) (uses : Uses) → (run_use c uses cache (gs ++ g ∷ [])).uses ≡ (glyph_use c (run_use c uses cache gs).uses cache g).uses
  run_uses-last [] uses = refl
  run_uses-last (x ∷ xs) uses = run_uses-last xs (glyph_use c uses cache x).uses

  run_indices-last : (gs : List (Loaded GlyphOf)) (uses : Uses) → (run_use c uses cache (gs ++ g ∷ [])).indices ≡ (run_use c uses cache gs).indices ++ (glyph_use c (run_use c uses cache gs).uses cache g).index ∷ []
  run_indices-last [] uses = refl
  run_indices-last (x ∷ xs) uses = ap (λ is. (glyph_use c uses cache x).index ∷ is) (run_indices-last xs (glyph_use c uses cache x).uses)

  pub as_many_indices : (gs : List (Loaded GlyphOf)) (uses : Uses) → length (run_use c uses cache gs).indices ≡ length gs
  as_many_indices [] uses = refl
  as_many_indices (x ∷ xs) uses = ap suc (as_many_indices xs (glyph_use c uses cache x).uses)

  -- the pairs of one glyph more
  pub pairs-last : (is : List ℕ) (ps : List (ℕ × ℕ)) (i : ℕ) (p : ℕ × ℕ) → length is ≡ length ps → run_pairs (is ++ i ∷ []) (ps ++ p ∷ []) ≡ run_pairs is ps ++ i ∷ p.1 ∷ []
  pairs-last [] [] i p h = refl
  pairs-last [] (q ∷ qs) i p h = absurd (omega (arith, h))
  pairs-last (x ∷ xs) [] i p h = absurd (omega (arith, h))
  pairs-last (x ∷ xs) (q ∷ qs) i p h = ap (λ bs. x ∷ q.1 ∷ bs) (pairs-last xs qs i p (omega (arith, h)))

  pub run_more : (a b d : FrameWriter) (gs : List (Loaded GlyphOf)) → a.confirmed ≡ c → Writes a b (λ uses. run_sending (run_use c uses cache gs)) → Writes b d (λ uses. used (glyph_use b.confirmed uses cache g))
      → Writes a d (λ uses. run_sending (run_use c uses cache (gs ++ g ∷ [])))
  run_more a b d gs is p q =
      writes_as a d _ _
      (λ uses stands.
      let r = run_use c uses cache gs in
      ap (λ k. sending (r.orders ++ (glyph_use k r.uses cache g).orders) (glyph_use k r.uses cache g).uses) (p.0 ∙ is)
      ∙ (ap (λ os. sending os (glyph_use c r.uses cache g).uses) (sym (run_orders-last gs uses))
      ∙ ap (λ us. sending (run_use c uses cache (gs ++ g ∷ [])).orders us) (sym (run_uses-last gs uses))))
      (writes_then a b d (λ uses. run_sending (run_use c uses cache gs)) (λ uses. used (glyph_use b.confirmed uses cache g)) p q)

  -- and the pairs that were made
  pub pairs_more : (a b : FrameWriter) (gs : List (Loaded GlyphOf)) (ps : List (ℕ × ℕ)) (p : ℕ × ℕ) (pairs : List ℕ) (index : ℕ) → cache < 10 → length gs ≡ length ps → a.confirmed ≡ c
      → Writes a b (λ uses. run_sending (run_use c uses cache gs))
      → ((uses : Uses) → CachesStand a.confirmed a.caches uses → pairs ≡ run_pairs (run_use c uses cache gs).indices ps)
      → ((uses : Uses) → CachesStand b.confirmed b.caches uses → index ≡ (glyph_use b.confirmed uses cache g).index)
      → (uses : Uses) → CachesStand a.confirmed a.caches uses → pairs ++ index % 256 ∷ p.1 ∷ [] ≡ run_pairs (run_use c uses cache (gs ++ g ∷ [])).indices (ps ++ p ∷ [])
  pairs_more a b gs ps p pairs index few many is wrote old gives uses stands =
      let r = run_use c uses cache gs in
      let later = subst (λ k. CachesStand k b.caches r.uses) (sym wrote.0) (wrote.1 uses stands).caches in
      let here : index ≡ (glyph_use c r.uses cache g).index = gives r.uses later ∙ ap (λ k. (glyph_use k r.uses cache g).index) (wrote.0 ∙ is) in
      let below = glyph_below c r.uses cache g few in
      let low : index % 256 ≡ (glyph_use c r.uses cache g).index = omega (arith, here, below) in
      ap (λ bs. bs ++ index % 256 ∷ p.1 ∷ []) (old uses stands)
      ∙ (ap (λ i. run_pairs r.indices ps ++ i ∷ p.1 ∷ []) low
      ∙ (sym (pairs-last r.indices ps (glyph_use c r.uses cache g).index p (as_many_indices gs uses ∙ many))
      ∙ ap (λ is. run_pairs is (ps ++ p ∷ [])) (sym (run_indices-last gs uses))))

-- ---- tiles

abbrev pub tile_bytes_of : Confirmed → Bool → Size → ℕ × List ℕ → List ℕ
tile_bytes_of c fast size tile = tile_packet (depth_of c) fast c.no_header (tile_on size tile.0) tile.1

flat_map-last : {A : Type 0} (f : A → List ℕ) (xs : List A) (x : A) → flat_map f (xs ++ x ∷ []) ≡ flat_map f xs ++ f x
flat_map-last f [] x = append-nil (f x)
flat_map-last f (y ∷ ys) x = ap (λ bs. f y ++ bs) (flat_map-last f ys x) ∙ sym (append_assoc (f y) (flat_map f ys) (f x))

-- the writer after the packets of tiles
abbrev pub with_tiles : FrameWriter → Size → List (ℕ × List ℕ) → FrameWriter
with_tiles w size ts = record w { updates = record w.updates { packets = w.updates.packets ++ flat_map (tile_bytes_of w.confirmed w.updates.fast size) ts } }

pub tiles_more : (a b : FrameWriter) (u : Gathering) (size : Size) (ts : List (ℕ × List ℕ)) (t : ℕ × List ℕ) (r : Rect) (pixels : List ℕ) → b ≡ with_tiles a size ts
    → u ≡ with_packet b.updates (tile_packet (depth_of b.confirmed) b.updates.fast b.confirmed.no_header r pixels) → r ≡ tile_on size t.0 → pixels ≡ t.1 → record b { updates = u } ≡ with_tiles a size (ts ++ t ∷ [])
tiles_more a b u size ts t r pixels wrote is place cut =
    let f = tile_bytes_of a.confirmed a.updates.fast size in
    let bytes : (a.updates.packets ++ flat_map f ts) ++ f t ≡ a.updates.packets ++ flat_map f (ts ++ t ∷ []) =
    append_assoc a.updates.packets (flat_map f ts) (f t) ∙ ap (λ bs. a.updates.packets ++ bs) (sym (flat_map-last f ts t)) in
    let after : FrameWriter → Gathering → FrameWriter = λ w g. record w { updates = g } in
    let one : FrameWriter → Rect → List ℕ → List ℕ = λ w q ps. tile_packet (depth_of w.confirmed) w.updates.fast w.confirmed.no_header q ps in
    let made : List ℕ → FrameWriter = λ ps. record a { updates = record a.updates { packets = ps } } in
    ap (λ g. after b g) (is ∙ (ap (λ q. with_packet b.updates (one b q pixels)) place ∙ ap (λ ps. with_packet b.updates (one b (tile_on size t.0) ps)) cut))
    ∙ (ap (λ w. after w (with_packet w.updates (one w (tile_on size t.0) t.1))) wrote
    ∙ ap made bytes)

-- ---- a drawing by its shape

-- what was written for a shape is what its drawing sends
pub arm : (a b : FrameWriter) (sent : Sent) (p : Pending) (d : Drawing) (shape : Shape) → p ≡ sent.pending → d ≡ p.drawing → d.shape ≡ shape
    → Writes a b (λ uses. sending_by a.confirmed uses (record { pending = p; position = sent.position }) d.clip shape) → Writes a b (λ uses. sending_of a.confirmed uses sent)
arm a b sent p d shape pe de is h =
    writes_as a b _ _
    (λ uses stands.
    ap (λ (s : Shape). sending_by a.confirmed uses (record { pending = p; position = sent.position }) d.clip s) (sym is)
    ∙ (ap (λ (x : Drawing). sending_by a.confirmed uses (record { pending = p; position = sent.position }) x.clip x.shape) de
    ∙ ap (λ (q : Pending). sending_of a.confirmed uses (record { pending = q; position = sent.position })) pe))
    h
