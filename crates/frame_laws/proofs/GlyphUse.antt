-- The use of a glyph, and of the glyphs of a run.
use Rattle.std.proofs.Common.{◌≡◌, ◌≢◌, ℕ, eqb, ◌+◌, ◌-◌, ◌<◌, ◌≤◌, List, [], ◌∷◌, ◌++◌, length, replicate, refl, ap, sym, ◌∙◌, subst, arith, append_assoc, length-append, Some}
use Rattle.std.specs.Prelude.{Bool, true, false, ◌||◌, ◌==◌, nat_lt, nat_le, min, ⊤, Ok}
use Rattle.std.proofs.lemmas.Bool.{and_from}
use Rattle.std.proofs.lemmas.List.{length-replicate}
use Rattle.std.proofs.lemmas.Bool.Decides.{nat_tests}
use Rattle.px_core.specs.declared.surface.Size.{Size}
use Rattle.px_core.specs.Picture.{item}
use Rattle.draw_ops.specs.Content.{GlyphOf}
use Rattle.draw_ops.specs.Slots.{Loaded, lookup, filled_slot}
use Rattle.caps_sets.specs.declared.confirmed.Confirmed.{Confirmed}
use Rattle.caps_sets.specs.Confirmed.{cache_size}
use Rattle.session_rules.specs.declared.entry.Entry.{Entry}
use Rattle.wire_num.specs.Field.{bind}
use Rattle.px_core.specs.Depth.{shown_colors}
use Rattle.run_lengths.specs.WirePixels.{padded}
use Rattle.order_means.specs.KeptContent.{kept_image, padded_glyph, glyph_cell_bytes}
use Rattle.order_means.specs.ClientState.{ClientState, needs, holds, cached, with_cached, client_after_order}
use Rattle.order_means.specs.ClientState.Fault.{Broken, Oversized}
use Rattle.cache_plan.specs.CacheUse.{is_used, distinct_keys, misses, last_index, cache_index, uses_of}
use Rattle.cache_plan.proofs.Indices.{cache_index_below, index_of_use}
use Rattle.cache_plan.proofs.Recency.{same_as_itself}
use Rattle.frame_rules.specs.Support.{used_glyph_entries}
use Rattle.frame_rules.specs.FrameOrders.{Uses, Use, use_by, entries_of, glyph_use, run_use, first_glyph_cache, brush_cache}
use Rattle.frame_rules.specs.FrameOrders.SentOrder.{CacheGlyph}
use Rattle.frame_rules.specs.FrameRead.{as_read}
use Rattle.frame_rules.specs.Describes.{glyph_loaded, CachesAgree, IsSized}
use Rattle.frame_laws.specs.Run.{AreServed, keys_of}
use Rattle.frame_laws.specs.Uses.{client_after_sent, IsGlyphServed, GlyphsUsed}
use Rattle.frame_laws.proofs.CacheHeld.{holds_hit, holds_miss}
use Rattle.frame_laws.proofs.BlitSent.{orders_then}
use Rattle.frame_laws.proofs.RunHeld.{run_past, held_in_run, index_kept}
use Rattle.frame_laws.proofs.ImageUse.{set_same, set_other, lengths_kept, entries_there, length-caches, with_item_false, with_item_true, same_test, other_test}

pub glyph_entries : (c : Confirmed) (cache : ℕ) → cache < 10 → entries_of c (first_glyph_cache + cache) ≡ min (cache_size c.glyphs cache).entries 254
glyph_entries c cache h =
    let past : nat_lt (first_glyph_cache + cache) first_glyph_cache ≡ false = grind (arith, nat_tests) in
    let below : nat_lt (first_glyph_cache + cache) brush_cache ≡ true = grind (arith, nat_tests, h) in
    let back : (first_glyph_cache + cache) - first_glyph_cache ≡ cache = omega arith in
    rw (past, below) (ap (λ n. used_glyph_entries (cache_size c.glyphs n)) back)

length-padded_bits : (glyph : GlyphOf) → length (padded_glyph glyph).bits ≡ glyph_cell_bytes glyph
length-padded_bits glyph =
    let n = length glyph.bits in
    let least : n ≤ padded n = omega arith in
    let more : List ℕ = replicate (padded n - n) 0 in
    let added : length more ≡ padded n - n = length-replicate (padded n - n) 0 in
    omega (arith, least, added, length-append glyph.bits more)

module _ (size : Size) (c : Confirmed) (j : List Entry) (client : ClientState) (uses : Uses) (cache : ℕ) (glyph : Loaded GlyphOf) (few : cache < 10)
    (some : 0 < entries_of c (first_glyph_cache + cache)) (s : IsGlyphServed size c j cache glyph) (sized : IsSized c client)
    (caches : CachesAgree size c j uses client) (ten : length c.glyphs ≡ 10) where
  abbrev number : ℕ
  number = first_glyph_cache + cache

  abbrev past : List ℕ
  past = uses_of number uses

  abbrev entries : ℕ
  entries = entries_of c number

  abbrev index : ℕ
  index = cache_index entries past glyph.number

  abbrev later : Uses
  later = (number, glyph.number) ∷ uses

  index_below : index < (cache_size c.glyphs cache).entries
  index_below = let below = cache_index_below entries past glyph.number some in let most : entries
      ≡ min (cache_size c.glyphs cache).entries 254 = glyph_entries c cache few in omega (arith, below, most)

  own_history : (k : ℕ) → k ≡ number → uses_of k later ≡ glyph.number ∷ past
  own_history k e = subst (λ n. uses_of n later ≡ glyph.number ∷ past) (sym e)
      (with_item_true (number == number) glyph.number past (same_test number number refl))

  other_history : (k : ℕ) → k ≢ number → uses_of k later ≡ uses_of k uses
  other_history k ne = with_item_false (k == number) glyph.number (uses_of k uses) (other_test k number ne)

  abbrev HoldsGlyphs : ClientState → ℕ → Type 0
  HoldsGlyphs d k = (key : ℕ) → misses (entries_of c (first_glyph_cache + k)) (uses_of (first_glyph_cache + k) later) key ≡ false
      → (x : GlyphOf) × (glyph_loaded size j key ≡ Some x) ×
      (cached k (last_index (entries_of c (first_glyph_cache + k)) (uses_of (first_glyph_cache + k) later) key) d.glyphs ≡ Some (padded_glyph x))

  agree_after : (d : ClientState) → d.depth ≡ client.depth → d.images ≡ client.images → d.brushes ≡ client.brushes → ((k : ℕ) → k < 10 → HoldsGlyphs d k) → CachesAgree size c j later d
  agree_after d same is bs held = record {
    images = λ k key below h.
        let e = other_history k (λ b. absurd (omega (arith, below, b))) in
        let old = caches.images k key below (rw e at h) in (
          old.0,
          old.1,
          ap (λ p. cached k (last_index (entries_of c k) p key) d.images) e
              ∙ (ap (cached k (last_index (entries_of c k) (uses_of k uses) key)) is ∙ old.2) ∙ ap (λ e. Some (kept_image e old.0)) (sym same),
        );
    glyphs = λ k key below h. held k below key h;
    brushes = λ key h.
        let e = other_history brush_cache (λ b. absurd (omega (arith, few, b))) in
        let old = caches.brushes key (rw e at h) in (
          old.0,
          old.1,
          ap (λ p. lookup (last_index (entries_of c brush_cache) p key) d.brushes) e
              ∙ (ap (lookup (last_index (entries_of c brush_cache) (uses_of brush_cache uses) key)) bs ∙ old.2) ∙ ap (λ e. Some (shown_colors e old.0)) (sym same),
        );
  }

  same_or_other : (k : ℕ) → (b : Bool) → (k == cache) ≡ b → (d : ClientState) → (k ≡ cache → HoldsGlyphs d k) → (k ≢ cache → HoldsGlyphs d k) → HoldsGlyphs d k
  same_or_other k true e d own other = own (grind (arith, nat_tests, e))
  same_or_other k false e d own other = other (grind (arith, nat_tests, e))

  others_hold : (d : ClientState) (k : ℕ) → k < 10 → k ≢ cache → item d.glyphs k [] ≡ item client.glyphs k [] → HoldsGlyphs d k
  others_hold d k below ne same key h =
      let e = other_history (first_glyph_cache + k) (λ b. ne (omega (arith, b))) in
      let old = caches.glyphs k key below (rw e at h) in (
        old.0,
        old.1,
        ap (λ p. cached k (last_index (entries_of c (first_glyph_cache + k)) p key) d.glyphs) e
            ∙ (ap (lookup (last_index (entries_of c (first_glyph_cache + k)) (uses_of (first_glyph_cache + k) uses) key)) same ∙ old.2),
      )

  old_holds : (key : ℕ) → misses entries past key ≡ false → (x : GlyphOf) × (glyph_loaded size j key ≡ Some x)
      × (lookup (last_index entries past key) (item client.glyphs cache []) ≡ Some (padded_glyph x))
  old_holds key h = caches.glyphs cache key few h

  hit_holds : misses entries past glyph.number ≡ false → (k : ℕ) → k < 10 → HoldsGlyphs client k
  hit_holds hit k below = same_or_other k (k == cache) refl client own (λ ne. others_hold client k below ne refl)
    where
      own : k ≡ cache → HoldsGlyphs client k
      own e = subst (λ n. HoldsGlyphs client n) (sym e) (λ key h.
          let is = own_history number refl in
          let new = holds_hit padded_glyph (glyph_loaded size j) entries past (item client.glyphs cache []) glyph.number hit old_holds key (rw is at h) in
          (new.0, new.1, ap (λ p. cached cache (last_index entries p key) client.glyphs) is ∙ new.2))

  glyph_hit : misses entries past glyph.number ≡ false → GlyphsUsed size c j client later []
  glyph_hit hit = record { after = client; obeys = refl; caches = agree_after client refl refl refl (hit_holds hit); sized = sized; agrees = λ st w a. a }

  abbrev kept : GlyphOf
  kept = padded_glyph glyph.content

  abbrev filled : ClientState
  filled = record client { glyphs = with_cached cache index kept client.glyphs }

  there_is_cache : cache < length client.glyphs
  there_is_cache = let all = length-caches client.glyphs c.glyphs sized.glyphs in omega (arith, few, all, ten)

  filled_own : item filled.glyphs cache [] ≡ filled_slot index kept (item client.glyphs cache [])
  filled_own = set_same client.glyphs cache (filled_slot index kept (item client.glyphs cache [])) [] there_is_cache

  inside : index < length (item client.glyphs cache [])
  inside = let all = entries_there client.glyphs c.glyphs cache sized.glyphs in let below = index_below in omega (arith, all, below)

  miss_holds : (k : ℕ) → k < 10 → HoldsGlyphs filled k
  miss_holds k below = same_or_other k (k == cache) refl filled own
      (λ ne. others_hold filled k below ne (set_other client.glyphs cache k (filled_slot index kept (item client.glyphs cache [])) [] ne))
    where
      own : k ≡ cache → HoldsGlyphs filled k
      own e = subst (λ n. HoldsGlyphs filled n) (sym e) (λ key h.
          let is = own_history number refl in
          let new = holds_miss padded_glyph (glyph_loaded size j) entries past
          (item client.glyphs cache []) glyph.number glyph.content s.loaded some inside old_holds key (rw is at h) in (
            new.0,
            new.1,
            ap (λ p. cached cache (last_index entries p key) filled.glyphs) is
                ∙ (ap (lookup (last_index entries (glyph.number ∷ past) key)) filled_own ∙ new.2),
          ))

  glyph_obeyed : client_after_order c size client (as_read c (CacheGlyph cache index glyph.content)) ≡ Ok filled
  glyph_obeyed =
      let below = index_below in
      let cell = s.cell in
      let bits = length-padded_bits glyph.content in
      let ten_caches : nat_lt cache 10 ≡ true = grind (arith, nat_tests, few) in
      let there : nat_lt index (cache_size c.glyphs cache).entries ≡ true = grind (arith, nat_tests, below) in
      let fits : nat_le (length kept.bits) (cache_size c.glyphs cache).cell ≡ true =
      let most : length kept.bits ≤ (cache_size c.glyphs cache).cell = omega (arith, bits, cell) in grind (arith, nat_tests, most) in
      ap (λ t. needs t Broken (needs (holds (cache_size c.glyphs cache) index (length kept.bits)) (Oversized (3 + cache) index) (Ok filled))) ten_caches
      ∙ ap (λ t. needs t (Oversized (3 + cache) index) (Ok filled)) (and_from _ _ there fits)

  glyph_miss : GlyphsUsed size c j client later (CacheGlyph cache index glyph.content ∷ [])
  glyph_miss = record {
    after = filled;
    obeys = ap (λ r. bind r (λ d. client_after_sent c size d [])) glyph_obeyed;
    caches = agree_after filled refl refl refl miss_holds;
    sized = record { depth = sized.depth; images = sized.images; glyphs = lengths_kept client.glyphs cache index kept ∙ sized.glyphs; brushes = sized.brushes };
    agrees = λ st w a. record { shown = a.shown; blocks = a.blocks; filled = a.filled };
  }

  abbrev used_as : Bool → Use
  used_as b = use_by b index later (λ i. CacheGlyph cache i glyph.content)

  pub glyph_is_used : GlyphsUsed size c j client (glyph_use c uses cache glyph).uses (glyph_use c uses cache glyph).orders
  glyph_is_used = by (misses entries past glyph.number) refl
    where
      by : (b : Bool) → misses entries past glyph.number ≡ b → GlyphsUsed size c j client (used_as (misses entries past glyph.number)).uses
          (used_as (misses entries past glyph.number)).orders
      by true e = subst (λ b. GlyphsUsed size c j client (used_as b).uses (used_as b).orders) (sym e) glyph_miss
      by false e = subst (λ b. GlyphsUsed size c j client (used_as b).uses (used_as b).orders) (sym e) (glyph_hit e)

-- a use's history and index, whether it hits or misses
use_facts : (c : Confirmed) (uses : Uses) (cache : ℕ) (glyph : Loaded GlyphOf)
    → ((glyph_use c uses cache glyph).uses ≡ (first_glyph_cache + cache, glyph.number) ∷ uses)
    × ((glyph_use c uses cache glyph).index ≡ cache_index (entries_of c (first_glyph_cache + cache))
    (uses_of (first_glyph_cache + cache) uses) glyph.number)
use_facts c uses cache glyph = by (misses (entries_of c (first_glyph_cache + cache)) (uses_of (first_glyph_cache + cache) uses) glyph.number)
  where
    by : (b : Bool) → ((use_by b (cache_index (entries_of c (first_glyph_cache + cache)) (uses_of (first_glyph_cache + cache) uses) glyph.number)
        ((first_glyph_cache + cache, glyph.number) ∷ uses) (λ i. CacheGlyph cache i glyph.content)).uses ≡ (first_glyph_cache + cache, glyph.number) ∷ uses)
        × ((use_by b (cache_index (entries_of c (first_glyph_cache + cache)) (uses_of (first_glyph_cache + cache) uses) glyph.number)
        ((first_glyph_cache + cache, glyph.number) ∷ uses) (λ i. CacheGlyph cache i glyph.content)).index
        ≡ cache_index (entries_of c (first_glyph_cache + cache)) (uses_of (first_glyph_cache + cache) uses) glyph.number)
    by true = (refl, refl)
    by false = (refl, refl)

module _ (size : Size) (c : Confirmed) (j : List Entry) (cache : ℕ) (few : cache < 10) (some : 0 < entries_of c (first_glyph_cache + cache))
    (ten : length c.glyphs ≡ 10) where
  -- the orders of a run
  pub run_is_used : (gs : List (Loaded GlyphOf)) (client : ClientState) (uses : Uses) → AreServed size c j cache gs → IsSized c client
      → CachesAgree size c j uses client
      → GlyphsUsed size c j client (run_use c uses cache gs).uses (run_use c uses cache gs).orders
  run_is_used [] client uses s sized caches = record { after = client; obeys = refl; caches = caches; sized = sized; agrees = λ st w a. a }
  run_is_used (g ∷ gs) client uses s sized caches =
      let u = glyph_is_used size c j client uses cache g few some s.0 sized caches ten in
      let r = run_is_used gs u.after (glyph_use c uses cache g).uses s.1 u.sized u.caches in
      record {
        after = r.after;
        obeys = orders_then c size client u.after r.after (glyph_use c uses cache g).orders
            (run_use c (glyph_use c uses cache g).uses cache gs).orders u.obeys r.obeys;
        caches = r.caches;
        sized = r.sized;
        agrees = λ st w a. r.agrees st w (u.agrees st w a);
      }

  -- the history after a run
  pub run_history : (gs : List (Loaded GlyphOf)) (uses : Uses) → uses_of (first_glyph_cache + cache) (run_use c uses cache gs).uses
      ≡ run_past (keys_of gs) (uses_of (first_glyph_cache + cache) uses)
  run_history [] uses = refl
  run_history (g ∷ gs) uses =
      let n = first_glyph_cache + cache in
      let one : uses_of n (glyph_use c uses cache g).uses ≡ g.number ∷ uses_of n uses =
      ap (uses_of n) (use_facts c uses cache g).0 ∙ with_item_true (n == n) g.number (uses_of n uses) (same_test n n refl) in
      run_history gs (glyph_use c uses cache g).uses ∙ ap (run_past (keys_of gs)) one

  -- each index of a run has its glyph, once the run is over
  pub record Found (client : ClientState) (index : ℕ) (g : Loaded GlyphOf) : Type 0 where
    pub there : cached cache index client.glyphs ≡ Some (padded_glyph g.content)
    pub below : index < (cache_size c.glyphs cache).entries
    pub byte : index < 254

  abbrev pub AllFound : ClientState → List ℕ → List (Loaded GlyphOf) → Type 0
  AllFound client [] [] = ⊤
  AllFound client [] (g ∷ gs) = ⊥
  AllFound client (i ∷ is) [] = ⊥
  AllFound client (i ∷ is) (g ∷ gs) = Found client i g × AllFound client is gs

  used_last : (before : List ℕ) (k : ℕ) → is_used k (before ++ k ∷ []) ≡ true
  used_last [] k = let same = same_as_itself k in rw same refl
  used_last (x ∷ xs) k = or_true (eqb k x) (is_used k (xs ++ k ∷ [])) (used_last xs k)
    where
      or_true : (a b : Bool) → b ≡ true → (a || b) ≡ true
      or_true true b h = refl
      or_true false b h = h

  used_before : (before more : List ℕ) (k : ℕ) → is_used k before ≡ true → is_used k (before ++ more) ≡ true
  used_before [] more k h = absurd (cc h)
  used_before (x ∷ xs) more k h = by (eqb k x) refl (λ rest. used_before xs more k rest)
    where
      by : (b : Bool) → eqb k x ≡ b → (is_used k xs ≡ true → is_used k (xs ++ more) ≡ true) → (eqb k x || is_used k (xs ++ more)) ≡ true
      by true e rest = ap (λ t. t || is_used k (xs ++ more)) e
      by false e rest = ap (λ t. t || is_used k (xs ++ more)) e ∙ rest (ap (λ t. t || is_used k xs) (sym e) ∙ h)

  run_past-last : (before : List ℕ) (k : ℕ) (past : List ℕ) → run_past (before ++ k ∷ []) past ≡ k ∷ run_past before past
  run_past-last [] k older = refl
  run_past-last (x ∷ xs) k older = run_past-last xs k (x ∷ older)

  run_past-append : (xs ys past : List ℕ) → run_past (xs ++ ys) past ≡ run_past ys (run_past xs past)
  run_past-append [] ys older = refl
  run_past-append (x ∷ xs) ys older = run_past-append xs ys (x ∷ older)

  pub run_found : (gs : List (Loaded GlyphOf)) (uses : Uses) (before past : List ℕ) (last : Uses) (d : ClientState) → AreServed size c j cache gs
      → uses_of (first_glyph_cache + cache) uses ≡ run_past before past
      → uses_of (first_glyph_cache + cache) last ≡ run_past (before ++ keys_of gs) past
      → length (distinct_keys (before ++ keys_of gs)) ≤ entries_of c (first_glyph_cache + cache) → CachesAgree size c j last d
      → AllFound d (run_use c uses cache gs).indices gs
  run_found [] uses before past last d s now end small caches = tt
  run_found (g ∷ gs) uses before past last d s now end small caches =
      let n = first_glyph_cache + cache in
      let e = entries_of c n in
      let k = g.number in
      let so_far = before ++ k ∷ [] in
      let ks = before ++ keys_of (g ∷ gs) in
      let again : so_far ++ keys_of gs ≡ ks = append_assoc before (k ∷ []) (keys_of gs) in
      let in_run : is_used k ks ≡ true = subst (λ l. is_used k l ≡ true) again (used_before so_far (keys_of gs) k (used_last before k)) in
      let held : misses e (uses_of n last) k ≡ false = ap (λ p. misses e p k) end ∙ held_in_run e k ks past in_run small in
      let content = caches.glyphs cache k few held in
      let same : content.0 ≡ g.content = cc (sym content.1 ∙ s.0.loaded) in
      let index : (glyph_use c uses cache g).index ≡ last_index e (uses_of n last) k =
      (use_facts c uses cache g).1 ∙ (ap (λ p. cache_index e p k) now ∙ (index_of_use e (run_past before past) k
      ∙ (ap (λ p. last_index e p k) (sym (run_past-last before k past))
      ∙ (sym (index_kept e k so_far (keys_of gs) past (used_last before k) (subst (λ l. length (distinct_keys l) ≤ e) (sym again) small))
      ∙ ap (λ p. last_index e p k) (sym (run_past-append so_far (keys_of gs) past) ∙ (ap (λ l. run_past l past) again ∙ sym end)))))) in
      let under : cache_index e (uses_of n uses) k < e = cache_index_below e (uses_of n uses) k some in
      let is = (use_facts c uses cache g).1 in
      let most = glyph_entries c cache few in
      let next : uses_of n (glyph_use c uses cache g).uses ≡ run_past so_far past =
      ap (uses_of n) (use_facts c uses cache g).0 ∙
      (with_item_true (n == n) k (uses_of n uses) (same_test n n refl) ∙ (ap (λ p. k ∷ p) now ∙ sym (run_past-last before k past))) in (
        record {
          there = ap (λ i. cached cache i d.glyphs) index ∙ (content.2 ∙ ap (λ x. Some (padded_glyph x)) same);
          below = omega (arith, is, under, most);
          byte = omega (arith, is, under, most);
        },
        run_found gs (glyph_use c uses cache g).uses so_far past last d s.1 next (end ∙ ap (λ l. run_past l past) (sym again))
            (subst (λ l. length (distinct_keys l) ≤ e) (sym again) small) caches,
      )
