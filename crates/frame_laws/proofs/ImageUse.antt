-- The use of an image: a hit changes nothing of the client, a miss sends the image to its index.
use Rattle.std.proofs.Common.{◌≡◌, ◌≢◌, ℕ, zero, suc, ◌+◌, ◌*◌, ◌%◌, ◌<◌, ◌≤◌, List, [], ◌∷◌, length, map, refl, ap, sym, ◌∙◌, subst, arith, Some}
use Rattle.std.specs.Prelude.{Bool, true, false, ◌&&◌, ◌==◌, nat_lt, nat_le, min, slice_set, Ok}
use Rattle.std.proofs.lemmas.Bool.{and_from, and_parts}
use Rattle.std.proofs.lemmas.Bool.Decides.{nat_tests}
use Rattle.px_core.specs.declared.depth.Depth.{Depth}
use Rattle.px_core.specs.declared.surface.Size.{Size}
use Rattle.px_core.specs.Depth.{bits_in, bytes_in, shown, shown_colors}
use Rattle.px_core.specs.Picture.{item, turned_over}
use Rattle.px_core.specs.Pixels.{are_pixels}
use Rattle.draw_ops.specs.Content.{ImageOf}
use Rattle.draw_ops.specs.Slots.{Slots, Loaded, lookup, filled_slot}
use Rattle.caps_sets.specs.declared.cache_size.CacheSize.{CacheSize}
use Rattle.caps_sets.specs.declared.confirmed.Confirmed.{Confirmed}
use Rattle.caps_sets.specs.Confirmed.{cache_size}
use Rattle.session_rules.specs.declared.entry.Entry.{Entry}
use Rattle.wire_num.specs.Field.{bind}
use Rattle.order_fields.specs.OrderStream.{Order}
use Rattle.order_fields.specs.OrderStream.Order.{Other}
use Rattle.run_lengths.specs.WirePixels.{PixelData, data_of}
use Rattle.order_means.specs.KeptContent.{padded_image, kept_image, image_cell}
use Rattle.order_means.specs.ClientState.{ClientState, needs, is_bitmap, holds, bitmap_flags, wire_pixels, cached, with_cached, client_after_order}
use Rattle.order_means.specs.ClientState.Fault.{Broken, Oversized}
use Rattle.cache_plan.specs.CacheUse.{with_item, misses, last_index, cache_index, uses_of}
use Rattle.cache_plan.proofs.Indices.{cache_index_below, index_of_use, held_after_use}
use Rattle.frame_rules.specs.FrameOrders.{Uses, Use, use_by, entries_of, image_use, first_glyph_cache, brush_cache}
use Rattle.frame_rules.specs.FrameOrders.SentOrder.{CacheImage}
use Rattle.frame_rules.specs.FrameRead.{cached_bitmap, as_read}
use Rattle.frame_rules.specs.Describes.{image_loaded, CachesAgree, IsSized}
use Rattle.px_core.proofs.Turned.{turned_over-map}
use Rattle.frame_laws.specs.Uses.{IsServed, ImageUsed, client_after_sent}
use Rattle.frame_laws.proofs.TurnedOver.{turned_over_twice, length-turned_over, colors_turned_over, padded_facts}
use Rattle.frame_laws.specs.Sound.{AreColors}
use Rattle.frame_laws.proofs.WireBack.{pixels_back, shown_pixels, length-shown, cell_fits}
use Rattle.frame_laws.proofs.CacheHeld.{holds_hit, holds_miss}

-- ---- lists of caches

pub set_same : {A : Type 0} (xs : List A) (i : ℕ) (x d : A) → i < length xs → item (slice_set xs i x) i d ≡ x
set_same [] i x d h = absurd (omega (arith, h))
set_same (y ∷ ys) zero x d h = refl
set_same (y ∷ ys) (suc i) x d h = set_same ys i x d (omega (arith, h))

pub set_other : {A : Type 0} (xs : List A) (i k : ℕ) (x d : A) → k ≢ i → item (slice_set xs i x) k d ≡ item xs k d
set_other [] i k x d h = refl
set_other (y ∷ ys) zero zero x d h = absurd (h refl)
set_other (y ∷ ys) zero (suc k) x d h = refl
set_other (y ∷ ys) (suc i) zero x d h = refl
set_other (y ∷ ys) (suc i) (suc k) x d h = set_other ys i k x d (λ e. h (ap suc e))

length-set : {A : Type 0} (xs : List A) (i : ℕ) (x : A) → length (slice_set xs i x) ≡ length xs
length-set [] i x = refl
length-set (y ∷ ys) zero x = refl
length-set (y ∷ ys) (suc i) x = ap suc (length-set ys i x)

pub lengths_kept : {A : Type 0} (caches : List (Slots A)) (i index : ℕ) (x : A) → map length (with_cached i index x caches) ≡ map length caches
lengths_kept [] i index x = refl
lengths_kept (s ∷ ss) zero index x = ap (λ n. n ∷ map length ss) (length-set s index (Some x))
lengths_kept (s ∷ ss) (suc i) index x = ap (λ ns. length s ∷ ns) (lengths_kept ss i index x)

abbrev tail_of : List ℕ → List ℕ
tail_of [] = []
tail_of (n ∷ ns) = ns

pub entries_there : {A : Type 0} (caches : List (Slots A)) (sizes : List CacheSize) (i : ℕ) → map length caches ≡ map (λ s. s.entries) sizes
    → length (item caches i []) ≡ (cache_size sizes i).entries
entries_there [] [] i e = refl
entries_there [] (z ∷ zs) i e = absurd (cc e)
entries_there (s ∷ ss) [] i e = absurd (cc e)
entries_there (s ∷ ss) (z ∷ zs) zero e = ap (λ ns. item ns 0 0) e
entries_there (s ∷ ss) (z ∷ zs) (suc i) e = entries_there ss zs i (ap tail_of e)

pub length-caches : {A : Type 0} (caches : List (Slots A)) (sizes : List CacheSize) → map length caches ≡ map (λ s. s.entries) sizes
    → length caches ≡ length sizes
length-caches [] [] e = refl
length-caches [] (z ∷ zs) e = absurd (cc e)
length-caches (s ∷ ss) [] e = absurd (cc e)
length-caches (s ∷ ss) (z ∷ zs) e = ap suc (length-caches ss zs (ap tail_of e))

-- ---- the histories of several caches

pub with_item_false : (b : Bool) (x : ℕ) (xs : List ℕ) → b ≡ false → with_item b x xs ≡ xs
with_item_false b x xs e = ap (λ t. with_item t x xs) e

pub with_item_true : (b : Bool) (x : ℕ) (xs : List ℕ) → b ≡ true → with_item b x xs ≡ x ∷ xs
with_item_true b x xs e = ap (λ t. with_item t x xs) e

pub same_test : (a b : ℕ) → a ≡ b → (a == b) ≡ true
same_test a b h = grind (arith, nat_tests, h)

pub other_test : (a b : ℕ) → a ≢ b → (a == b) ≡ false
other_test a b h = grind (arith, nat_tests, h)

bitmap_entries : (c : Confirmed) (cache : ℕ) → cache < 3 → entries_of c cache ≡ min (cache_size c.bitmaps cache).entries 512
bitmap_entries c cache h = let below : nat_lt cache first_glyph_cache ≡ true = grind (arith, nat_tests, h) in rw below refl

module _ (size : Size) (c : Confirmed) (j : List Entry) (client : ClientState) (uses : Uses) (cache : ℕ) (image : Loaded ImageOf)
    (s : IsServed size c j cache image) (sized : IsSized c client) (caches : CachesAgree size c j uses client) (three : length c.bitmaps ≡ 3) where
  abbrev past : List ℕ
  past = uses_of cache uses

  abbrev entries : ℕ
  entries = entries_of c cache

  abbrev index : ℕ
  index = cache_index entries past image.number

  abbrev later : Uses
  later = (cache, image.number) ∷ uses

  some_entries : 0 < entries
  some_entries =
      let few = s.bitmap in
      let parts = and_parts (nat_le 1 (cache_size c.bitmaps cache).entries) (nat_le (image_cell image.content) (cache_size c.bitmaps cache).cell) s.serves in
      let one = parts.0 in
      let least : 1 ≤ (cache_size c.bitmaps cache).entries = grind (arith, nat_tests, one) in
      rw (bitmap_entries c cache few) (omega (arith, least))

  index_below : index < (cache_size c.bitmaps cache).entries
  index_below =
      let below = cache_index_below entries past image.number some_entries in
      let few = s.bitmap in
      let most : entries ≡ min (cache_size c.bitmaps cache).entries 512 = bitmap_entries c cache few in
      omega (arith, below, most)

  own_history : (k : ℕ) → k ≡ cache → uses_of k later ≡ image.number ∷ past
  own_history k e = subst (λ n. uses_of n later ≡ image.number ∷ past) (sym e) (with_item_true (cache == cache) image.number past (same_test cache cache refl))

  other_history : (k : ℕ) → k ≢ cache → uses_of k later ≡ uses_of k uses
  other_history k ne = with_item_false (k == cache) image.number (uses_of k uses) (other_test k cache ne)

  not_glyph : (k : ℕ) → first_glyph_cache + k ≢ cache
  not_glyph k e = let few = s.bitmap in absurd (omega (arith, e, few))

  not_brush : brush_cache ≢ cache
  not_brush e = let few = s.bitmap in absurd (omega (arith, e, few))

  -- whatever is held in another cache
  abbrev HasImage : ClientState → ℕ → ℕ → Type 0
  HasImage d k key = (x : ImageOf) × (image_loaded size j key ≡ Some x) ×
      (cached k (last_index (entries_of c k) (uses_of k later) key) d.images ≡ Some (kept_image client.depth x))

  abbrev HoldsImages : ClientState → ℕ → Type 0
  HoldsImages d k = (key : ℕ) → misses (entries_of c k) (uses_of k later) key ≡ false → HasImage d k key

  agree_after : (d : ClientState) → d.depth ≡ client.depth → d.glyphs ≡ client.glyphs → d.brushes ≡ client.brushes → ((k : ℕ) → k < 3 → HoldsImages d k) → CachesAgree size c j later d
  agree_after d same gs bs held = record {
    images = λ k key few h. let new = held k few key h in (new.0, new.1, new.2 ∙ ap (λ e. Some (kept_image e new.0)) (sym same));
    glyphs = λ k key few h.
        let e = other_history (first_glyph_cache + k) (not_glyph k) in
        let old = caches.glyphs k key few (rw e at h) in (
          old.0,
          old.1,
          ap (λ p. cached k (last_index (entries_of c (first_glyph_cache + k)) p key) d.glyphs) e
              ∙ ap (cached k (last_index (entries_of c (first_glyph_cache + k)) (uses_of (first_glyph_cache + k) uses) key)) gs ∙ old.2,
        );
    brushes = λ key h.
        let e = other_history brush_cache not_brush in
        let old = caches.brushes key (rw e at h) in (
          old.0,
          old.1,
          ap (λ p. lookup (last_index (entries_of c brush_cache) p key) d.brushes) e
              ∙ ap (lookup (last_index (entries_of c brush_cache) (uses_of brush_cache uses) key)) bs ∙ old.2
              ∙ ap (λ k. Some (shown_colors k old.0)) (sym same),
        );
  }

  same_or_other : (k : ℕ) → (b : Bool) → (k == cache) ≡ b → (d : ClientState) → (k ≡ cache → HoldsImages d k) → (k ≢ cache → HoldsImages d k) → HoldsImages d k
  same_or_other k true e d own other = own (grind (arith, nat_tests, e))
  same_or_other k false e d own other = other (grind (arith, nat_tests, e))

  -- another bitmap cache, whose slots stay
  others_hold : (d : ClientState) (k : ℕ) → k < 3 → k ≢ cache → item d.images k [] ≡ item client.images k [] → HoldsImages d k
  others_hold d k few ne same key h =
      let e = other_history k ne in
      let old = caches.images k key few (rw e at h) in (
        old.0,
        old.1,
        ap (λ p. cached k (last_index (entries_of c k) p key) d.images) e ∙ ap (lookup (last_index (entries_of c k) (uses_of k uses) key)) same
            ∙ old.2,
      )

  old_holds : (key : ℕ) → misses entries past key ≡ false → (x : ImageOf) × (image_loaded size j key ≡ Some x)
      × (lookup (last_index entries past key) (item client.images cache []) ≡ Some (kept_image client.depth x))
  old_holds key h = caches.images cache key s.bitmap h

  -- ---- a hit

  hit_holds : misses entries past image.number ≡ false → (k : ℕ) → k < 3 → HoldsImages client k
  hit_holds hit k few = same_or_other k (k == cache) refl client own (λ ne. others_hold client k few ne refl)
    where
      own : k ≡ cache → HoldsImages client k
      own e = subst (λ n. HoldsImages client n) (sym e) (λ key h.
          let is = own_history cache refl in
          let new = holds_hit (kept_image client.depth) (image_loaded size j) entries past (item client.images cache []) image.number hit old_holds key (rw is at h) in
          (new.0, new.1, ap (λ p. cached cache (last_index entries p key) client.images) is ∙ new.2))

  image_hit : misses entries past image.number ≡ false → ImageUsed size c j client later [] cache index image.content
  image_hit hit =
      let held = hit_holds hit cache s.bitmap image.number (let is = own_history cache refl in rw is (held_after_use entries past image.number some_entries)) in
      let same : held.0 ≡ image.content = cc (sym held.1 ∙ s.loaded) in
      record {
        after = client;
        obeys = refl;
        caches = agree_after client refl refl refl (hit_holds hit);
        sized = sized;
        there = ap (λ i. cached cache i client.images)
            (index_of_use entries past image.number ∙ sym (ap (λ p. last_index entries p image.number) (own_history cache refl)))
            ∙ (held.2 ∙ ap (λ x. Some (kept_image client.depth x)) same);
        below = index_below;
        agrees = λ st w a. a;
      }

  -- ---- a miss

  abbrev kept : ImageOf
  kept = kept_image client.depth image.content

  abbrev filled_with : ImageOf → ClientState
  filled_with x = record client { images = with_cached cache index x client.images }

  there_is_cache : cache < length client.images
  there_is_cache = let few = s.bitmap in let all = length-caches client.images c.bitmaps sized.images in omega (arith, few, all, three)

  filled_own : item (filled_with kept).images cache [] ≡ filled_slot index kept (item client.images cache [])
  filled_own = set_same client.images cache (filled_slot index kept (item client.images cache [])) [] there_is_cache

  inside : index < length (item client.images cache [])
  inside = let all = entries_there client.images c.bitmaps cache sized.images in let below = index_below in omega (arith, all, below)

  miss_holds : (k : ℕ) → k < 3 → HoldsImages (filled_with kept) k
  miss_holds k few = same_or_other k (k == cache) refl (filled_with kept) own
      (λ ne. others_hold (filled_with kept) k few ne (set_other client.images cache k (filled_slot index kept (item client.images cache [])) [] ne))
    where
      own : k ≡ cache → HoldsImages (filled_with kept) k
      own e = subst (λ n. HoldsImages (filled_with kept) n) (sym e) (λ key h.
          let is = own_history cache refl in
          let new = holds_miss (kept_image client.depth) (image_loaded size j) entries past
          (item client.images cache []) image.number image.content s.loaded some_entries inside old_holds key (rw is at h) in (
            new.0,
            new.1,
            ap (λ p. cached cache (last_index entries p key) (filled_with kept).images) is
                ∙ (ap (lookup (last_index entries (image.number ∷ past) key)) filled_own ∙ new.2),
          ))

  bitmap_test : (b : Bool) → (is_bitmap client.depth kept.w kept.h (bits_in client.depth) && (nat_lt cache 3 && (bitmap_flags b == bitmap_flags b))) ≡ true
  bitmap_test b =
      let few = s.bitmap in
      let some_w = s.sound.some_columns in
      let few_w = s.sound.few_columns in
      let some_h = s.sound.some_rows in
      let few_h = s.sound.few_rows in
      let wide : nat_lt 0 kept.w ≡ true = let some : 0 < kept.w = omega (arith, some_w) in grind (arith, nat_tests, some) in
      let narrow : nat_le kept.w 64 ≡ true = let most : kept.w ≤ 64 = omega (arith, few_w) in grind (arith, nat_tests, most) in
      let high : nat_lt 0 kept.h ≡ true = grind (arith, nat_tests, some_h) in
      let low : nat_le kept.h 64 ≡ true = grind (arith, nat_tests, few_h) in
      let four : (kept.w % 4 == 0) ≡ true = let rest : kept.w % 4 ≡ 0 = omega arith in same_test (kept.w % 4) 0 rest in
      let bitmap : nat_lt cache 3 ≡ true = grind (arith, nat_tests, few) in
      and_from _ _ (and_from _ _ (and_from _ _ (and_from _ _ wide narrow) (and_from _ _ high low)) (and_from _ _ four (same_test (bits_in client.depth) (bits_in client.depth) refl)))
      (and_from _ _ bitmap (same_test (bitmap_flags b) (bitmap_flags b) refl))

  holds_test : holds (cache_size c.bitmaps cache) index (bytes_in client.depth * (kept.w * kept.h)) ≡ true
  holds_test =
      let below = index_below in
      let parts = and_parts (nat_le 1 (cache_size c.bitmaps cache).entries) (nat_le (image_cell image.content) (cache_size c.bitmaps cache).cell) s.serves in
      and_from _ _ (grind (arith, nat_tests, below)) (cell_fits client.depth (kept.w * kept.h) (cache_size c.bitmaps cache).cell parts.1)

  few_pixels : length kept.pixels < 65536
  few_pixels =
      let facts = padded_facts image.content s.sound in
      let whole = length-shown client.depth (padded_image image.content).pixels ∙ facts.whole in
      let few_w = s.sound.few_columns in
      let few_h = s.sound.few_rows in
      let narrow : kept.w ≤ 64 = omega (arith, few_w) in
      let one : kept.w * kept.h ≤ 64 * kept.h = grind (arith, narrow) in
      omega (arith, whole, one, few_h)

  abbrev wire : List ℕ
  wire = turned_over kept.w kept.h kept.pixels

  -- the rows of what is shown are shown
  wire_shown : AreColors (padded_image image.content).pixels → are_pixels client.depth wire ≡ true
  wire_shown colors = let p = padded_image image.content in
      ap (are_pixels client.depth) (turned_over-map (shown client.depth) p.w p.h p.pixels)
      ∙ shown_pixels client.depth (turned_over p.w p.h p.pixels) (colors_turned_over p.w p.h p.pixels colors)

  abbrev from_wire : List ℕ → ClientState
  from_wire pixels = filled_with (record { w = kept.w; h = kept.h; pixels = pixels })

  -- the bytes of the pixels, and the order, as they are read at a depth
  abbrev data_at : Depth → PixelData
  data_at d = let k = kept_image d image.content in data_of d c.no_header k.w (turned_over k.w k.h k.pixels)

  abbrev read_at : Depth → Order
  read_at d = Other (cached_bitmap d cache index image.content (data_at d))

  bitmap_obeyed : client_after_order c size client (as_read c (CacheImage cache index image.content)) ≡ Ok (filled_with kept)
  bitmap_obeyed =
      let facts = padded_facts image.content s.sound in
      let d = data_at client.depth in
      let some_w = s.sound.some_columns in
      let some : 0 < kept.w = omega (arith, some_w) in
      let whole : length kept.pixels ≡ kept.w * kept.h = length-shown client.depth (padded_image image.content).pixels ∙ facts.whole in
      let n = length-turned_over kept.w kept.h kept.pixels whole in
      let few = few_pixels in
      ap (λ k. client_after_order c size client (read_at k)) (sym sized.depth)
      ∙ ap (λ t. needs t Broken (bind (wire_pixels client.depth d.is_packed kept.w kept.h d.bytes)
      (λ pixels. needs (holds (cache_size c.bitmaps cache) index (bytes_in client.depth * (kept.w * kept.h))) (Oversized cache index)
      (Ok (from_wire (turned_over kept.w kept.h pixels)))))) (bitmap_test d.is_packed)
      ∙ ap (λ o. bind o (λ pixels. needs (holds (cache_size c.bitmaps cache) index (bytes_in client.depth * (kept.w * kept.h))) (Oversized cache index)
      (Ok (from_wire (turned_over kept.w kept.h pixels)))))
      (pixels_back client.depth c.no_header kept.w kept.h wire some s.sound.some_rows n (omega (arith, n, whole, few))
      (wire_shown facts.colors))
      ∙ ap (λ t. needs t (Oversized cache index) (Ok (from_wire (turned_over kept.w kept.h wire)))) holds_test
      ∙ ap (λ ps. Ok (from_wire ps)) (turned_over_twice kept.w kept.h kept.pixels whole)

  image_miss : ImageUsed size c j client later (CacheImage cache index image.content ∷ []) cache index image.content
  image_miss = record {
    after = filled_with kept;
    obeys = ap (λ r. bind r (λ d. client_after_sent c size d [])) bitmap_obeyed;
    caches = agree_after (filled_with kept) refl refl refl miss_holds;
    sized = record { depth = sized.depth; images = lengths_kept client.images cache index kept ∙ sized.images; glyphs = sized.glyphs; brushes = sized.brushes };
    there = ap (lookup index) filled_own ∙ filled_at index (item client.images cache []) inside;
    below = index_below;
    agrees = λ st w a. record { shown = a.shown; blocks = a.blocks; filled = a.filled };
  }
    where
      filled_at : (i : ℕ) (slots : Slots ImageOf) → i < length slots → lookup i (filled_slot i kept slots) ≡ Some kept
      filled_at i [] h = absurd (omega (arith, h))
      filled_at zero (x ∷ slots) h = refl
      filled_at (suc i) (x ∷ slots) h = filled_at i slots (omega (arith, h))

  abbrev used : Bool → Use
  used b = use_by b index later (λ i. CacheImage cache i image.content)

  -- a use of the image, whether it hits or misses
  pub image_used : ImageUsed size c j client (image_use c uses cache (Some image)).uses (image_use c uses cache (Some image)).orders cache
      (image_use c uses cache (Some image)).index image.content
  image_used = by (misses entries past image.number) refl
    where
      by : (b : Bool) → misses entries past image.number ≡ b → ImageUsed size c j client (used (misses entries past image.number)).uses
          (used (misses entries past image.number)).orders cache (used (misses entries past image.number)).index image.content
      by true e = subst (λ b. ImageUsed size c j client (used b).uses (used b).orders cache (used b).index image.content) (sym e) image_miss
      by false e = subst (λ b. ImageUsed size c j client (used b).uses (used b).orders cache (used b).index image.content) (sym e) (image_hit e)
