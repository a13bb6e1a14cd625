-- The orders of what is sent hold bytes: numbers of caches, sides, bits, and runs of indices and deltas.
use Rattle.std.proofs.Common.{◌≡◌, ℕ, zero, suc, ◌+◌, ◌*◌, ◌<◌, ◌≤◌, List, [], ◌∷◌, ◌++◌, length, refl, arith, Some, None}
use Rattle.std.specs.Prelude.{⊤, Bool, true, false, ◌&&◌, ◌==◌, nat_lt, Option}
use Rattle.std.proofs.lemmas.Bool.Decides.{nat_tests}
use Rattle.px_core.specs.declared.surface.Size.{Size}
use Rattle.px_core.specs.declared.rectangle.Rect.{Rect}
use Rattle.draw_ops.specs.declared.shape.Shape.{Shape}
use Rattle.draw_ops.specs.declared.shape.Shape.TheVariants.{Fill, Dst, Pat, Copy, Blit, Blit3, Text, Line, Save, Restore, LoadImage, LoadBrush, LoadGlyph}
use Rattle.draw_ops.specs.Content.{ImageOf, GlyphOf}
use Rattle.draw_ops.specs.Slots.{Loaded}
use Rattle.caps_sets.specs.declared.cache_size.CacheSize.{CacheSize}
use Rattle.caps_sets.specs.declared.confirmed.Confirmed.{Confirmed}
use Rattle.caps_sets.specs.Confirmed.{first_cache}
use Rattle.cache_plan.specs.CacheUse.{misses, distinct_keys, oldest_key, new_index, miss_index, index_after, last_index, cache_index, uses_of}
use Rattle.cache_plan.proofs.Indices.{cache_index_below}
use Rattle.frame_rules.specs.Support.{image_cache, run_cache, serves_image, serves_run}
use Rattle.frame_rules.specs.Frame.{Sent}
use Rattle.frame_rules.specs.FrameOrders.{SentOrder, Uses, or_0, use_by, entries_of, first_glyph_cache, brush_cache, brush_use, image_use, glyph_use}
use Rattle.frame_rules.specs.FrameOrders.{run_use, run_pairs}
use Rattle.frame_rules.specs.FrameOrders.{bounds_of, sending_by, sending_of, orders_from, start_orders, black_orders}
use Rattle.frame_rules.specs.FrameOrders.SentOrder.{Drawn, CacheImage, CacheGlyph, CacheBrush}
use Rattle.frame_rules.specs.Describes.{HasAllCaches}
use Rattle.order_fields.specs.NamedDrawing.NamedDrawing.{Pat as PatBlt, Mem as MemBlt, Mem3 as Mem3Blt, Glyphs as GlyphIndex}
use Rattle.frame_laws.specs.Run.{AreDeltas}
use Rattle.frame_laws.proofs.GlyphUse.{glyph_entries}
use Rattle.frame_laws.proofs.SentKeeps.{first_serves}
use Rattle.headline.specs.Sent.{AreBytes}
use Rattle.headline.specs.OrderBytes.{HoldsBytes, HoldBytes}
use Rattle.headline.proofs.OrderBytes.{bytes_nil, bytes_cons}
use Rattle.headline.proofs.PendingHolds.{AreOfBytes, IsSoundIfAny, RunHolds, AllHold, run_of}

pub bytes_held_append : (xs ys : List SentOrder) → HoldBytes xs → HoldBytes ys → HoldBytes (xs ++ ys)
bytes_held_append [] ys h k = k
bytes_held_append (x ∷ xs) ys h k = (h.0, bytes_held_append xs ys h.1 k)

-- a drawing without a run counts no bytes
no_bytes : AreBytes [] × (0 < 256)
no_bytes = (bytes_nil, omega arith)

-- ---- indices and numbers of caches

-- of a cache without entries the index is 0
nothing_below : (n : ℕ) → nat_lt n 0 ≡ true → ⊥
nothing_below n e = grind (arith, nat_tests, e)

miss_is_0 : (past : List ℕ) → ((k : ℕ) → last_index 0 past k ≡ 0) → miss_index 0 past (last_index 0 past) ≡ 0
miss_is_0 past rest = by (nat_lt (length (distinct_keys past)) 0) refl
  where
    by : (b : Bool) → nat_lt (length (distinct_keys past)) 0 ≡ b
        → new_index b (length (distinct_keys past)) (last_index 0 past) (oldest_key 0 past) ≡ 0
    by true e = absurd (nothing_below (length (distinct_keys past)) e)
    by false e = rest (oldest_key 0 past)

after_is_0 : (b : Bool) (past : List ℕ) (k : ℕ) → ((i : ℕ) → last_index 0 past i ≡ 0) → index_after b 0 past (last_index 0 past) k ≡ 0
after_is_0 true past k rest = miss_is_0 past rest
after_is_0 false past k rest = rest k

last_is_0 : (past : List ℕ) (k : ℕ) → last_index 0 past k ≡ 0
last_is_0 [] k = refl
last_is_0 (x ∷ past) k = after_is_0 ((k == x) && misses 0 past x) past k (last_is_0 past)

index_small : (entries : ℕ) (past : List ℕ) (k : ℕ) → entries ≤ 254 → cache_index entries past k < 256
index_small zero past k few = let is = after_is_0 (misses 0 past k) past k (last_is_0 past) in omega (arith, is)
index_small (suc n) past k few = let below = cache_index_below (suc n) past k (omega arith) in omega (arith, below, few)

-- a cache that was chosen is one of these
chosen_few : (serves : CacheSize → Bool) (sizes : List CacheSize) → 0 < length sizes → or_0 (first_cache serves sizes) < length sizes
chosen_few serves sizes some = by (first_cache serves sizes) refl
  where
    by : (o : Option ℕ) → first_cache serves sizes ≡ o → or_0 o < length sizes
    by None e = some
    by (Some k) e = let f = first_serves serves sizes 0 k e in let below = f.1 in omega (arith, below)

image_cache_few : (c : Confirmed) → HasAllCaches c → (o : Option (Loaded ImageOf)) → or_0 (image_cache c o) < 256
image_cache_few c all None = omega arith
image_cache_few c all (Some image) =
    let three = all.bitmaps in
    let few = chosen_few (serves_image image.content) c.bitmaps (omega (arith, three)) in
    omega (arith, few, three)

run_cache_few : (c : Confirmed) → HasAllCaches c → (gs : List (Loaded GlyphOf)) → or_0 (run_cache c gs) < 10
run_cache_few c all gs =
    let ten = all.glyphs in
    let few = chosen_few (serves_run gs) c.glyphs (omega (arith, ten)) in
    omega (arith, few, ten)

-- ---- uses

use_holds : (b : Bool) (index : ℕ) (uses : Uses) (content : ℕ → SentOrder) → HoldsBytes (content index) → HoldBytes (use_by b index uses content).orders
use_holds true index uses content h = (h, tt)
use_holds false index uses content h = tt

image_use_holds : (c : Confirmed) (uses : Uses) (cache : ℕ) (o : Option (Loaded ImageOf)) → cache < 256 → IsSoundIfAny o
    → HoldBytes (image_use c uses cache o).orders
image_use_holds c uses cache None few h = tt
image_use_holds c uses cache (Some image) few h =
    let narrow = h.few_columns in
    let low = h.few_rows in
    use_holds (misses (entries_of c cache) (uses_of cache uses) image.number) (cache_index (entries_of c cache) (uses_of cache uses) image.number)
    ((cache, image.number) ∷ uses) (λ index. CacheImage cache index image.content) (few, omega (arith, narrow), omega (arith, low))

brush_use_holds : (c : Confirmed) (uses : Uses) (o : Option (Loaded (List ℕ))) → HoldBytes (brush_use c uses o).orders
brush_use_holds c uses None = tt
brush_use_holds c uses (Some brush) =
    let past = uses_of brush_cache uses in
    let below = cache_index_below 64 past brush.number (omega arith) in
    use_holds (misses 64 past brush.number) (cache_index 64 past brush.number) ((brush_cache, brush.number) ∷ uses) (λ index. CacheBrush index brush.content)
    (omega (arith, below))

-- ---- runs

abbrev AreSmall : List ℕ → Type 0
AreSmall [] = ⊤
AreSmall (i ∷ is) = (i < 256) × AreSmall is

record RunUseHolds (orders : List SentOrder) (indices : List ℕ) : Type 0 where
  orders_hold : HoldBytes orders
  small : AreSmall indices

index_of_use : (b : Bool) (index : ℕ) (uses : Uses) (content : ℕ → SentOrder) → index < 256 → (use_by b index uses content).index < 256
index_of_use true index uses content h = h
index_of_use false index uses content h = h

run_use_holds : (c : Confirmed) (cache : ℕ) → cache < 10 → (gs : List (Loaded GlyphOf)) (uses : Uses) → AreOfBytes gs
    → RunUseHolds (run_use c uses cache gs).orders (run_use c uses cache gs).indices
run_use_holds c cache few [] uses h = record { orders_hold = tt; small = tt }
run_use_holds c cache few (g ∷ gs) uses h =
    let n = first_glyph_cache + cache in
    let past = uses_of n uses in
    let is = glyph_entries c cache few in
    let index = cache_index (entries_of c n) past g.number in
    let below : index < 256 = index_small (entries_of c n) past g.number (omega (arith, is)) in
    let u = glyph_use c uses cache g in
    let rest = run_use_holds c cache few gs u.uses h.1 in
    let content : ℕ → SentOrder = λ i. CacheGlyph cache i g.content in
    record {
      orders_hold = bytes_held_append u.orders (run_use c u.uses cache gs).orders
          (use_holds (misses (entries_of c n) past g.number) index ((n, g.number) ∷ uses) content (omega (arith, few), h.0)) rest.orders_hold;
      small = (index_of_use (misses (entries_of c n) past g.number) index ((n, g.number) ∷ uses) content below, rest.small);
    }

pairs_are_bytes : (is : List ℕ) (ps : List (ℕ × ℕ)) → AreSmall is → AreDeltas ps → AreBytes (run_pairs is ps)
pairs_are_bytes [] ps h k = bytes_nil
pairs_are_bytes (i ∷ is) [] h k = bytes_nil
pairs_are_bytes (i ∷ is) (p ∷ ps) h k =
    let small = k.0 in
    bytes_cons i (p.1 ∷ run_pairs is ps) h.0 (bytes_cons p.1 (run_pairs is ps) (omega (arith, small)) (pairs_are_bytes is ps h.1 k.1))

pairs_short : (is : List ℕ) (ps : List (ℕ × ℕ)) → length (run_pairs is ps) ≤ 2 * length ps
pairs_short [] ps = omega arith
pairs_short (i ∷ is) [] = omega arith
pairs_short (i ∷ is) (p ∷ ps) = let more = pairs_short is ps in omega (arith, more)

-- ---- what is sent

module _ (c : Confirmed) (all : HasAllCaches c) where
  sending_holds : (uses : Uses) (s : Sent) (clip : Option Rect) (shape : Shape) → RunHolds (run_of shape) → IsSoundIfAny s.pending.image
      → AreOfBytes s.pending.glyphs → HoldBytes (sending_by c uses s clip shape).orders
  sending_holds uses s clip (Fill r color) run image glyphs = (no_bytes, tt)
  sending_holds uses s clip (Dst r code) run image glyphs = (no_bytes, tt)
  sending_holds uses s clip (Pat r code brush) run image glyphs =
      let b = brush_use c uses s.pending.brush in
      bytes_held_append b.orders (Drawn r (PatBlt r code b.index) (bounds_of r clip) ∷ []) (brush_use_holds c uses s.pending.brush) (no_bytes, tt)
  sending_holds uses s clip (Copy r code sx sy) run image glyphs = (no_bytes, tt)
  sending_holds uses s clip (Blit r code slot sx sy) run image glyphs =
      let cache = or_0 (image_cache c s.pending.image) in
      let i = image_use c uses cache s.pending.image in
      bytes_held_append i.orders (Drawn r (MemBlt cache i.index r code sx sy) (bounds_of r clip) ∷ [])
      (image_use_holds c uses cache s.pending.image (image_cache_few c all s.pending.image) image) (no_bytes, tt)
  sending_holds uses s clip (Blit3 r code slot sx sy brush) run image glyphs =
      let cache = or_0 (image_cache c s.pending.image) in
      let i = image_use c uses cache s.pending.image in
      let b = brush_use c i.uses s.pending.brush in
      let last : List SentOrder = Drawn r (Mem3Blt cache i.index r code sx sy b.index) (bounds_of r clip) ∷ [] in
      bytes_held_append i.orders (b.orders ++ last)
      (image_use_holds c uses cache s.pending.image (image_cache_few c all s.pending.image) image)
      (bytes_held_append b.orders last (brush_use_holds c i.uses s.pending.brush) (no_bytes, tt))
  sending_holds uses s clip (Text x y color font run) h image glyphs =
      let cache = or_0 (run_cache c s.pending.glyphs) in
      let g = run_use c uses cache s.pending.glyphs in
      let u = run_use_holds c cache (run_cache_few c all s.pending.glyphs) s.pending.glyphs uses glyphs in
      let few = h.few in
      let short = pairs_short g.indices run in
      bytes_held_append g.orders (Drawn s.pending.rect (GlyphIndex cache x y color (run_pairs g.indices run)) (bounds_of s.pending.rect clip) ∷ [])
      u.orders_hold ((pairs_are_bytes g.indices run u.small h.deltas, omega (arith, few, short)), tt)
  sending_holds uses s clip (Line x0 y0 x1 y1 color) run image glyphs = tt
  sending_holds uses s clip (Save slot r) run image glyphs = (no_bytes, tt)
  sending_holds uses s clip (Restore slot x y) run image glyphs = (no_bytes, tt)
  sending_holds uses s clip (LoadImage slot loaded) run image glyphs = tt
  sending_holds uses s clip (LoadBrush slot brush) run image glyphs = tt
  sending_holds uses s clip (LoadGlyph font code glyph) run image glyphs = tt

  pub orders_hold : (ss : List Sent) (uses : Uses) → AllHold ss → HoldBytes (orders_from c uses ss)
  orders_hold [] uses h = tt
  orders_hold (s ∷ ss) uses h =
      let k = h.0 in
      bytes_held_append (sending_of c uses s).orders (orders_from c (sending_of c uses s).uses ss)
      (sending_holds uses s s.pending.drawing.clip s.pending.drawing.shape k.run k.image k.glyphs)
      (orders_hold ss (sending_of c uses s).uses h.1)

pub start_holds : (b : Bool) → HoldBytes (start_orders b)
start_holds true = (tt, tt)
start_holds false = tt

pub black_holds : (size : Size) (b : Bool) → HoldBytes (black_orders size b)
black_holds size true = (no_bytes, tt)
black_holds size false = tt
