-- Each cache order of a run's glyphs is for an index that the run's order names, and that order names the indices of its glyphs' uses.
use Rattle.std.proofs.Common.{◌≡◌, ℕ, ◌+◌, ◌≤◌, List, [], ◌∷◌, ◌++◌, length, refl, ap, sym, arith, inl, inr}
use Rattle.std.specs.Prelude.{Bool, true, false}
use Rattle.draw_ops.specs.Content.{GlyphOf}
use Rattle.draw_ops.specs.Slots.{Loaded}
use Rattle.caps_sets.specs.declared.confirmed.Confirmed.{Confirmed}
use Rattle.cache_plan.specs.CacheUse.{misses, cache_index, uses_of}
use Rattle.frame_rules.specs.FrameOrders.{SentOrder, Uses, use_by, entries_of, first_glyph_cache, glyph_use, run_use, run_pairs}
use Rattle.frame_rules.specs.FrameOrders.SentOrder.{Drawn, CacheImage, CacheGlyph, CacheBrush, FrameMarker}
use Rattle.headline.specs.Runs.{indices_in, IsOrderOfRun, AreOrdersOfRun}
use Rattle.headline.proofs.Packed.{index_is}

indices_of_pairs : (is : List ℕ) (ps : List (ℕ × ℕ)) → length is ≤ length ps → indices_in (run_pairs is ps) ≡ is
indices_of_pairs [] ps h = refl
indices_of_pairs (i ∷ is) [] h = absurd (omega (arith, h))
indices_of_pairs (i ∷ is) (p ∷ ps) h = ap (λ (l : List ℕ). i ∷ l) (indices_of_pairs is ps (omega (arith, h)))

as_many : (c : Confirmed) (cache : ℕ) (gs : List (Loaded GlyphOf)) (uses : Uses) → length (run_use c uses cache gs).indices ≡ length gs
as_many c cache [] uses = refl
as_many c cache (g ∷ gs) uses = let rest = as_many c cache gs (glyph_use c uses cache g).uses in omega (arith, rest)

pub named_indices : (c : Confirmed) (uses : Uses) (cache : ℕ) (gs : List (Loaded GlyphOf)) (run : List (ℕ × ℕ)) → length gs ≤ length run
    → indices_in (run_pairs (run_use c uses cache gs).indices run) ≡ (run_use c uses cache gs).indices
named_indices c uses cache gs run h =
    let same = as_many c cache gs uses in
    indices_of_pairs (run_use c uses cache gs).indices run (omega (arith, same, h))

-- ---- orders

later : (cache i : ℕ) (is : List ℕ) (os : List SentOrder) → AreOrdersOfRun cache is os → AreOrdersOfRun cache (i ∷ is) os
later cache i is [] h = tt
later cache i is (Drawn touched d bounds ∷ os) h = absurd h.0
later cache i is (CacheImage of_cache at_index image ∷ os) h = absurd h.0
later cache i is (CacheGlyph of_cache at_index glyph ∷ os) h = ((h.0.0, inr h.0.1), later cache i is os h.1)
later cache i is (CacheBrush entry brush ∷ os) h = absurd h.0
later cache i is (FrameMarker ends ∷ os) h = absurd h.0

of_run_append : (cache : ℕ) (is : List ℕ) (xs ys : List SentOrder) → AreOrdersOfRun cache is xs → AreOrdersOfRun cache is ys
    → AreOrdersOfRun cache is (xs ++ ys)
of_run_append cache is [] ys h k = k
of_run_append cache is (x ∷ xs) ys h k = (h.0, of_run_append cache is xs ys h.1 k)

own_order : (cache : ℕ) (is : List ℕ) (b : Bool) (index : ℕ) (uses : Uses) (content : ℕ → SentOrder) → IsOrderOfRun cache is (content index)
    → AreOrdersOfRun cache is (use_by b index uses content).orders
own_order cache is true index uses content h = (h, tt)
own_order cache is false index uses content h = tt

pub orders_of_run : (c : Confirmed) (cache : ℕ) (gs : List (Loaded GlyphOf)) (uses : Uses)
    → AreOrdersOfRun cache (run_use c uses cache gs).indices (run_use c uses cache gs).orders
orders_of_run c cache [] uses = tt
orders_of_run c cache (g ∷ gs) uses =
    let n = first_glyph_cache + cache in
    let past = uses_of n uses in
    let u = glyph_use c uses cache g in
    let rest = run_use c u.uses cache gs in
    let content : ℕ → SentOrder = λ index. CacheGlyph cache index g.content in
    of_run_append cache (u.index ∷ rest.indices) u.orders rest.orders
    (own_order cache (u.index ∷ rest.indices) (misses (entries_of c n) past g.number) (cache_index (entries_of c n) past g.number) ((n, g.number) ∷ uses)
    content (refl, inl (sym (index_is c uses n g.number content))))
    (later cache u.index rest.indices rest.orders (orders_of_run c cache gs u.uses))
