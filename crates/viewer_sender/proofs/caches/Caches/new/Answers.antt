use Rattle.std.proofs.Common.{◌≡◌, ◌∙◌, ◌+◌, ◌∷◌, [], ◌++◌, List, ℕ, map, take, get_or, length, ap, sym, subst, append_assoc}
use Rattle.std.specs.Prelude.{Option}
use Rattle.std.proofs.lemmas.List.{take_all}
use Rattle.caps_sets.specs.Confirmed.{sized}
use Rattle.cache_plan.specs.Kept.{Kept}
use Rattle.frame_rules.specs.Support.{used_bitmap_entries, used_glyph_entries}
use Rattle.viewer_sender.specs.Stands.{CacheStands, AreNew}
use Rattle.viewer_sender.proofs.NewCaches.{one_more, as_many, map_taken, all_entries, fourteen, new_caches_stand}
use Rattle.viewer_sender.proofs.caches.Caches.new.Goals as goal

pub loop-size-preserved : goal.loop-size-preserved
loop-size-preserved c =
    let items = c.sizes-size-items.result.now in
    let i = c.loop-size.size-index in
    subst (λ (os : List (Option Kept)). AreNew os (map used_bitmap_entries (take (i + 1) items))) (sym c.in_ok-push.ensures.items)
    (subst (λ (ns : List ℕ). AreNew (c.loop-size.caches.items ++ c.in_ok-made.field-0 ∷ []) ns) (sym (map_taken used_bitmap_entries items i (sized 0 0) c.loop-size-test.true))
    (one_more c.loop-size.caches.items (map used_bitmap_entries (take i items)) c.in_ok-made.field-0 (used_bitmap_entries (get_or items i (sized 0 0))) c.loop-size.invariant
    (subst (λ n. CacheStands c.in_ok-made.field-0 n []) c.min.ensures c.in_ok-made.ensures)))

pub loop-size-2-preserved : goal.loop-size-2-preserved
loop-size-2-preserved c =
    let items = c.sizes-size-items-2.result.now in
    let i = c.loop-size-2.size-index in
    let front = map used_bitmap_entries c.args.confirmed.now.bitmaps in
    subst (λ (os : List (Option Kept)). AreNew os (front ++ map used_glyph_entries (take (i + 1) items))) (sym c.in_ok-push-2.ensures.items)
    (subst (λ (ns : List ℕ). AreNew (c.loop-size-2.caches.items ++ c.in_ok-made-2.field-0 ∷ []) ns)
    (append_assoc front (map used_glyph_entries (take i items)) (used_glyph_entries (get_or items i (sized 0 0)) ∷ []) ∙ ap (λ ns. front ++ ns) (sym (map_taken used_glyph_entries items i (sized 0 0) c.loop-size-2-test.true)))
    (one_more c.loop-size-2.caches.items (front ++ map used_glyph_entries (take i items)) c.in_ok-made-2.field-0 (used_glyph_entries (get_or items i (sized 0 0))) c.loop-size-2.invariant
    (subst (λ n. CacheStands c.in_ok-made-2.field-0 n []) c.min-in-loop-size-2.ensures c.in_ok-made-2.ensures)))

three : {A : Type 0} (xs ys : List A) (n : ℕ) → xs ≡ ys → length xs ≡ n → length ys ≡ n
three xs ys n e h = ap length (sym e) ∙ h

-- the caches that are made, one for each number of entries
made_all : (c : goal.In_ok-push-3) → AreNew c.push-2.new.self.items (all_entries c.args.confirmed.now)
made_all c =
    let conf = c.args.confirmed.now in
    let items = c.sizes-size-items-2.result.now in
    let front = map used_bitmap_entries conf.bitmaps in
    let glyphs : map used_glyph_entries (take c.loop-size-2.size-index items) ≡ map used_glyph_entries conf.glyphs =
    ap (map used_glyph_entries) (take_all c.loop-size-2.size-index items c.loop-size-2-test.false ∙ c.sizes-size-items-2.ensures.value) in
    subst (λ (os : List (Option Kept)). AreNew os (all_entries conf)) (sym c.in_ok-push-3.ensures.items)
    (subst (λ (ns : List ℕ). AreNew (c.loop-size-2.caches.items ++ c.in_ok-made-3.field-0 ∷ []) (front ++ ns ++ 64 ∷ [])) glyphs
    (one_more c.loop-size-2.caches.items (front ++ map used_glyph_entries (take c.loop-size-2.size-index items)) c.in_ok-made-3.field-0 64 c.loop-size-2.invariant c.in_ok-made-3.ensures))

pub invariant_of-result : goal.invariant_of-result
invariant_of-result c =
    let conf = c.args.confirmed.now in
    as_many c.push-2.new.self.items (all_entries conf) (made_all c)
    ∙ fourteen conf (three _ _ 3 c.sizes-size-items.ensures.value c.sizes-size-items.ensures.number) (three _ _ 10 c.sizes-size-items-2.ensures.value c.sizes-size-items-2.ensures.number)

pub returns : goal.returns
returns c =
    let conf = c.args.confirmed.now in
    new_caches_stand conf (three _ _ 3 c.sizes-size-items.ensures.value c.sizes-size-items.ensures.number) (three _ _ 10 c.sizes-size-items-2.ensures.value c.sizes-size-items-2.ensures.number)
    c.push-2.new.self.items (made_all c)
