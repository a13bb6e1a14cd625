-- Which histories of uses the caches of an encoder stand for.
use Rattle.std.specs.Prelude.{◌≡◌, ℕ, ◌<◌, List, [], ◌∷◌, Option, Some, None, ⊤}
use Rattle.draw_ops.specs.Slots.{lookup}
use Rattle.caps_sets.specs.declared.confirmed.Confirmed.{Confirmed}
use Rattle.cache_plan.specs.CacheUse.{uses_of}
use Rattle.cache_plan.specs.Kept.{Kept}
use Rattle.cache_plan.specs.Answers.{IsAfterUses}
use Rattle.frame_rules.specs.FrameOrders.{Uses, entries_of}

-- a cache is where these uses lead; one without entries isn't made
abbrev pub CacheStands : Option Kept → ℕ → List ℕ → Type 0
CacheStands None entries past = entries ≡ 0
CacheStands (Some kept) entries past = (kept.entries ≡ entries) × IsAfterUses kept past

-- each of the fourteen caches is where its uses lead
abbrev pub CachesStand : Confirmed → List (Option Kept) → Uses → Type 0
CachesStand c caches uses = (k : ℕ) → k < 14 → CacheStands (lookup k caches) (entries_of c k) (uses_of k uses)

-- new caches, one for each number of entries
abbrev pub AreNew : List (Option Kept) → List ℕ → Type 0
AreNew [] [] = ⊤
AreNew [] (n ∷ ns) = ⊥
AreNew (o ∷ os) [] = ⊥
AreNew (o ∷ os) (n ∷ ns) = CacheStands o n [] × AreNew os ns
