-- What a cache answers to a use, and which caches a history of uses leads to.
use Rattle.std.specs.Prelude.{◌≡◌, ℕ, Bool, true, false, List, map}
use Rattle.cache_plan.specs.CacheUse.{misses, cache_index, last_index, held_keys}
use Rattle.cache_plan.specs.Kept.{Kept}
use Rattle.cache_plan.specs.declared.uses.Use.{Use}
use Rattle.cache_plan.specs.declared.uses.Use.TheVariants.{Hit, Miss}

abbrev pub use_by : Bool → ℕ → Use
use_by true index = Miss index
use_by false index = Hit index

-- the answer to a use of a key after these uses
abbrev pub use_of : ℕ → List ℕ → ℕ → Use
use_of entries past key = use_by (misses entries past key) (cache_index entries past key)

-- the cache is where these uses lead: it has the keys held, each with the index of its last miss
abbrev pub IsAfterUses : Kept → List ℕ → Type 0
IsAfterUses cache past = cache.held ≡ map (λ key. (key, last_index cache.entries past key)) (held_keys cache.entries past)
