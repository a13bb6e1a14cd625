-- Two entries and uses of A, B, A, C, B, A, here keys 7, 8 and 9: Miss 0, Miss 1, Hit 0, Miss 1, Miss 0, Miss 1.
use Rattle.std.proofs.Common.{◌≡◌, ℕ, Bool, true, false, List, [], ◌∷◌, refl}
use Rattle.cache_plan.specs.CacheUse.{misses, cache_index, uses_of, held_keys}

abbrev answer : List ℕ → ℕ → Bool × ℕ
answer past k = (misses 2 past k, cache_index 2 past k)

first_use_of_a : answer [] 7 ≡ (true, 0)
first_use_of_a = refl

first_use_of_b : answer (7 ∷ []) 8 ≡ (true, 1)
first_use_of_b = refl

second_use_of_a : answer (8 ∷ 7 ∷ []) 7 ≡ (false, 0)
second_use_of_a = refl

use_of_c_in_place_of_b : answer (7 ∷ 8 ∷ 7 ∷ []) 9 ≡ (true, 1)
use_of_c_in_place_of_b = refl

use_of_b_in_place_of_a : answer (9 ∷ 7 ∷ 8 ∷ 7 ∷ []) 8 ≡ (true, 0)
use_of_b_in_place_of_a = refl

use_of_a_in_place_of_c : answer (8 ∷ 9 ∷ 7 ∷ 8 ∷ 7 ∷ []) 7 ≡ (true, 1)
use_of_a_in_place_of_c = refl

held_at_the_end : held_keys 2 (7 ∷ 8 ∷ 9 ∷ 7 ∷ 8 ∷ 7 ∷ []) ≡ 7 ∷ 8 ∷ []
held_at_the_end = refl

one_cache_of_several : uses_of 3 ((3, 8) ∷ (1, 5) ∷ (3, 7) ∷ []) ≡ 8 ∷ 7 ∷ []
one_cache_of_several = refl
