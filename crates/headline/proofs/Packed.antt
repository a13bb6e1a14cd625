-- Cache orders stand at misses, and pixels go packed where that is shorter.
use Rattle.std.proofs.Common.{◌≡◌, ℕ, List, [], ◌∷◌, length, refl, ap}
use Rattle.std.specs.Prelude.{Bool, true, false, ◌&&◌, nat_lt, if◌then◌else◌}
use Rattle.caps_sets.specs.declared.confirmed.Confirmed.{Confirmed}
use Rattle.px_core.specs.declared.depth.Depth.{Depth}
use Rattle.run_lengths.specs.Packer.{packed}
use Rattle.px_core.specs.Pixels.{pixels_bytes}
use Rattle.cache_plan.specs.CacheUse.{misses, cache_index, uses_of}
use Rattle.run_lengths.specs.WirePixels.{PixelData, pixel_data, data_of}
use Rattle.frame_rules.specs.FrameOrders.{SentOrder, Uses, use_by, entries_of, use_of}

-- ---- uses

module _ (c : Confirmed) (uses : Uses) (cache key : ℕ) (content : ℕ → SentOrder) where
  abbrev index : ℕ
  index = cache_index (entries_of c cache) (uses_of cache uses) key

  pub at_a_miss : misses (entries_of c cache) (uses_of cache uses) key ≡ true → (use_of c uses cache key content).orders ≡ content index ∷ []
  at_a_miss h = ap (λ b. (use_by b index ((cache, key) ∷ uses) content).orders) h

  pub at_a_hit : misses (entries_of c cache) (uses_of cache uses) key ≡ false → (use_of c uses cache key content).orders ≡ []
  at_a_hit h = ap (λ b. (use_by b index ((cache, key) ∷ uses) content).orders) h

  pub index_is : (use_of c uses cache key content).index ≡ index
  index_is = by (misses (entries_of c cache) (uses_of cache uses) key)
    where
      by : (b : Bool) → (use_by b index ((cache, key) ∷ uses) content).index ≡ index
      by true = refl
      by false = refl

  pub remembered : (use_of c uses cache key content).uses ≡ (cache, key) ∷ uses
  remembered = by (misses (entries_of c cache) (uses_of cache uses) key)
    where
      by : (b : Bool) → (use_by b index ((cache, key) ∷ uses) content).uses ≡ (cache, key) ∷ uses
      by true = refl
      by false = refl

-- ---- pixels

module _ (depth : Depth) (w : ℕ) (pixels : List ℕ) where
  abbrev shorter : Bool
  shorter = nat_lt (length (packed depth w pixels)) (length (pixels_bytes depth pixels))

  abbrev chosen : Bool → PixelData
  chosen b = if b then pixel_data true (packed depth w pixels) else pixel_data false (pixels_bytes depth pixels)

  chosen_packed : (b : Bool) → (chosen b).is_packed ≡ b
  chosen_packed true = refl
  chosen_packed false = refl

  chosen_so : (b : Bool) → (chosen b).is_packed ≡ true → (chosen b).bytes ≡ packed depth w pixels
  chosen_so true h = refl
  chosen_so false h = absurd (cc h)

  chosen_not : (b : Bool) → (chosen b).is_packed ≡ false → (chosen b).bytes ≡ pixels_bytes depth pixels
  chosen_not true h = absurd (cc h)
  chosen_not false h = refl

  pub packed_where : (no_header : Bool) → (data_of depth no_header w pixels).is_packed ≡ (no_header && shorter)
  packed_where true = chosen_packed shorter
  packed_where false = refl

  pub as_packed : (no_header : Bool) → (data_of depth no_header w pixels).is_packed ≡ true → (data_of depth no_header w pixels).bytes ≡ packed depth w pixels
  as_packed true h = chosen_so shorter h
  as_packed false h = absurd (cc h)

  pub as_they_are : (no_header : Bool) → (data_of depth no_header w pixels).is_packed ≡ false → (data_of depth no_header w pixels).bytes ≡ pixels_bytes depth pixels
  as_they_are true h = chosen_not shorter h
  as_they_are false h = refl
