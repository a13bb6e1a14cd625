-- Rows of pixels of which a part is made anew.
use Rattle.std.specs.Prelude.{◌≡◌, ℕ, ◌<◌, ◌≤◌, List, length, slice_index}
use Rattle.rop3_core.specs.Rop3.{ternary_raster}

-- each place from a first one to before an end holds f of it, and each other one is as it was
pub record AreMade (f : ℕ → ℕ) (from end : ℕ) (old new : List ℕ) : Type 0 where
  pub sized : length new ≡ length old
  pub made : (k : ℕ) → from ≤ k → k < end → slice_index new k ≡ f k
  pub before : (k : ℕ) → k < from → slice_index new k ≡ slice_index old k
  pub behind : (k : ℕ) → end ≤ k → slice_index new k ≡ slice_index old k

-- each of these places is what the operation of a code makes of the pixels there
abbrev pub AreMixed : ℕ → List ℕ → List ℕ → ℕ → ℕ → List ℕ → List ℕ → Type 0
AreMixed code p s from end old new = AreMade (λ k. ternary_raster code (slice_index p k) (slice_index s k) (slice_index old k)) from end old new
