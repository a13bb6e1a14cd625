-- Rows that are written place by place.
use Rattle.std.proofs.Common.{◌≡◌, ℕ, zero, suc, ◌+◌, ◌≤◌, ◌<◌, List, [], ◌∷◌, length, get_or, ap, sym, ◌∙◌, arith, inl, inr}
use Rattle.std.specs.Prelude.{Option, None, slice_set}
use Rattle.std.proofs.lemmas.Bool.{cases_lt}
use Rattle.std.proofs.lemmas.List.{get_or-set_other}
use Rattle.std.proofs.lemmas.Grind.{get_or-set_at}

module _ (row : List (Option ℕ)) (k : ℕ) (v : Option ℕ) (want : ℕ → Option ℕ) where
  pub set_next : k < length row → ((j : ℕ) → j < k → get_or row j None ≡ want j) → v ≡ want k → (j : ℕ) → j < k + 1 → get_or (slice_set row k v) j None ≡ want j
  set_next below before here j lt = elim (cases_lt j k) [
    | inl less ↦ get_or-set_other row k j v None (λ e. absurd (omega (arith, less, e))) ∙ before j less
    | inr ge ↦ let same : j ≡ k = omega (arith, lt, ge) in get_or-set_at row k j v None same below ∙ here ∙ ap want (sym same)
  ]

  pub set_later : ((j : ℕ) → k ≤ j → get_or row j None ≡ want j) → (j : ℕ) → k + 1 ≤ j → get_or (slice_set row k v) j None ≡ want j
  set_later after j le = get_or-set_other row k j v None (λ e. absurd (omega (arith, le, e))) ∙ after j (omega (arith, le))

-- the pixel that was read at a place of a row
pub read_pixel : (row : List (Option ℕ)) (k : ℕ) (pixel : Option ℕ) → k < length row → pixel ≡ get_or row k pixel → pixel ≡ get_or row k None
read_pixel [] k pixel below is = absurd (omega (arith, below))
read_pixel (p ∷ row) zero pixel below is = is
read_pixel (p ∷ row) (suc k) pixel below is = read_pixel row k pixel (omega (arith, below)) is
