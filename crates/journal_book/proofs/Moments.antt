-- How a run of a store's calls goes on.
use Rattle.std.proofs.Common.{ℕ, inl, inr, ⊎_elim, List, arith}
use Rattle.edge_io.specs.Store.{Elapses, LeavesOnly}

module _ {D : Type 0} (moment : D → ℕ) (left_since : D → ℕ → List ℕ → Type 0) where
  -- before the first call
  pub started : (old : D) (P : List ℕ → Type 0) → ((c : List ℕ) → left_since old (moment old) c → P c) → LeavesOnly moment left_since old old P
  started old P here = record { later = omega arith; each = here; before = λ t c le left. inl left }

  -- one call more, within which a crash leaves what has P
  pub goes_on : (old mid new : D) (P within : List ℕ → Type 0) → LeavesOnly moment left_since old mid P → Elapses (moment mid) (moment new) (left_since mid) (left_since new) within
      → ((c : List ℕ) → within c → P c) → LeavesOnly moment left_since old new P
  goes_on old mid new P within so_far time here = record {
    later = omega (arith, so_far.later, time.later);
    each = λ c left. ⊎_elim (so_far.each c) (here c) (time.nothing_else (moment old) c so_far.later left);
    before = λ t c le left. ⊎_elim (so_far.before t c le) (λ now. inr (here c now)) (time.nothing_else t c (omega (arith, le, so_far.later)) left);
  }

  -- a run more
  pub goes_further : (old mid new : D) (P Q : List ℕ → Type 0) → LeavesOnly moment left_since old mid P → LeavesOnly moment left_since mid new Q → ((c : List ℕ) → Q c → P c)
      → LeavesOnly moment left_since old new P
  goes_further old mid new P Q so_far more weaker = record {
    later = omega (arith, so_far.later, more.later);
    each = λ c left. ⊎_elim (so_far.each c) (weaker c) (more.before (moment old) c so_far.later left);
    before = λ t c le left. ⊎_elim (so_far.before t c le) (λ q. inr (weaker c q)) (more.before t c (omega (arith, le, so_far.later)) left);
  }
