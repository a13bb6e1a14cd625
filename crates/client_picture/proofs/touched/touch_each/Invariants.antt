use Rattle.std.proofs.Common.{◌≡◌, ℕ, ◌≤◌, ◌<◌, get_or, false}
use Rattle.client_picture.proofs.touched.touch_each.Given as goal

-- the rows so far are touched
abbrev pub invariant-loop-y : goal.invariant-loop-y
invariant-loop-y l = (k : ℕ) → get_or l.touched k false ≡ false → (get_or l.initial.touched k false ≡ false) × (l.fn.part.y ≤ k → k < l.y → ⊥)
