-- Values that are 0, one by one.
use Rattle.std.proofs.Common.{◌≡◌, ℕ, ℤ, suc, ◌+◌, ◌-◌, ◌<◌, List, ap, ◌∙◌, true, arith}
use Rattle.std.specs.Prelude.{pos, ◌&&◌}
use Rattle.std.specs.Ordering.{int_eq}
use Rattle.order_fields.specs.NamedDrawing.{value, are_zero}

-- the first of them is 0, and so the others decide
pub zero_first : (vs : List ℤ) (place k count : ℕ) → k < count → int_eq (value vs (place + k)) (pos 0) ≡ true → are_zero vs (place + k) (count - k) ≡ are_zero vs (place + (k + 1)) (count - (k + 1))
zero_first vs place k count lt test =
    let more : count - k ≡ suc (count - (k + 1)) = omega arith in
    let next : 1 + (place + k) ≡ place + (k + 1) = omega arith in
    ap (λ (n : ℕ). are_zero vs (place + k) n) more
    ∙ ap (λ b. b && are_zero vs (1 + (place + k)) (count - (k + 1))) test
    ∙ ap (λ (p : ℕ). are_zero vs p (count - (k + 1))) next
