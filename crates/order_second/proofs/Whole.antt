-- So many rows have no pixels over.
use Rattle.std.proofs.Common.{ap, ◌∙◌, ◌≡◌, ℕ, ◌*◌, ◌%◌}
use Rattle.std.proofs.Math.Nat.{mul-mod_right}

pub whole_rows : (w h n : ℕ) → n ≡ w * h → n % w ≡ 0
whole_rows w h n e = ap (λ k. k % w) e ∙ mul-mod_right w h
