-- Sets, one after the other.
use Rattle.std.proofs.Common.{◌≡◌, ℕ, suc, ◌+◌, ◌-◌, ◌<◌, List, length, ap, sym, ◌∙◌, arith}
use Rattle.std.specs.Prelude.{Ok, Err}
use Rattle.std.proofs.lemmas.List.{length-take-le}
use Rattle.wire_num.specs.Field.{then_read, bytes_at}
use Rattle.wire_num.proofs.ReadIsText.{bytes_ok}
use Rattle.caps_sets.specs.declared.sets_so_far.SetsSoFar.{SetsSoFar}
use Rattle.caps_sets.specs.ConfirmActive.{set_at, sets_at}

-- content of n bytes has n bytes
pub content_size : (n : ℕ) (bs content after : List ℕ) → bytes_at n bs ≡ Ok (content, after) → length content ≡ n
content_size n bs content after e =
    let there = bytes_ok n bs (content, after) e in
    sym (ap length there.1) ∙ length-take-le n bs there.0

-- one set of those that are left is there
pub one_set : (n k : ℕ) (s more : SetsSoFar) (bs after : List ℕ) → k < n → set_at s bs ≡ Ok (more, after) → sets_at (n - (k + 1)) more after ≡ sets_at (n - k) s bs
one_set n k s more bs after some e =
    let next : n - k ≡ suc (n - (k + 1)) = omega (arith, some) in
    sym (ap (λ m. sets_at m s bs) next ∙ ap (λ r. then_read r (λ d rest. sets_at (n - (k + 1)) d rest)) e)

-- one of them is refused
pub no_set : (n k : ℕ) (s : SetsSoFar) (bs left : List ℕ) → k < n → set_at s bs ≡ Err left → sets_at (n - k) s bs ≡ Err left
no_set n k s bs left some e =
    let next : n - k ≡ suc (n - (k + 1)) = omega (arith, some) in
    ap (λ m. sets_at m s bs) next ∙ ap (λ r. then_read r (λ d rest. sets_at (n - (k + 1)) d rest)) e
