-- Channels one by one.
use Rattle.std.proofs.Common.{◌≡◌, ℕ, suc, ◌+◌, ◌<◌, ◌-◌, List, ap, ◌∙◌, sym, arith}
use Rattle.std.specs.Prelude.{Ok, Err}
use Rattle.wire_num.specs.Field.{then_read, bytes_at}
use Rattle.wire_num.specs.Layout.{Any, fields_at}
use Rattle.gcc_per.specs.ClientNetwork.{channel_definitions}

step : (n k : ℕ) → k < n → channel_definitions (n - k) ≡ Any 12 (channel_definitions (n - (k + 1)))
step n k h =
    let e : n - k ≡ suc (n - (k + 1)) = omega (arith, h) in
    ap channel_definitions e

-- a channel is there
pub one_channel : (n k : ℕ) (bs skipped more : List ℕ) → k < n → bytes_at 12 bs ≡ Ok (skipped, more)
    → fields_at (channel_definitions (n - (k + 1))) more ≡ fields_at (channel_definitions (n - k)) bs
one_channel n k bs skipped more h e =
    sym (ap (λ l. fields_at l bs) (step n k h) ∙ ap (λ r. then_read r (λ _ rest. fields_at (channel_definitions (n - (k + 1))) rest)) e)

-- a channel isn't there
pub no_channel : (n k : ℕ) (bs left : List ℕ) → k < n → bytes_at 12 bs ≡ Err left → fields_at (channel_definitions (n - k)) bs ≡ Err left
no_channel n k bs left h e =
    ap (λ l. fields_at l bs) (step n k h) ∙ ap (λ r. then_read r (λ _ rest. fields_at (channel_definitions (n - (k + 1))) rest)) e
