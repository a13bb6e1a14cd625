-- Domain parameters, field by field.
use Rattle.std.proofs.Common.{◌≡◌, ℕ, suc, ◌+◌, ◌<◌, ◌-◌, List, [], ◌∷◌, ◌++◌, ap, sym, ◌∙◌, arith}
use Rattle.std.specs.Prelude.{Ok, Err}
use Rattle.wire_num.specs.Field.{then_read, bytes_at, wanted}
use Rattle.wire_num.specs.Length.{ber_len_at}
use Rattle.wire_num.specs.Layout.{Layout, Within, Basic, fields_at}
use Rattle.mcs_ber.specs.DomainParameters.{integer, integers, domain_parameters}
use Rattle.mcs_ber.proofs.Within.{within_ok, within_err, map_same}

integers_step : (k : ℕ) → k < 8 → integers (8 - k) ≡ integer (integers (8 - (k + 1)))
integers_step k h =
    let e : 8 - k ≡ suc (8 - (k + 1)) = omega (arith, h) in
    ap integers e

pub one_integer : (k : ℕ) (bs rest : List ℕ) → k < 8 → ((next : Layout) → fields_at (integer next) bs ≡ fields_at next rest)
    → fields_at (integers (8 - (k + 1))) rest ≡ fields_at (integers (8 - k)) bs
one_integer k bs rest h e =
    sym (e (integers (8 - (k + 1)))) ∙ ap (λ l. fields_at l bs) (sym (integers_step k h))

after_tag : (next : Layout) (bs tagged : List ℕ) → wanted (48 ∷ []) bs ≡ Ok ([], tagged)
    → fields_at (domain_parameters next) bs ≡ fields_at (Within Basic (integers 8) next) tagged
after_tag next bs tagged t = ap (λ r. then_read r (λ _ rest. fields_at (Within Basic (integers 8) next) rest)) t

pub parameters_ok : (bs tagged counted content after left : List ℕ) (n : ℕ) → wanted (48 ∷ []) bs ≡ Ok ([], tagged) → ber_len_at tagged ≡ Ok (n, counted)
    → bytes_at n counted ≡ Ok (content, after) → fields_at (integers 8) content ≡ Ok ([], left) → left ≡ []
    → (next : Layout) → fields_at (domain_parameters next) bs ≡ fields_at next after
parameters_ok bs tagged counted content after left n t e h f g next =
    after_tag next bs tagged t ∙ within_ok (integers 8) next tagged counted content after [] left n e h f g ∙ map_same (fields_at next after)

pub parameters_err : (bs tagged counted content after left place : List ℕ) (n : ℕ) → wanted (48 ∷ []) bs ≡ Ok ([], tagged) → ber_len_at tagged ≡ Ok (n, counted)
    → bytes_at n counted ≡ Ok (content, after) → fields_at (integers 8) content ≡ Err left → left ++ after ≡ place
    → (next : Layout) → fields_at (domain_parameters next) bs ≡ Err place
parameters_err bs tagged counted content after left place n t e h f g next =
    after_tag next bs tagged t ∙ within_err (integers 8) next tagged counted content after left n e h f ∙ ap Err g
