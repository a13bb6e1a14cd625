-- The user data of a request, where a field in the client's data blocks is refused.
use Rattle.std.proofs.Common.{◌≡◌, ℕ, List, ◌++◌, ap, ◌∙◌}
use Rattle.std.specs.Prelude.{Ok, Err}
use Rattle.wire_num.specs.FieldValue.{end_at}
use Rattle.wire_num.specs.Field.{bytes_at}
use Rattle.wire_num.specs.Length.{per_len_at}
use Rattle.gcc_per.specs.declared.gcc_fault.Cause.{Cause}
use Rattle.gcc_per.specs.declared.client_data.ClientData.{ClientData}
use Rattle.gcc_per.specs.Checked.{Checked, plain}
use Rattle.wire_num.specs.Caused.{then_caused, map_caused, before_caused}
use Rattle.gcc_per.specs.ClientData.{client_blocks_at, user_data_at}
use Rattle.gcc_per.proofs.Checked.{go_on_plain}

abbrev pub to_end : ClientData → List ℕ → Checked ClientData
to_end client end = map_caused (λ _. client) (plain (end_at end))

abbrev pub in_content : List ℕ → List ℕ → Checked ClientData
in_content content after = then_caused (before_caused after (client_blocks_at content)) (λ client end. to_end client end)

abbrev pub counted : ℕ → List ℕ → Checked ClientData
counted n more = then_caused (plain (bytes_at n more)) (λ content after. in_content content after)

pub blocks_refused : (bs more content after left place : List ℕ) (n : ℕ) (cause : Cause) → per_len_at bs ≡ Ok (n, more) → bytes_at n more ≡ Ok (content, after)
    → client_blocks_at content ≡ Err (cause, left) → left ++ after ≡ place → user_data_at bs ≡ Err (cause, place)
unfolding user_data_at
blocks_refused bs more content after left place n cause l b h p =
    go_on_plain (per_len_at bs) (λ n more. counted n more) n more l
    ∙ go_on_plain (bytes_at n more) (λ content after. in_content content after) content after b
    ∙ ap (λ r. then_caused (before_caused after r) (λ client end. to_end client end)) h
    ∙ ap (λ xs. Err (cause, xs)) p
