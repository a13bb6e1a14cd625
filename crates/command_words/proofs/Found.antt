-- What the getters of the matches give, by their rows.
use Rattle.std.specs.Prelude.{ℕ, ◌≡◌, List, [], Option, Some, None, option_map, unwrap_or}
use Rattle.std.proofs.Common.{refl, ap, ◌∙◌}
use Rattle.std.specs.Borrow.{Bor}
use Rattle.clap.specs.Words.{first_value, first_of, matched_of, raw_values, all_of, rows_of}
use Rattle.clap.specs.declared.parser.matches.Found.{Found}
use Rattle.clap.proofs.WalkLemmas.{first_value-rows, raw_values-rows}

-- a text that is there, or the empty one
text_or_empty : (o : Option (Bor (List ℕ))) (d : Bor (List ℕ)) → d.now ≡ [] → (unwrap_or o d).now ≡ unwrap_or (option_map (λ s. s.now) o) []
text_or_empty None d e = e
text_or_empty (Some x) d e = refl

-- the first value of an argument, or the empty text
pub first_is : (o : Option (Bor (List ℕ))) (d : Bor (List ℕ)) (f : Found) (id : List ℕ) → d.now ≡ [] → option_map (λ s. s.now) o ≡ first_value f id
    → (unwrap_or o d).now ≡ unwrap_or (first_of id (rows_of f)) []
first_is o d f id e is = text_or_empty o d e ∙ ap (λ t. unwrap_or t []) (is ∙ first_value-rows f id)

-- the values of an argument that has some
pub values_are : (xs : List (List ℕ)) (f : Found) (id : List ℕ) → Some xs ≡ option_map raw_values (matched_of f id) → xs ≡ unwrap_or (all_of id (rows_of f)) []
values_are xs f id is = ap (λ t. unwrap_or t []) (is ∙ raw_values-rows f id)

-- an argument without a value
pub no_values : (f : Found) (id : List ℕ) → None ≡ option_map raw_values (matched_of f id) → [] ≡ unwrap_or (all_of id (rows_of f)) []
no_values f id is = ap (λ t. unwrap_or t []) (is ∙ raw_values-rows f id)
