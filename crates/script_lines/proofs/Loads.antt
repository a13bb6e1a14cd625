-- Loads, by their fields and the one word after them.
use Rattle.std.proofs.Common.{◌≡◌, ℕ, List, [], ◌∷◌, refl, ap, sym, ◌∙◌, Some, None}
use Rattle.std.specs.Prelude.{Option, ℤ, option_map}
use Rattle.std.specs.Option.{option_and_then}
use Rattle.std.proofs.lemmas.List.{append-nil}
use Rattle.draw_ops.specs.declared.shape.Shape.{Shape}
use Rattle.script_rules.specs.Fields.{Field, Values, values_of}
use Rattle.script_lines.specs.Reading.{Reads, ReadsNone, loaded, load_of}

-- words that aren't the fields load nothing
pub no_load : {fields : List Field} {words : List (List ℕ)} (make : List ℤ → List (List ℕ) → Option Shape) → ReadsNone fields words → load_of fields make words ≡ None
no_load {fields} {words} make r =
    ap (λ o. option_and_then (λ vs. option_map loaded (make vs.numbers vs.words)) o) (ap (λ x. values_of x words) (sym (append-nil fields)) ∙ r.none [])

-- the fields, and then other words
pub load_read : {fields : List Field} {numbers : List ℤ} {old new : List (List ℕ)} (make : List ℤ → List (List ℕ) → Option Shape)
    → Reads fields numbers old new → load_of fields make old ≡ option_map loaded (make numbers new)
load_read {fields} {numbers} {old} {new} make r =
    ap (λ o. option_and_then (λ vs. option_map loaded (make vs.numbers vs.words)) o)
    (ap (λ x. values_of x old) (sym (append-nil fields)) ∙ r.values [] ∙ ap (λ ns. let vs : Values = record { numbers = ns; words = new } in Some vs) (append-nil numbers))

-- what asks for one word gets nothing of none and of several
pub no_one_word : (make : List (List ℕ) → Option Shape) (rest : List (List ℕ)) → ((word : List ℕ) → rest ≡ word ∷ [] → ⊥) → make [] ≡ None
    → ((word next : List ℕ) (words : List (List ℕ)) → make (word ∷ next ∷ words) ≡ None) → option_map loaded (make rest) ≡ None
no_one_word make [] other none more = ap (option_map loaded) none
no_one_word make (word ∷ []) other none more = absurd (other word refl)
no_one_word make (word ∷ next ∷ words) other none more = ap (option_map loaded) (more word next words)
