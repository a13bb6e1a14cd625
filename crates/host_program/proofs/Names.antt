-- A client's name.
use Rattle.std.proofs.Common.{◌≡◌, ◌≢◌, ℕ, List, [], ◌∷◌, length, refl, ap, sym, ◌∙◌}
use Rattle.std.proofs.lemmas.List.{length-map}
use Rattle.std.specs.Prelude.{true, Option, None, map}
use Rattle.host_program.specs.Answering.{client_of_args}
use Rattle.script_rules.specs.Script.{is_name}

-- a name has a byte
pub is_some_name : (name : List ℕ) → is_name name ≡ true → name ≢ []
is_some_name [] h = absurd (cc h)
is_some_name (b ∷ bs) h = λ e. cc e

-- another number of arguments asks for nothing
none_of : (args : List (List ℕ)) → (length args ≡ 3 → ⊥) → client_of_args args ≡ None
none_of [] h = refl
none_of (w ∷ []) h = refl
none_of (w ∷ r ∷ []) h = refl
none_of (w ∷ r ∷ o ∷ []) h = absurd (h refl)
none_of (w ∷ r ∷ o ∷ m ∷ args) h = refl

pub not_three : {A : Type 0} (f : A → List ℕ) (args : List A) → (length args ≡ 3 → ⊥) → None ≡ client_of_args (map f args)
not_three f args h =
    let same : length (map f args) ≡ length args = simp length-map in
    sym (none_of (map f args) (λ k. h (sym same ∙ k)))
