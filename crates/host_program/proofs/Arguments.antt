-- Another number of arguments than a mode has asks for nothing.
use Rattle.std.proofs.Common.{◌≡◌, ℕ, List, [], ◌∷◌, length, refl, sym, ◌∙◌}
use Rattle.std.proofs.lemmas.List.{length-map}
use Rattle.std.specs.Prelude.{None, map}
use Rattle.host_program.specs.Loading.{load_of_args}
use Rattle.host_program.specs.Recording.{stop_of_args}

no_load : (args : List (List ℕ)) → (length args ≡ 2 → ⊥) → load_of_args args ≡ None
no_load [] h = refl
no_load (seed ∷ []) h = refl
no_load (seed ∷ steps ∷ []) h = absurd (h refl)
no_load (seed ∷ steps ∷ more ∷ args) h = refl

pub not_two : {A : Type 0} (f : A → List ℕ) (args : List A) → (length args ≡ 2 → ⊥) → None ≡ load_of_args (map f args)
not_two f args h =
    let same : length (map f args) ≡ length args = simp length-map in
    sym (no_load (map f args) (λ k. h (sym same ∙ k)))

no_stop : (args : List (List ℕ)) → (length args ≡ 1 → ⊥) → stop_of_args args ≡ None
no_stop [] h = refl
no_stop (stop ∷ []) h = absurd (h refl)
no_stop (stop ∷ more ∷ args) h = refl

pub not_one : {A : Type 0} (f : A → List ℕ) (args : List A) → (length args ≡ 1 → ⊥) → None ≡ stop_of_args (map f args)
not_one f args h =
    let same : length (map f args) ≡ length args = simp length-map in
    sym (no_stop (map f args) (λ k. h (sym same ∙ k)))
