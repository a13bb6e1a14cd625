-- The values of the host's command line, as a request.
use Rattle.std.specs.Prelude.{ℕ, ◌≡◌, List, [], ◌++◌}
use Rattle.std.proofs.Common.{ap, ◌∙◌}
use Rattle.command_words.specs.HostWords.{RequestOf}

-- one member more of nothing
pub onto_none : {A : Type 0} (xs : List A) → xs ≡ [] → (ys : List A) → xs ++ ys ≡ ys
onto_none xs e ys = ap (λ l. l ++ ys) e

-- a request by its parts
abbrev pub made : List ℕ → List (List ℕ) → RequestOf
made mode args = record { mode = mode; args = args }

pub parts_are : (mode other : List ℕ) → mode ≡ other → (args others : List (List ℕ)) → args ≡ others → made mode args ≡ made other others
parts_are mode other e args others es = ap (λ m. made m args) e ∙ ap (λ a. made other a) es
