-- A tile that was taken out and put back leaves the tiles as they are.
use Rattle.std.proofs.Common.{◌≡◌, ℕ, zero, suc, ◌<◌, List, [], ◌∷◌, map, set, get_or, length, refl, ap, ◌∙◌}
use Rattle.std.proofs.Math.Seq.{map-set_same}

set_again : {A : Type 0} (xs : List A) (i : ℕ) (blank x : A) → set (set xs i blank) i x ≡ set xs i x
set_again [] i blank x = refl
set_again (y ∷ ys) zero blank x = refl
set_again (y ∷ ys) (suc i) blank x = ap (λ zs. y ∷ zs) (set_again ys i blank x)

pub put_back : {A B : Type 0} (f : A → B) (xs : List A) (i : ℕ) (blank x d : A) → i < length xs → f x ≡ f (get_or xs i d) → map f (set (set xs i blank) i x) ≡ map f xs
put_back f xs i blank x d below same = ap (map f) (set_again xs i blank x) ∙ map-set_same f xs i x d same
