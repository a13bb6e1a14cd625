-- Links as they were given.
use Rattle.std.proofs.Common.{◌≡◌, ℕ, zero, suc, List, ◌∷◌, ◌++◌, [], length, true, refl, ap, arith}
use Rattle.std.proofs.lemmas.Bool.Decides.{nat_tests}
use Rattle.std.specs.declared.option.Option.{Option}
use Rattle.std.specs.declared.option.Option.TheVariants.{Some, None}
use Rattle.edge_io.specs.Gate.{Asked, has_room, IsBelow}
use Rattle.serve_tests.specs.CueCounts.{links_of}

pub one_more : (n : ℕ) → links_of (suc n) ≡ links_of n ++ tt ∷ []
one_more zero = refl
one_more (suc n) = ap (λ (l : List (Unit {0})). tt ∷ l) (one_more n)

pub how_many : (n : ℕ) → length (links_of n) ≡ n
how_many zero = refl
how_many (suc n) = ap suc (how_many n)

pub below : (asked : Option Asked) (n : ℕ) → has_room asked n ≡ true → IsBelow (length (links_of n)) asked
below None n e = tt
below (Some asked) n e = rw (how_many n) (grind (arith, nat_tests))
