-- Connections as they were given.
use Rattle.std.proofs.Common.{◌≡◌, ℕ, zero, suc, List, ◌∷◌, ◌++◌, [], length, true, refl, ap, arith}
use Rattle.std.proofs.lemmas.Bool.Decides.{nat_tests}
use Rattle.std.specs.declared.option.Option.{Option}
use Rattle.std.specs.declared.option.Option.TheVariants.{Some, None}
use Rattle.edge_io.specs.Gate.{Asked, has_room, IsBelow}
use Rattle.tcp_edge.specs.Counts.{LinkCounts, fresh, all_fresh}

pub one_more : (n : ℕ) → all_fresh (suc n) ≡ all_fresh n ++ fresh ∷ []
one_more zero = refl
one_more (suc n) = ap (λ (l : List LinkCounts). fresh ∷ l) (one_more n)

pub how_many : (n : ℕ) → length (all_fresh n) ≡ n
how_many zero = refl
how_many (suc n) = ap suc (how_many n)

pub below : (asked : Option Asked) (n : ℕ) → has_room asked n ≡ true → IsBelow (length (all_fresh n)) asked
below None n e = tt
below (Some asked) n e = rw (how_many n) (grind (arith, nat_tests))
