-- What a call that writes at the end of a vector says.
use Rattle.std.specs.Prelude.{◌≡◌, ℕ, List, ◌++◌}

-- new is old and a front of more
pub record AppendsFront (old more new : List ℕ) : Type 0 where
  pub sent : List ℕ
  pub rest : List ℕ
  pub whole : more ≡ sent ++ rest
  pub written : new ≡ old ++ sent
