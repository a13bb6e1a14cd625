-- A cache as contracts see it.
use Rattle.std.specs.Prelude.{ℕ, List}

-- the keys held, each with its index, the latest used first, and how many there may be
pub record Kept : Type 0 where
  pub entries : ℕ
  pub held : List (ℕ × ℕ)
