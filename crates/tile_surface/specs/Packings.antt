-- Tiles that were packed.
use Rattle.std.specs.Prelude.{ℕ, List}
use Rattle.px_core.specs.declared.depth.Depth.{Depth}

-- the colours of a tile, row by row from the top, and the depth at which they are packed
pub record PackingOf : Type 0 where
  pub pixels : List ℕ
  pub depth : Depth
