-- What contracts see of a gate of the tests: counts, since its links tell no content.
use Rattle.std.specs.Prelude.{ℕ, suc, zero, Bool, false, List, [], ◌∷◌}
use Rattle.std.specs.declared.option.Option.{Option}
use Rattle.std.specs.declared.option.Option.TheVariants.{None}
use Rattle.edge_io.specs.Gate.{Asked}

-- so many links, of which nothing is seen
abbrev pub links_of : ℕ → List (Unit {0})
links_of zero = []
links_of (suc n) = tt ∷ links_of n

-- the links given, how often the reader of each that came back had failed, what was asked, and whether the gate has ended
pub record GateCounts : Type 0 where
  pub given : List (Unit {0})
  pub finished : List ℕ
  pub asked : Option Asked
  pub ended : Bool

-- a gate before any call
abbrev pub new_gate : GateCounts
new_gate = record { given = []; finished = []; asked = None; ended = false }
