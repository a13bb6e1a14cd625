-- What contracts see of connections and of their gate: counts, since they tell no content.
use Rattle.std.specs.Prelude.{ℕ, suc, zero, Bool, false, List, [], ◌∷◌}
use Rattle.std.specs.declared.option.Option.{Option}
use Rattle.std.specs.declared.option.Option.TheVariants.{None}
use Rattle.edge_io.specs.Gate.{Asked}

-- how often the halves of a connection have failed
pub record LinkCounts : Type 0 where
  pub read_faults : ℕ
  pub write_faults : ℕ

-- a connection that has just been made
abbrev pub fresh : LinkCounts
fresh = record { read_faults = 0; write_faults = 0 }

-- so many connections, each as it was when it was given
abbrev pub all_fresh : ℕ → List LinkCounts
all_fresh zero = []
all_fresh (suc n) = fresh ∷ all_fresh n

-- the connections given and what came back of them, what was asked, whether the gate has ended, and how often it has failed
pub record GateCounts : Type 0 where
  pub given : List LinkCounts
  pub finished : List LinkCounts
  pub asked : Option Asked
  pub ended : Bool
  pub faults : ℕ

-- a gate before any call
abbrev pub closed_gate : GateCounts
closed_gate = record { given = []; finished = []; asked = None; ended = false; faults = 0 }

-- the connections given and what came back of them, the port that was asked for last, and how often asking has failed
pub record DialCounts : Type 0 where
  pub given : List LinkCounts
  pub finished : List LinkCounts
  pub asked : Option ℕ
  pub faults : ℕ

-- before any call
abbrev pub new_dial : DialCounts
new_dial = record { given = []; finished = []; asked = None; faults = 0 }
