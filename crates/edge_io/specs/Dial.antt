-- What asking for a link does.
use Rattle.std.specs.Prelude.{◌≡◌, ℕ, List, [], ◌∷◌, ◌++◌}
use Rattle.std.specs.declared.option.Option.{Option}
use Rattle.std.specs.declared.option.Option.TheVariants.{Some, None}
use Rattle.edge_io.specs.Faults.{Rose}

-- a link that is handed out stands at the end of those given
abbrev pub Hands : {L : Type 0} → Option L → List L → List L → Type 0
Hands (Some link) old new = new ≡ old ++ link ∷ []
Hands None old new = new ≡ old

-- there is no link only where the count of faults rose, and one leaves it
abbrev pub DialCause : {L : Type 0} → Option L → ℕ → ℕ → Type 0
DialCause (Some link) before now = now ≡ before
DialCause None before now = Rose before now
