-- What has to be kept before it is shown.
use Rattle.std.specs.Prelude.{◌≡◌, ℕ, ◌≤◌, Bool, true, false, ⊤}
use Rattle.edge_io.specs.declared.sink.Wrote.{Wrote}
use Rattle.edge_io.specs.declared.sink.Wrote.TheVariants.{All}

-- what a call comes to that has so many first entries kept: `All` where nothing has to be kept; else `All` says that they are kept, and nothing is forgotten
abbrev pub Keeping : Bool → Wrote → ℕ → ℕ → ℕ → Type 0
Keeping false result number before now = result ≡ All
Keeping true result number before now = (before ≤ now) × (result ≡ All → number ≤ now)

-- so many first entries may be shown, of which so many are kept
abbrev pub MayShow : Bool → ℕ → ℕ → Type 0
MayShow false kept number = ⊤
MayShow true kept number = number ≤ kept
