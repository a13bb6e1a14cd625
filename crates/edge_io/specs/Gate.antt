-- What a gate does.
use Rattle.std.specs.Prelude.{◌≡◌, ℕ, ◌<◌, List, [], ◌∷◌, ◌++◌, nat_lt, Bool, true, false, ⊤}
use Rattle.std.specs.declared.option.Option.{Option}
use Rattle.std.specs.declared.option.Option.TheVariants.{Some, None}
use Rattle.edge_io.specs.declared.gate.Next.{Next}
use Rattle.edge_io.specs.declared.gate.Next.TheVariants as next
use Rattle.edge_io.specs.Faults.{Rose}

-- what a gate was asked to open: a port, and the most links
pub record Asked : Type 0 where
  pub port : ℕ
  pub links : ℕ

-- what was asked after a call of listen
abbrev pub asked_after : Bool → ℕ → ℕ → Option Asked → Option Asked
asked_after true port links old = Some (record { port = port; links = links })
asked_after false port links old = old

-- a port and a number of links as they were asked for
abbrev pub asked_of : Option (ℕ × ℕ) → Option Asked
asked_of None = None
asked_of (Some pair) = Some (record { port = pair.0; links = pair.1 })

-- fewer links were given than were asked for
abbrev pub has_room : Option Asked → ℕ → Bool
has_room None given = false
has_room (Some asked) given = nat_lt given asked.links

-- a gate can't be opened only where the count of faults rose, and otherwise leaves it
abbrev pub ListenCause : Bool → ℕ → ℕ → Type 0
ListenCause true before now = now ≡ before
ListenCause false before now = Rose before now

-- a link that is handed out stands at the end of those given
abbrev pub Hands : {L : Type 0} → Next L → List L → List L → Type 0
Hands (next.Link l) old new = new ≡ old ++ l ∷ []
Hands next.End old new = new ≡ old
Hands next.Failed old new = new ≡ old

-- so many given are fewer than were asked for
abbrev pub IsBelow : ℕ → Option Asked → Type 0
IsBelow given None = ⊤
IsBelow given (Some asked) = given < asked.links

-- a link comes only before the end, and while fewer were given than were asked for
abbrev pub MayCome : {L : Type 0} → Next L → ℕ → Option Asked → Bool → Type 0
MayCome (next.Link l) given asked ended = IsBelow given asked × (ended ≡ false)
MayCome next.End given asked ended = ⊤
MayCome next.Failed given asked ended = ⊤

-- an end says that no further link will come, and nothing else says it
abbrev pub Ends : {L : Type 0} → Next L → Bool → Bool → Type 0
Ends (next.Link l) old new = new ≡ old
Ends next.End old new = new ≡ true
Ends next.Failed old new = new ≡ old

-- the next link fails only where the count of faults rose, and any other answer leaves it
abbrev pub NextCause : {L : Type 0} → Next L → ℕ → ℕ → Type 0
NextCause (next.Link l) before now = now ≡ before
NextCause next.End before now = now ≡ before
NextCause next.Failed before now = Rose before now
