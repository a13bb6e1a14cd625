-- What the calls of a store do to its bytes, and what a crash may leave of them.
use Rattle.std.specs.Prelude.{◌≡◌, ◌⊎◌, ℕ, ◌≤◌, Bool, true, false, List, ◌++◌, take, ⊤}
use Rattle.std.specs.declared.option.Option.{Option}
use Rattle.std.specs.declared.option.Option.TheVariants.{Some, None}
use Rattle.edge_io.specs.declared.store.Opened.{Opened}
use Rattle.edge_io.specs.declared.store.Opened.TheVariants.{Open, Failed}
use Rattle.edge_io.specs.Faults.{Rose}

-- an opening fails only where the count of faults rose, and any other leaves it
abbrev pub OpenCause : Opened → ℕ → ℕ → Type 0
OpenCause Open before now = now ≡ before
OpenCause Failed before now = Rose before now

-- so does a cut
abbrev pub CutCause : Bool → ℕ → ℕ → Type 0
CutCause true before now = now ≡ before
CutCause false before now = Rose before now

-- the bytes that are told are the first so many of the others
abbrev pub CutsTo : ℕ → Option (List ℕ) → Option (List ℕ) → Type 0
CutsTo length (Some old) new = new ≡ Some (take length old)
CutsTo length None new = new ≡ None

-- a cut that fails may have been made
abbrev pub Cuts : Bool → ℕ → Option (List ℕ) → Option (List ℕ) → Type 0
Cuts true length old new = CutsTo length old new
Cuts false length old new = (new ≡ old) ⊎ CutsTo length old new

-- ---- a crash

-- a crash leaves just the bytes that stand there, where they are told
abbrev pub IsSettled : Option (List ℕ) → (List ℕ → Type 0) → Type 0
IsSettled (Some bytes) outcomes = (c : List ℕ) → outcomes c → c ≡ bytes
IsSettled None outcomes = ⊤

-- a front of these bytes stands behind the others
pub record AddsFront (bytes before after : List ℕ) : Type 0 where
  pub front : List ℕ
  pub rest : List ℕ
  pub whole : bytes ≡ front ++ rest
  pub added : after ≡ before ++ front

-- what stood there stands, or it is cut
abbrev pub CutsOrStays : ℕ → List ℕ → List ℕ → Type 0
CutsOrStays length before after = (after ≡ before) ⊎ (after ≡ take length before)

-- what may be left is something that might have been left before, after a step
abbrev pub After : (List ℕ → List ℕ → Type 0) → (List ℕ → Type 0) → List ℕ → Type 0
After step old c = (d : List ℕ) × old d × step d c

abbrev pub Follows : (List ℕ → List ℕ → Type 0) → (List ℕ → Type 0) → (List ℕ → Type 0) → Type 0
Follows step old new = (c : List ℕ) → new c → After step old c

-- time goes on over a call: a crash since a moment before it might have left what it might have left before, or what a crash within the call may leave
pub record Elapses (before now : ℕ) (past since : ℕ → List ℕ → Type 0) (within : List ℕ → Type 0) : Type 0 where
  pub later : before ≤ now
  pub nothing_else : (t : ℕ) (c : List ℕ) → t ≤ before → since t c → past t c ⊎ within c
  pub keeps : (t : ℕ) (c : List ℕ) → t ≤ before → past t c → since t c

-- a crash at any moment since `old` leaves what has P
pub record LeavesOnly {D : Type 0} (moment : D → ℕ) (left_since : D → ℕ → List ℕ → Type 0) (old new : D) (P : List ℕ → Type 0) : Type 0 where
  pub later : moment old ≤ moment new
  pub each : (c : List ℕ) → left_since new (moment old) c → P c
  -- for a run that began earlier
  pub before : (t : ℕ) (c : List ℕ) → t ≤ moment old → left_since new t c → left_since old t c ⊎ P c
