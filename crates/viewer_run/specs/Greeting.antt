-- How a client comes to be ready.
use Rattle.std.specs.Prelude.{◌≡◌, ℕ, ⊤, List, [], ◌∷◌, ◌++◌, Result, Ok, Err, Option, Some, None}
use Rattle.std.specs.Io.KnownBytes.{Consumes, Appends}
use Rattle.edge_io.specs.Faults.{Rose}
use Rattle.edge_io.specs.Outside.{Output, Outside}
use Rattle.edge_io.specs.Sink.{WritesFront}
use Rattle.caps_sets.specs.declared.confirmed.Confirmed.{Confirmed}
use Rattle.conn_rules.specs.declared.conn_step.ConnStep.{ConnStep}
use Rattle.conn_rules.specs.declared.conn_step.ConnStep.TheVariants as step
use Rattle.conn_rules.specs.Hearing.{Hearing, heard, end_of}
use Rattle.conn_rules.specs.Hearing.StreamEnd.{RefusedAt}
use Rattle.conn_rules.specs.Placed.{ArePlaced}
use Rattle.serve_rules.specs.Reading.{IsWhole, IsNoRefusal}
use Rattle.serve_rules.specs.declared.ends.ConnEnd.{ConnEnd}
use Rattle.serve_rules.specs.declared.ends.ConnEnd.TheVariants.{Left, Refused, Truncated, NotInvited, RoomFull, JoinsSpent, ReadFault, WriteFault, NotStored, OutOfMemory}
use Rattle.serve_rules.specs.declared.ends.SideEnd.{SideEnd}
use Rattle.serve_rules.specs.declared.ends.SideEnd.TheVariants.{Done, Stopped}
use Rattle.viewer_run.specs.declared.guest.Guest.{Guest}

-- what a client's steps come to: it connects, and gave this name last; or it is ready by that name and confirmed this, and these steps follow; or it has left
pub data Greeting : Type 0 where
  Connects : List ℕ → Greeting
  IsReady : List ℕ → Confirmed → List ConnStep → Greeting
  HasLeft : Greeting

-- that of a client that gave this name before
abbrev pub greeting : List ℕ → List ConnStep → Greeting
greeting name [] = Connects name
greeting name (step.Named other ∷ xs) = greeting other xs
greeting name (step.Ready confirmed ∷ xs) = IsReady name confirmed xs
greeting name (step.Event event ∷ xs) = greeting name xs
greeting name (step.Refresh area ∷ xs) = greeting name xs
greeting name (step.Suppress stop ∷ xs) = greeting name xs
greeting name (step.Shutdown ∷ xs) = greeting name xs
greeting name (step.Bye ∷ xs) = HasLeft
greeting name (step.Packet ∷ xs) = greeting name xs

-- a client that isn't ready connects, whatever name it gave
abbrev pub StillConnects : Greeting → Type 0
StillConnects g = (name : List ℕ) × (g ≡ Connects name)

-- when a client's connection sequence comes to this, which goes on, and ends in the midst, only where its stream isn't refused: by what of its stream was
-- read, which of the replies weren't written, what its steps came to, where the stream stands and where the connection does, the name that it gave last, and
-- the outside before and now
abbrev pub GreetEnd : (fed unwritten : List ℕ) → Greeting → (after new : Hearing) → List ℕ → (before now : Outside) → Result (Option Guest) ConnEnd → Type 0
GreetEnd fed unwritten g after new name before now (Ok None) =
    (unwritten ≡ []) × (new ≡ after) × (g ≡ Connects name) × (now.input.faults ≡ before.input.faults) × (now.output.faults ≡ before.output.faults)
    × IsNoRefusal (end_of after)
GreetEnd fed unwritten g after new name before now (Ok (Some guest)) =
    (unwritten ≡ []) × (new ≡ after) × (g ≡ IsReady guest.name guest.confirmed guest.rest.items) × (now.input.faults ≡ before.input.faults)
    × (now.output.faults ≡ before.output.faults)
GreetEnd fed unwritten g after new name before now (Err Left) = (unwritten ≡ []) × (g ≡ HasLeft) × (now.output.faults ≡ before.output.faults)
GreetEnd fed unwritten g after new name before now (Err (Refused k at)) =
    (unwritten ≡ []) × StillConnects g × (end_of after ≡ RefusedAt k at) × (now.output.faults ≡ before.output.faults)
GreetEnd fed unwritten g after new name before now (Err Truncated) =
    (unwritten ≡ []) × StillConnects g × IsWhole before.input.left fed × (now.output.faults ≡ before.output.faults) × IsNoRefusal (end_of after)
GreetEnd fed unwritten g after new name before now (Err NotInvited) = ⊥
GreetEnd fed unwritten g after new name before now (Err RoomFull) = ⊥
GreetEnd fed unwritten g after new name before now (Err JoinsSpent) = ⊥
GreetEnd fed unwritten g after new name before now (Err ReadFault) = (unwritten ≡ []) × Rose before.input.faults now.input.faults
GreetEnd fed unwritten g after new name before now (Err WriteFault) = Rose before.output.faults now.output.faults
GreetEnd fed unwritten g after new name before now (Err NotStored) = ⊥
GreetEnd fed unwritten g after new name before now (Err OutOfMemory) = ⊤

-- what the end of a connection says of reads that failed, of a client that isn't ready: at a failed read it still connects and its stream isn't refused, and no
-- write had failed; at each other end no read had failed
abbrev pub OutsideFaults : Greeting → Hearing → (before now : Outside) → ConnEnd → Type 0
OutsideFaults g h before now Left = now.input.faults ≡ before.input.faults
OutsideFaults g h before now (Refused k at) = now.input.faults ≡ before.input.faults
OutsideFaults g h before now Truncated = now.input.faults ≡ before.input.faults
OutsideFaults g h before now NotInvited = now.input.faults ≡ before.input.faults
OutsideFaults g h before now RoomFull = now.input.faults ≡ before.input.faults
OutsideFaults g h before now JoinsSpent = now.input.faults ≡ before.input.faults
OutsideFaults g h before now ReadFault = StillConnects g × IsNoRefusal (end_of h) × (now.output.faults ≡ before.output.faults)
OutsideFaults g h before now WriteFault = now.input.faults ≡ before.input.faults
OutsideFaults g h before now NotStored = now.input.faults ≡ before.input.faults
OutsideFaults g h before now OutOfMemory = now.input.faults ≡ before.input.faults

-- likewise of a connection sequence that goes on or is done
abbrev pub GreetFaults : Greeting → Hearing → (before now : Outside) → Result (Option Guest) ConnEnd → Type 0
GreetFaults g h before now (Ok met) = now.input.faults ≡ before.input.faults
GreetFaults g h before now (Err end) = OutsideFaults g h before now end

-- a stretch of a connection sequence: what was read was fed to the connection, and its replies, or a front of them, were written
pub record Greets (conn_old conn_new : Hearing) (name_old name_new : List ℕ) (before now : Outside) (result : Result (Option Guest) ConnEnd) : Type 0 where
  pub fed : List ℕ
  pub taken : Consumes before.input.left now.input.left fed
  pub written : List ℕ
  pub unwritten : List ℕ
  pub replies : (heard conn_old fed).replies ≡ written ++ unwritten
  pub told : Appends before.output.told now.output.told written
  pub came : GreetEnd fed unwritten (greeting name_old (heard conn_old fed).steps) (heard conn_old fed).after conn_new name_new before now result
  pub faults : GreetFaults (greeting name_old (heard conn_old fed).steps) (heard conn_old fed).after before now result

-- the whole sequence: a client is ready, or its connection ends
abbrev pub with_guest : Result Guest ConnEnd → Result (Option Guest) ConnEnd
with_guest (Ok guest) = Ok (Some guest)
with_guest (Err end) = Err end

-- replies were written, or a front of them
abbrev pub Replies : List ℕ → (before now : Output) → Result (Unit {0}) ConnEnd → Type 0
Replies bytes before now (Ok done) = Appends before.told now.told bytes × (now.faults ≡ before.faults)
Replies bytes before now (Err Left) = ⊥
Replies bytes before now (Err (Refused k at)) = ⊥
Replies bytes before now (Err Truncated) = ⊥
Replies bytes before now (Err NotInvited) = ⊥
Replies bytes before now (Err RoomFull) = ⊥
Replies bytes before now (Err JoinsSpent) = ⊥
Replies bytes before now (Err ReadFault) = ⊥
Replies bytes before now (Err WriteFault) = WritesFront before.told now.told bytes × Rose before.faults now.faults
Replies bytes before now (Err NotStored) = ⊥
Replies bytes before now (Err OutOfMemory) = WritesFront before.told now.told bytes × (now.faults ≡ before.faults)

-- what was said of a client whose steps came to this
abbrev pub GuestOf : Greeting → List ℕ → Result (Option Guest) ConnEnd → Type 0
GuestOf g name (Ok None) = g ≡ Connects name
GuestOf g name (Ok (Some guest)) = g ≡ IsReady guest.name guest.confirmed guest.rest.items
GuestOf g name (Err Left) = g ≡ HasLeft
GuestOf g name (Err (Refused k at)) = ⊥
GuestOf g name (Err Truncated) = ⊥
GuestOf g name (Err NotInvited) = ⊥
GuestOf g name (Err RoomFull) = ⊥
GuestOf g name (Err JoinsSpent) = ⊥
GuestOf g name (Err ReadFault) = ⊥
GuestOf g name (Err WriteFault) = ⊥
GuestOf g name (Err NotStored) = ⊥
GuestOf g name (Err OutOfMemory) = ⊤

-- the areas of the steps that follow Ready are placed, where a client is ready
abbrev pub IsRestPlaced : Option Guest → Type 0
IsRestPlaced None = ⊤
IsRestPlaced (Some guest) = ArePlaced guest.rest.items

-- a refusal is an end
abbrev pub refusal_of : SideEnd → Result (Option Guest) ConnEnd
refusal_of (Done end) = Err end
refusal_of Stopped = Ok None
