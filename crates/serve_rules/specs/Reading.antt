-- What the read side of a viewer does.
use Rattle.std.specs.Prelude.{◌≡◌, ◌≢◌, ◌⊎◌, ℕ, ◌+◌, ◌<◌, ◌≤◌, Bool, true, ◌||◌, List, [], ◌∷◌, ◌++◌, length, ⊤}
use Rattle.std.specs.declared.option.Option.{Option}
use Rattle.std.specs.declared.option.Option.TheVariants.{Some}
use Rattle.std.specs.Io.KnownBytes.{Consumes}
use Rattle.edge_io.specs.Faults.{Rose}
use Rattle.edge_io.specs.Outside.{Input}
use Rattle.session_rules.specs.Journal.{Head}
use Rattle.conn_rules.specs.declared.conn_step.ConnStep.{ConnStep}
use Rattle.conn_rules.specs.declared.conn_step.ConnStep.TheVariants as step
use Rattle.conn_rules.specs.Hearing.{Hearing, StreamEnd, heard, end_of}
use Rattle.conn_rules.specs.Hearing.StreamEnd.{Between, Within, RefusedAt}
use Rattle.serve_rules.specs.Turns.{SessionPass}
use Rattle.serve_rules.specs.Events.{Handles}
use Rattle.serve_rules.specs.Notices.{Notice, events_in, notice_after_all, notice_in}
use Rattle.serve_rules.specs.declared.ends.ConnEnd.TheVariants.{Left, Refused, Truncated, NotInvited, RoomFull, JoinsSpent, ReadFault, WriteFault, NotStored, OutOfMemory}
use Rattle.serve_rules.specs.declared.ends.SideEnd.{SideEnd}
use Rattle.serve_rules.specs.declared.ends.SideEnd.TheVariants.{Done, Stopped}
use Rattle.serve_rules.specs.declared.noted.Noted.{Noted}

-- an end to which want of memory didn't lead
abbrev pub IsOrderly : SideEnd → Type 0
IsOrderly end = end ≢ Done OutOfMemory

-- no Bye and no Shutdown was there
abbrev pub IsUnended : Notice → Type 0
IsUnended n = n.bye || n.shutdown ≡ true → ⊥

-- what was read is all that was left, where that is told
abbrev pub IsWhole : Option (List ℕ) → List ℕ → Type 0
IsWhole left fed = Consumes left (Some []) fed

-- a stream that stands so is not refused
abbrev pub IsNoRefusal : StreamEnd → Type 0
IsNoRefusal Between = ⊤
IsNoRefusal (Within n) = ⊤
IsNoRefusal (RefusedAt k at) = ⊥

-- a stream that stands so, within a packet, is neither whole nor refused
abbrev pub IsWithinPacket : StreamEnd → Type 0
IsWithinPacket Between = ⊥
IsWithinPacket (Within n) = ⊤
IsWithinPacket (RefusedAt k at) = ⊥

-- when a read side that may be stopped or not ends so: by what of the stream was read, where it stands then and what it announced, and by the input before and
-- now
abbrev pub ReadEnd : Bool → List ℕ → Hearing → Notice → (before now : Input) → SideEnd → Type 0
ReadEnd flagged fed h notice before now (Done Left) = IsUnended notice → IsWhole before.left fed × (end_of h ≡ Between)
ReadEnd flagged fed h notice before now (Done (Refused k at)) = end_of h ≡ RefusedAt k at
ReadEnd flagged fed h notice before now (Done Truncated) = IsUnended notice × IsWhole before.left fed × IsWithinPacket (end_of h)
ReadEnd flagged fed h notice before now (Done NotInvited) = ⊥
ReadEnd flagged fed h notice before now (Done RoomFull) = ⊥
ReadEnd flagged fed h notice before now (Done JoinsSpent) = ⊥
ReadEnd flagged fed h notice before now (Done ReadFault) = Rose before.faults now.faults
ReadEnd flagged fed h notice before now (Done WriteFault) = ⊥
ReadEnd flagged fed h notice before now (Done NotStored) = ⊥
ReadEnd flagged fed h notice before now (Done OutOfMemory) = ⊤
ReadEnd flagged fed h notice before now Stopped = flagged ≡ true

-- a stream goes on: it is neither refused nor ended by what it announced
abbrev pub GoesOn : Hearing → Notice → Type 0
GoesOn h notice = IsNoRefusal (end_of h) × IsUnended notice

-- what a read side's end says of reads that failed: at a failed read the stream goes on, and at each other end no read had failed
abbrev pub ReadFaults : Hearing → Notice → (before now : Input) → SideEnd → Type 0
ReadFaults h notice before now (Done Left) = now.faults ≡ before.faults
ReadFaults h notice before now (Done (Refused k at)) = now.faults ≡ before.faults
ReadFaults h notice before now (Done Truncated) = now.faults ≡ before.faults
ReadFaults h notice before now (Done NotInvited) = now.faults ≡ before.faults
ReadFaults h notice before now (Done RoomFull) = now.faults ≡ before.faults
ReadFaults h notice before now (Done JoinsSpent) = now.faults ≡ before.faults
ReadFaults h notice before now (Done ReadFault) = GoesOn h notice
ReadFaults h notice before now (Done WriteFault) = now.faults ≡ before.faults
ReadFaults h notice before now (Done NotStored) = now.faults ≡ before.faults
ReadFaults h notice before now (Done OutOfMemory) = now.faults ≡ before.faults
ReadFaults h notice before now Stopped = now.faults ≡ before.faults

-- the most bytes of one read (profile)
abbrev pub one_read : ℕ
one_read = 16384

-- nothing was read behind a Bye or a Shutdown: of the steps that were there before and the bytes that came before the last read none is one; or nothing was
-- read
abbrev pub StopsReading : List ConnStep → Hearing → Notice → List ℕ → Type 0
StopsReading rest conn notice fed = (fed ≡ []) ⊎ ((before : List ℕ) × (last : List ℕ) × (fed ≡ before ++ last) × (length last ≤ one_read)
    × IsUnended (notice_after_all notice (rest ++ (heard conn before).steps)))

-- what a read side did between two states of its pass, its connection, its record and its input: what it read was fed to the connection, and the events of the
-- steps before it and of those that were heard were handled in order, all of them unless memory was wanted, and nothing was read behind a Bye or a Shutdown
pub record ReadsOn (head : Head) (v : ℕ) (rest : List ConnStep) (flagged : Bool) (conn_old conn_new : Hearing) (before after : SessionPass)
    (noted_old noted_new : Noted)
    (input_old input_new : Input) (end : SideEnd) : Type 0 where
  pub fed : List ℕ
  pub taken : Consumes input_old.left input_new.left fed
  pub steps : List ConnStep
  pub undone : List ConnStep
  pub front : rest ++ (heard conn_old fed).steps ≡ steps ++ undone
  pub all : IsOrderly end → (undone ≡ []) × (conn_new ≡ (heard conn_old fed).after)
  pub handles : Handles head v (events_in steps) before after noted_old.places.list noted_new.places.list
  pub room : 0 < noted_new.places.room
  pub notice : notice_in noted_new ≡ notice_after_all (notice_in noted_old) steps
  pub stops : StopsReading rest conn_old (notice_in noted_old) fed
  pub faults : ReadFaults (heard conn_old fed).after (notice_in noted_new) input_old input_new end
  pub ends : ReadEnd flagged fed (heard conn_old fed).after (notice_in noted_new) input_old input_new end

-- how many turns a step takes, and steps together: one for an event, a Refresh and a Suppress
abbrev pub turns_of : ConnStep → ℕ
turns_of (step.Named name) = 0
turns_of (step.Ready confirmed) = 0
turns_of (step.Event event) = 1
turns_of (step.Refresh area) = 1
turns_of (step.Suppress stop) = 1
turns_of step.Shutdown = 0
turns_of step.Bye = 0
turns_of step.Packet = 0

abbrev pub turns_in : List ConnStep → ℕ
turns_in [] = 0
turns_in (x ∷ xs) = turns_of x + turns_in xs

-- a pass had just so many turns, and just as many as these steps take
abbrev pub HasTurns : ℕ → SessionPass → SessionPass → Type 0
HasTurns n before after = length after.found ≡ length before.found + n

abbrev pub HasTurnsOf : List ConnStep → SessionPass → SessionPass → Type 0
HasTurnsOf steps before after = HasTurns (turns_in steps) before after

-- likewise with a pass of its own, which had just the turns of the steps that were read, unless memory was wanted: so no turn of a step comes before the read
-- that brings it, since that read may bring none
pub record ReadsInTurns (head : Head) (v : ℕ) (rest : List ConnStep) (flagged : Bool) (conn_old conn_new : Hearing) (before after : SessionPass)
    (noted_old noted_new : Noted)
    (input_old input_new : Input) (end : SideEnd) : Type 0 where
  pub reads : ReadsOn head v rest flagged conn_old conn_new before after noted_old noted_new input_old input_new end
  pub turns : IsOrderly end → HasTurnsOf (rest ++ (heard conn_old reads.fed).steps) before after
