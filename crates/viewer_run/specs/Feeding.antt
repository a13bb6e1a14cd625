-- What comes of bytes of a client's stream.
use Rattle.std.specs.Prelude.{◌≡◌, ℕ, zero, suc, Bool, true, false, ◌||◌, List, Result, Ok, Err, if◌then◌else◌}
use Rattle.wire_num.specs.declared.out_of_memory.OutOfMemory.{OutOfMemory as NoMemory}
use Rattle.conn_rules.specs.declared.conn_step.ConnStep.{ConnStep}
use Rattle.conn_rules.specs.declared.stage.Stage.{Stage}
use Rattle.conn_rules.specs.declared.stage.Stage.TheVariants as stage
use Rattle.conn_rules.specs.Hearing.{Hearing, Heard, heard}
use Rattle.conn_core.specs.Kept.{IsUnrefused}
use Rattle.conn_core.specs.declared.conn_fault.ConnFault.{ConnFault}
use Rattle.conn_core.specs.declared.conn_fault.ConnFault.TheVariants as fault
use Rattle.conn_rules.specs.Placed.{AreBytes}
use Rattle.serve_rules.specs.Notices.{Notice}
use Rattle.serve_rules.specs.Reading.{IsUnended}
use Rattle.serve_rules.specs.declared.ends.ConnEnd.TheVariants.{Left, Refused, Truncated, NotInvited, RoomFull, JoinsSpent, ReadFault, WriteFault, NotStored, OutOfMemory}
use Rattle.serve_rules.specs.declared.ends.SideEnd.{SideEnd}
use Rattle.serve_rules.specs.declared.ends.SideEnd.TheVariants.{Done, Stopped}

-- whether a stream that stands so is refused, as what was said of it
abbrev pub RefusedAs : SideEnd → Stage → Type 0
RefusedAs Stopped here = IsUnrefused here
RefusedAs (Done Left) here = ⊥
RefusedAs (Done (Refused k at)) here = here ≡ stage.Refused k at
RefusedAs (Done Truncated) here = ⊥
RefusedAs (Done NotInvited) here = ⊥
RefusedAs (Done RoomFull) here = ⊥
RefusedAs (Done JoinsSpent) here = ⊥
RefusedAs (Done ReadFault) here = ⊥
RefusedAs (Done WriteFault) here = ⊥
RefusedAs (Done NotStored) here = ⊥
RefusedAs (Done OutOfMemory) here = ⊥

-- the answer of a connection as an end, if it is one
abbrev pub EndsAs : Result (Unit {0}) ConnFault → Result SideEnd NoMemory → Type 0
EndsAs (Ok done) result = result ≡ Ok Stopped
EndsAs (Err (fault.Refused k at)) result = result ≡ Ok (Done (Refused k at))
EndsAs (Err fault.OutOfMemory) result = (refusal : NoMemory) × (result ≡ Err refusal)

-- a connection was fed: these are the replies and the steps, it stands where the bytes lead to, and this is its end, if it is refused
pub record IsFed (x : Heard) (new : Hearing) (replies : List ℕ) (steps : List ConnStep) (end : SideEnd) : Type 0 where
  pub replied : replies ≡ x.replies
  pub given : steps ≡ x.steps
  pub after : new ≡ x.after
  pub refused : RefusedAs end x.after.stage

-- whether a side met the connection's end
abbrev pub is_done : SideEnd → Bool
is_done (Done end) = true
is_done Stopped = false

-- how a stream ends that ends where so many bytes are there of a packet
abbrev pub end_by_part : ℕ → SideEnd
end_by_part zero = Done Left
end_by_part (suc n) = Done Truncated

-- an end by what was announced: a Bye and a Shutdown end the stream
abbrev pub end_with : SideEnd → Bool → SideEnd
end_with end over = if over then Done Left else end

-- the end of a piece of the stream: want of memory, or else by what was announced so far
abbrev pub EndOfPiece : Result (Unit {0}) NoMemory → SideEnd → Notice → SideEnd → Type 0
EndOfPiece (Ok done) end n result = result ≡ end_with end (n.bye || n.shutdown)
EndOfPiece (Err refusal) end n result = result ≡ Done OutOfMemory

-- the connection stands where some bytes led to
abbrev pub IsHeard : Hearing → Type 0
IsHeard h = (first : Hearing) × (bytes : List ℕ) × (h ≡ (heard first bytes).after)

-- the stream goes on: no end was met so far
pub record IsOpen (h : Hearing) (n : Notice) : Type 0 where
  pub led : IsHeard h
  pub unrefused : IsUnrefused h.stage
  pub unended : IsUnended n
  pub part : AreBytes h.part
