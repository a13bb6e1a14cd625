-- What is done for a client that is ready.
use Rattle.std.specs.Prelude.{◌≡◌, ℕ, ◌<◌, ⊤, Bool, true, false, not, ◌&&◌, Option, List, [], ◌++◌, length, ◌⊎◌}
use Rattle.std.specs.Io.KnownBytes.{Consumes}
use Rattle.edge_io.specs.Faults.{Rose}
use Rattle.edge_io.specs.Outside.{Outside}
use Rattle.caps_sets.specs.declared.confirmed.Confirmed.{Confirmed}
use Rattle.session_rules.specs.Journal.{Head, is_present, reached_at}
use Rattle.conn_rules.specs.declared.conn_step.ConnStep.{ConnStep}
use Rattle.conn_rules.specs.Hearing.{Hearing, heard}
use Rattle.viewer_sender.specs.Senders.{SenderModel}
use Rattle.pointer_share.specs.Desk.{DeskOf}
use Rattle.serve_rules.specs.Turns.{SessionPass, FoundAll}
use Rattle.serve_rules.specs.Events.{Handles}
use Rattle.serve_rules.specs.Notices.{Notice, events_in, notice_after_all, notice_in}
use Rattle.serve_rules.specs.Reading.{ReadEnd, GoesOn, StopsReading}
use Rattle.serve_rules.specs.declared.ends.ConnEnd.{ConnEnd}
use Rattle.serve_rules.specs.declared.ends.ConnEnd.TheVariants.{Left, Refused, Truncated, NotInvited, RoomFull, JoinsSpent, ReadFault, WriteFault, NotStored, OutOfMemory}
use Rattle.serve_rules.specs.declared.ends.SideEnd.{SideEnd}
use Rattle.serve_rules.specs.declared.ends.SideEnd.TheVariants.{Done, Stopped}
use Rattle.serve_rules.specs.declared.noted.Noted.{Noted}
use Rattle.viewer_run.specs.Sending.{SendsOn}
use Rattle.viewer_run.specs.Frames.{FramesSent}

-- when the connection of a client that is ready ends so: as its stream does that is read to its end, by a write that failed, by a frame that couldn't be kept,
-- or by want of memory
abbrev pub ViewEnd : List ℕ → Hearing → Notice → (before now : Outside) → ConnEnd → Type 0
ViewEnd fed h notice before now Left = ReadEnd false fed h notice before.input now.input (Done Left)
ViewEnd fed h notice before now (Refused k at) = ReadEnd false fed h notice before.input now.input (Done (Refused k at))
ViewEnd fed h notice before now Truncated = ReadEnd false fed h notice before.input now.input (Done Truncated)
ViewEnd fed h notice before now NotInvited = ⊥
ViewEnd fed h notice before now RoomFull = ⊥
ViewEnd fed h notice before now JoinsSpent = ⊥
ViewEnd fed h notice before now ReadFault = Rose before.input.faults now.input.faults
ViewEnd fed h notice before now WriteFault = Rose before.output.faults now.output.faults
ViewEnd fed h notice before now NotStored = Rose before.output.faults now.output.faults
ViewEnd fed h notice before now OutOfMemory = ⊤

-- no read failed, unless it did beside a fault of the output, or beside sending that wanted memory, of a stream that goes on
abbrev pub FailsAtMostBeside : Hearing → Notice → (before now : Outside) → Type 0
FailsAtMostBeside h notice before now = (now.input.faults ≡ before.input.faults) ⊎ GoesOn h notice

-- what the end of a connection of a client that is ready says of reads that failed: at a failed read the stream goes on, and no write had failed; at each other
-- end no read had failed, but that reading and sending, which go on beside each other, may both meet a fault
abbrev pub ViewFaults : Hearing → Notice → (before now : Outside) → ConnEnd → Type 0
ViewFaults h notice before now Left = now.input.faults ≡ before.input.faults
ViewFaults h notice before now (Refused k at) = now.input.faults ≡ before.input.faults
ViewFaults h notice before now Truncated = now.input.faults ≡ before.input.faults
ViewFaults h notice before now NotInvited = now.input.faults ≡ before.input.faults
ViewFaults h notice before now RoomFull = now.input.faults ≡ before.input.faults
ViewFaults h notice before now JoinsSpent = now.input.faults ≡ before.input.faults
ViewFaults h notice before now ReadFault = GoesOn h notice × (now.output.faults ≡ before.output.faults)
ViewFaults h notice before now WriteFault = FailsAtMostBeside h notice before now
ViewFaults h notice before now NotStored = FailsAtMostBeside h notice before now
ViewFaults h notice before now OutOfMemory = FailsAtMostBeside h notice before now

-- a client's stream was read until its connection ended: the events of the steps before it and of those that were heard were handled in order, all of them
-- unless a write failed, a frame couldn't be kept or memory was wanted; nothing was read behind a Bye or a Shutdown
pub record ReadsTo (head : Head) (v : ℕ) (rest : List ConnStep) (conn : Hearing) (before after : SessionPass) (noted_old noted_new : Noted)
    (outside_old outside_new : Outside) (end : ConnEnd) : Type 0 where
  pub fed : List ℕ
  pub taken : Consumes outside_old.input.left outside_new.input.left fed
  pub steps : List ConnStep
  pub undone : List ConnStep
  pub front : rest ++ (heard conn fed).steps ≡ steps ++ undone
  pub all : (end ≡ WriteFault → ⊥) → (end ≡ NotStored → ⊥) → (end ≡ OutOfMemory → ⊥) → undone ≡ []
  pub handles : Handles head v (events_in steps) before after noted_old.places.list noted_new.places.list
  pub room : 0 < noted_new.places.room
  pub notice : notice_in noted_new ≡ notice_after_all (notice_in noted_old) steps
  pub stops : StopsReading rest conn (notice_in noted_old) fed
  pub ends : ViewEnd fed (heard conn fed).after (notice_in noted_new) outside_old outside_new end
  pub faults : ViewFaults (heard conn fed).after (notice_after_all (notice_in noted_old) (rest ++ (heard conn fed).steps)) outside_old outside_new end

-- the end of the sending is that of the connection, unless it was stopped
abbrev pub EndsSending : SideEnd → ConnEnd → Type 0
EndsSending sent end = (sent ≡ Stopped) ⊎ (sent ≡ Done end)

-- both sides of a viewer did their work, until its connection ended
pub record SidesServe (head : Head) (v : ℕ) (rest : List ConnStep) (conn : Hearing) (sender_old sender_new : SenderModel) (desk_old desk_new : Option DeskOf)
    (before after : SessionPass) (noted_old noted_new : Noted) (outside_old outside_new : Outside) (end : ConnEnd) : Type 0 where
  pub reads : ReadsTo head v rest conn before after noted_old noted_new outside_old outside_new end
  pub sent : SideEnd
  pub sends : SendsOn head sender_old sender_new desk_old desk_new before after outside_old.output outside_new.output sent
  pub ended : EndsSending sent end

-- likewise with the viewer's first frame before
pub record Attends (head : Head) (v : ℕ) (confirmed : Confirmed) (rest : List ConnStep) (conn : Hearing) (sender : SenderModel) (desk : Option DeskOf)
    (joined after : SessionPass) (noted_old noted_new : Noted) (outside_old outside_new : Outside) (end : ConnEnd) : Type 0 where
  pub reads : ReadsTo head v rest conn joined after noted_old noted_new outside_old outside_new end
  pub sent : SideEnd
  pub frames : FramesSent head v confirmed sender desk joined after outside_old.output outside_new.output sent
  pub ended : EndsSending sent end

-- which of both sides' ends counts: that of the sending, where that didn't stop
abbrev pub ended_by : SideEnd → SideEnd → SideEnd
ended_by read (Done end) = Done end
ended_by read Stopped = read

-- whether a last frame is due at an end: the client left without a Bye, and its last word on output isn't that it stops
abbrev pub wants_last : ConnEnd → Notice → Bool
wants_last Left n = not n.bye && not n.quiet
wants_last (Refused k at) n = false
wants_last Truncated n = false
wants_last NotInvited n = false
wants_last RoomFull n = false
wants_last JoinsSpent n = false
wants_last ReadFault n = false
wants_last WriteFault n = false
wants_last NotStored n = false
wants_last OutOfMemory n = false

-- the connection's end after its last frame
abbrev pub end_of_last : SideEnd → ConnEnd
end_of_last (Done end) = end
end_of_last Stopped = Left

-- a viewer who is still present when its connection has ended in such a way has a frame with all of the journal, as the pass's last turn found it
abbrev pub IsShownLast : Head → ℕ → SessionPass → SenderModel → ConnEnd → Notice → Type 0
IsShownLast head v after sender end n = wants_last end n ≡ true → is_present v (reached_at head.size after.seen (length after.seen)).viewers ≡ true
    → (sender.number ≡ length after.seen) × FoundAll after
