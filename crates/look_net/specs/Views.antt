-- What the network viewer does with a host: which bytes it reads, what it says, what it prints, and its exit status.
use Rattle.std.specs.Prelude.{◌≡◌, ℕ, zero, suc, nat_le, Bool, true, false, List, [], ◌∷◌, ◌++◌, length, map, codes, Result, Ok, Err, IfErr, IfSome}
use Rattle.std.specs.Io.KnownBytes.{Appends, Consumes}
use Rattle.std.specs.declared.option.Option.{Option}
use Rattle.std.specs.declared.option.Option.TheVariants.{Some, None}
use Rattle.px_core.specs.declared.surface.Size.{Size}
use Rattle.edge_io.specs.Faults.{Rose}
use Rattle.edge_io.specs.Outside.{Output, Outside, outside_given, outside_spent}
use Rattle.edge_io.specs.Sink.{WritesFront}
use Rattle.edge_io.specs.declared.dial.Dial as dials
use Rattle.edge_io.specs.declared.link.Link as links
use Rattle.caps_sets.specs.declared.confirmed.Confirmed.{Confirmed}
use Rattle.order_means.specs.FrameMarks.{ClientReading, Refusal}
use Rattle.capture_show.specs.Shown.{Shown, stream_shown, text_of}
use Rattle.capture_show.specs.Shown.Shown.{RefusedAt, Unmarked}
use Rattle.capture_show.specs.Answers.{Writes, WriteCause, IsWriteFault}
use Rattle.capture_show.specs.declared.show_fault.ShowFault.{ShowFault}
use Rattle.capture_show.specs.declared.show_fault.ShowFault.TheVariants.{ReadFault, WriteFault, OutOfMemory}
use Rattle.command_words.specs.ViewWords.{ViewingOf}
use Rattle.mcs_dom.specs.Ultimatum.{ultimatum_packet}
use Rattle.viewer_rules.specs.ViewerHandshake.{Watching, Watched, viewer_handshake}
use Rattle.viewer_rules.specs.Shown.{shown_read, look_refusal, has_ended}

-- ---- what a host's bytes come to

abbrev pub marks_of_read : Option (Result ClientReading Refusal) → ℕ
marks_of_read None = 0
marks_of_read (Some (Ok r)) = length r.view.pictures
marks_of_read (Some (Err f)) = 0

-- how many marks there were
abbrev pub marks_in : Confirmed → Watching → ℕ
marks_in c w = marks_of_read (shown_read c w.at.size w.at.shown)

-- the status by a refusal, by whether there are as many marks as are asked for, and by whether the host has ended the connection
abbrev pub status_by : Option ℕ → Bool → Bool → ℕ
status_by (Some at) enough ended = 3
status_by None true ended = 0
status_by None false true = 36
status_by None false false = 35

-- the status that a host's bytes ask for: 3 is a refusal, 0 enough marks, 36 an ultimatum before these, and 35 none of the three
abbrev pub status_of : ViewingOf → Watching → ℕ
status_of v w = status_by (look_refusal v.confirmed w) (nat_le v.marks (marks_in v.confirmed w)) (has_ended w.at.stage)

abbrev pub shown_of_read : Option Size → Option (Result ClientReading Refusal) → Shown
shown_of_read (Some size) (Some read) = stream_shown size read
shown_of_read (Some size) None = Unmarked
shown_of_read None read = Unmarked

abbrev pub shown_unless : Option ℕ → Shown → Shown
shown_unless (Some at) shown = RefusedAt at
shown_unless None shown = shown

-- what is printed: where the bytes are refused; else the picture of the last mark, with the counts, if there was one
abbrev pub look_shown : Confirmed → Watching → Shown
look_shown c w = shown_unless (look_refusal c w) (shown_of_read w.at.size (shown_read c w.at.size w.at.shown))

-- a viewer's last words: an ultimatum of rn-user-requested
abbrev pub leave : List ℕ
leave = ultimatum_packet 3

-- who has seen enough leaves with them
abbrev pub leave_at : ℕ → List ℕ
leave_at zero = leave
leave_at (suc status) = []

-- what the host is told: what the connection sequence asks for, and the ultimatum once there are enough marks
abbrev pub due : ViewingOf → Watched → List ℕ
due v x = x.text ++ leave_at (status_of v x.after)

-- ---- links and dials

-- the links that a dial gave and those that came back, the port that was asked for last, and how often it has failed
pub record DialState : Type 0 where
  pub given : List Outside
  pub finished : List Outside
  pub asked : Option ℕ
  pub faults : ℕ

-- a dial as it is now
abbrev pub dial_state : {D L Reader Writer Spent : Type 0} → dials.Ghosts D L Reader Writer Spent → links.Ghosts L Reader Writer Spent → D → DialState
dial_state dial link x =
    record {
      given = map (outside_given link) (dial.given x);
      finished = map (outside_spent link)
          (dial.finished x);
      asked = dial.asked x;
      faults = dial.faults x;
    }

-- ---- how a host is watched

-- how watching a host ended: its bytes decide, a read of the link failed, a write of it failed, or no memory was left
pub data WatchEnd : Type 0 where
  Decided : WatchEnd
  Unread : WatchEnd
  Unsaid : WatchEnd
  Spent : WatchEnd

-- these are all the bytes that a host gives, where the link tells them
abbrev pub AreAll : Option (List ℕ) → List ℕ → Type 0
AreAll left read = IfSome left (λ bytes. bytes ≡ read)

-- the link as it came back, by how watching the host ended: it was told all that is due, but for a front of it where it couldn't be written or memory was
-- wanting; one
-- count rose where a fault ended it; and where the bytes ask for 35 without a fault they are all that the host gave
abbrev pub Tells : WatchEnd → ViewingOf → (read : List ℕ) → Watched → Outside → Outside → Type 0
Tells Decided v read x before now =
    Appends before.output.told now.output.told (due v x) × (status_of v x.after ≡ 35 → AreAll before.input.left read)
    × (now.input.faults ≡ before.input.faults) × (now.output.faults ≡ before.output.faults)
Tells Unread v read x before now =
    Appends before.output.told now.output.told (due v x) × (status_of v x.after ≡ 35)
    × Rose before.input.faults now.input.faults × (now.output.faults ≡ before.output.faults)
Tells Unsaid v read x before now =
    WritesFront before.output.told now.output.told (due v x) × (now.input.faults ≡ before.input.faults) × Rose before.output.faults now.output.faults
Tells Spent v read x before now =
    WritesFront before.output.told now.output.told (due v x) × (now.input.faults ≡ before.input.faults) × (now.output.faults ≡ before.output.faults)

-- the exit status, by the status that the bytes ask for and by what the printing is answered
abbrev pub printed_status : ℕ → Result (Unit {0}) ShowFault → ℕ
printed_status status (Ok x) = status
printed_status status (Err ReadFault) = 4
printed_status status (Err WriteFault) = 5
printed_status status (Err OutOfMemory) = 6

-- what the host's bytes show was printed whole; a front of it where a write of the output failed, whose count rose, or memory was wanting
pub record Prints (status : ℕ) (v : ViewingOf) (w : Watching) (before now : Output) : Type 0 where
  pub answer : Result (Unit {0}) ShowFault
  pub status_is : status ≡ printed_status (status_of v w) answer
  pub written : Writes answer (text_of (look_shown v.confirmed w)) before.told now.told
  pub fault : IfErr answer IsWriteFault
  pub cause : WriteCause answer before.faults now.faults

-- what was printed, and the exit status, by how watching the host ended: only where its bytes decide is anything printed
abbrev pub Ends : WatchEnd → ℕ → ViewingOf → Watching → Output → Output → Type 0
Ends Decided status v w before now = Prints status v w before now
Ends Unread status v w before now = (status ≡ 4) × (now ≡ before)
Ends Unsaid status v w before now = (status ≡ 5) × (now ≡ before)
Ends Spent status v w before now = (status ≡ 6) × (now ≡ before)

-- a host was watched over a link: these bytes of it were read, and what the connection sequence makes of them is what it was told and what was printed
pub record WatchesHost (status : ℕ) (v : ViewingOf) (before now : Outside) (output printed : Output) : Type 0 where
  pub read : List ℕ
  pub reads : Consumes before.input.left now.input.left read
  pub end : WatchEnd
  pub tells : Tells end v read (viewer_handshake v.name v.confirmed read) before now
  pub ends : Ends end status v (viewer_handshake v.name v.confirmed read).after output printed

-- the port was dialled, and its link came back in every case
pub record ViewsHost (status : ℕ) (v : ViewingOf) (before now : DialState) (output printed : Output) : Type 0 where
  pub link : Outside
  pub spent : Outside
  pub asked : now.asked ≡ Some v.port
  pub given : now.given ≡ before.given ++ link ∷ []
  pub finished : now.finished ≡ before.finished ++ spent ∷ []
  pub faults : now.faults ≡ before.faults
  pub watches : WatchesHost status v link spent output printed

-- the port was dialled, and nobody took the call: 7, and the dial's count rose
pub record IsUndialled (status : ℕ) (v : ViewingOf) (before now : DialState) (output printed : Output) : Type 0 where
  pub status_is : status ≡ 7
  pub asked : now.asked ≡ Some v.port
  pub given : now.given ≡ before.given
  pub finished : now.finished ≡ before.finished
  pub rose : Rose before.faults now.faults
  pub unprinted : printed ≡ output

-- memory was wanting before the dial: 6, and nothing was done
pub record WantsMemory (status : ℕ) (before now : DialState) (output printed : Output) : Type 0 where
  pub status_is : status ≡ 6
  pub undialled : now ≡ before
  pub unprinted : printed ≡ output

-- what a run of the viewer comes to
pub data Views (status : ℕ) (v : ViewingOf) (before now : DialState) (output printed : Output) : Type 0 where
  Wants : WantsMemory status before now output printed → Views status v before now output printed
  Undialled : IsUndialled status v before now output printed → Views status v before now output printed
  Watches : ViewsHost status v before now output printed → Views status v before now output printed

-- ---- the usage

-- what is printed where the words ask for nothing
abbrev pub usage : List ℕ
usage = codes "usage: rdp_view PORT NAME MARKS PRESET" ++ 10 ∷ []

-- the usage was written: 2 is that it stands there; 5 and 6 are a fault of the output, whose count rose, and want of memory, with a front of it there
pub record WritesUsage (status : ℕ) (before now : Output) : Type 0 where
  pub answer : Result (Unit {0}) ShowFault
  pub status_is : status ≡ printed_status 2 answer
  pub written : Writes answer usage before.told now.told
  pub fault : IfErr answer IsWriteFault
  pub cause : WriteCause answer before.faults now.faults
