-- A viewer's half in code, and which host's streams it stands for.
use Rattle.std.specs.Prelude.{◌≡◌, ℕ, false, List, [], ◌++◌, Option, Some, None, Result, Ok, Err}
use Rattle.px_core.specs.declared.surface.Size.{Size}
use Rattle.caps_sets.specs.declared.confirmed.Confirmed.{Confirmed}
use Rattle.tpkt_x224.specs.declared.tpkt.Packet.TheVariants.{Part}
use Rattle.order_means.specs.FrameMarks.{ClientReading, read_stream}
use Rattle.client_view.specs.Clients.{ClientOf, IsReading}
use Rattle.viewer_rules.specs.declared.stage.Stage.{Stage}
use Rattle.viewer_rules.specs.declared.stage.Stage.TheVariants as stage
use Rattle.viewer_rules.specs.HostStream.{host_packet_at}
use Rattle.viewer_rules.specs.ViewerHandshake.{Standing, Watching, Watched, awaits_fast}
use Rattle.viewer_rules.specs.Shown.{look_refusal, has_ended}
use Rattle.look_net.specs.declared.look_fault.LookFault.{LookFault}
use Rattle.look_net.specs.declared.look_fault.LookFault.TheVariants.{Refused, OutOfMemory}

-- its name and what it confirms; what is awaited, the place of the next packet, and that of the first update; what is there of a packet; the client from Demand
-- Active on; and what ended it, if it has ended
pub record LookOf : Type 0 where
  pub name : List ℕ
  pub confirmed : Confirmed
  pub stage : Stage
  pub place : ℕ
  pub start : ℕ
  pub part : List ℕ
  pub client : Option ClientOf
  pub end : Option LookFault

-- a client of this size that stands for what is shown
pub record Shows (c : Confirmed) (size : Size) (shown : List ℕ) (client : ClientOf) : Type 0 where
  pub reading : ClientReading
  pub reads : read_stream c size shown ≡ Ok reading
  pub stands : IsReading reading client
  pub confirmed : client.viewer.confirmed ≡ c
  pub size_is : client.viewer.pictures.size ≡ size

-- a client from the moment on that the size is known
abbrev pub HasClient : Confirmed → Option Size → List ℕ → Option ClientOf → Type 0
HasClient c None shown client = client ≡ None
HasClient c (Some size) shown None = ⊥
HasClient c (Some size) shown (Some client) = Shows c size shown client

-- nothing is shown before the Font Map, and nothing is refused
abbrev pub IsOpen : Stage → List ℕ → Type 0
IsOpen stage.Confirm shown = shown ≡ []
IsOpen stage.Response shown = shown ≡ []
IsOpen stage.Attach shown = shown ≡ []
IsOpen (stage.Joins user which) shown = shown ≡ []
IsOpen (stage.Licence user) shown = shown ≡ []
IsOpen (stage.Demand user) shown = shown ≡ []
IsOpen (stage.Finish user which) shown = shown ≡ []
IsOpen stage.Shown shown = Unit {0}
IsOpen stage.Over shown = Unit {0}
IsOpen (stage.Refused at) shown = ⊥

-- a look between packets, where a stream stands
pub record Follows (s : Standing) (c : Confirmed) (here : Stage) (place start : ℕ) (client : Option ClientOf) : Type 0 where
  pub stage_is : here ≡ s.stage
  pub place_is : place ≡ s.place
  pub start_is : start ≡ s.start
  pub open_is : IsOpen s.stage s.shown
  pub client_is : HasClient c s.size s.shown client

-- what is there of a packet breaks no rule; behind an ultimatum nothing is kept
pub record Keeps (c : Confirmed) (w : Watching) (part : List ℕ) : Type 0 where
  pub same : has_ended w.at.stage ≡ false → part ≡ w.part
  pub waits : has_ended w.at.stage ≡ false → host_packet_at (awaits_fast c w.at.stage) w.part ≡ Part

-- a look stands where a host's stream does, which isn't refused
pub record IsWatching (w : Watching) (look : LookOf) : Type 0 where
  pub follows : Follows w.at look.confirmed look.stage look.place look.start look.client
  pub keeps : Keeps look.confirmed w look.part
  pub goes_on : look.end ≡ None

-- where a stream stands after these bytes; a refusal, and from then on; or no memory was left, and from then on
abbrev pub FeedsLook : Result (Unit {0}) LookFault → Watched → LookOf → Type 0
FeedsLook (Ok done) x new = IsWatching x.after new × (look_refusal new.confirmed x.after ≡ None)
FeedsLook (Err (Refused at)) x new = (look_refusal new.confirmed x.after ≡ Some at) × (new.end ≡ Some (Refused at))
FeedsLook (Err OutOfMemory) x new = new.end ≡ Some OutOfMemory

-- after want of memory the texts for a front of the bytes are there, each whole
pub record AppendsTexts (texts : List ℕ → List ℕ) (bytes out new_out : List ℕ) : Type 0 where
  pub front : List ℕ
  pub more : List ℕ
  pub whole : bytes ≡ front ++ more
  pub written : new_out ≡ out ++ texts front

-- what is due was appended, also where the bytes are refused
abbrev pub FeedsText : Result (Unit {0}) LookFault → (List ℕ → List ℕ) → List ℕ → List ℕ → List ℕ → Type 0
FeedsText (Ok done) texts bytes out new_out = new_out ≡ out ++ texts bytes
FeedsText (Err (Refused at)) texts bytes out new_out = new_out ≡ out ++ texts bytes
FeedsText (Err OutOfMemory) texts bytes out new_out = AppendsTexts texts bytes out new_out
