-- What a line makes of a stage.
use Rattle.std.specs.Prelude.{◌≡◌, ℕ, List, Result, Ok, Err}
use Rattle.px_core.specs.declared.surface.Size.{Size}
use Rattle.caps_sets.specs.declared.confirmed.Confirmed.{Confirmed}
use Rattle.order_means.specs.FrameMarks.{ClientReading, Refusal, first_reading, read_on}
use Rattle.order_means.specs.Packets.{PacketStage, pieces_from, kept_pieces, held_in}
use Rattle.order_means.specs.Packets.PacketStage.{Between}
use Rattle.std.specs.declared.option.Option.{Option}
use Rattle.std.specs.declared.option.Option.TheVariants.{Some, None}
use Rattle.client_view.specs.declared.client_fault.ClientFault.{ClientFault}
use Rattle.client_view.specs.declared.client_fault.ClientFault.TheVariants as client
use Rattle.client_view.specs.Views.{capped}
use Rattle.client_view.specs.Clients.{ClientOf, IsReading}
use Rattle.capture_show.specs.declared.capture_reader.Told.{Told}
use Rattle.capture_show.specs.declared.capture_reader.Told.TheVariants as told
use Rattle.capture_show.specs.declared.stage.Stage.{Stage}
use Rattle.capture_show.specs.declared.stage.Stage.TheVariants as stage

-- a client has begun to read, behind a sieve
abbrev pub ReadsFirst : Size → Confirmed → Stage → Type 0
ReadsFirst size confirmed (stage.Reads client sieve) =
    IsReading (first_reading confirmed size) client × ((client.viewer.confirmed ≡ confirmed) × ((client.viewer.pictures.size ≡ size) × (sieve ≡ Between)))
ReadsFirst size confirmed stage.NotJoined = ⊥
ReadsFirst size confirmed (stage.Refused at) = ⊥
ReadsFirst size confirmed (stage.Broken line) = ⊥

-- the viewer joined
abbrev pub Joins : Stage → Size → Confirmed → Stage → Type 0
Joins stage.NotJoined size confirmed next = ReadsFirst size confirmed next
Joins (stage.Reads client sieve) size confirmed next = next ≡ stage.Reads client sieve
Joins (stage.Refused at) size confirmed next = next ≡ stage.Refused at
Joins (stage.Broken line) size confirmed next = next ≡ stage.Broken line

-- a client stands for a reading, with what it had confirmed and the same size
abbrev pub StandsOn : ClientOf → ClientOf → ClientReading → Type 0
StandsOn client fed s = IsReading s fed × ((fed.viewer.confirmed ≡ client.viewer.confirmed) × (fed.viewer.pictures.size ≡ client.viewer.pictures.size))

-- a client got bytes: the meaning gives a reading, for which it then stands, or refuses them at a place
abbrev pub Meets : ClientOf → ClientOf → Result ClientReading Refusal → Option ℕ → Type 0
Meets client fed meaning None = (s : ClientReading) × ((meaning ≡ Ok s) × StandsOn client fed s)
Meets client fed meaning (Some at) = (refusal : Refusal) × ((meaning ≡ Err refusal) × (at ≡ capped refusal.place))

abbrev pub FeedsClient : ClientOf → List ℕ → ClientOf → Option ℕ → Type 0
FeedsClient client bytes fed refused = (r : ClientReading) → IsReading r client → Meets client fed (read_on client.viewer.confirmed client.viewer.pictures.size r bytes) refused

-- the same, as a stage, with a sieve that has come so far
abbrev pub ReadsOn : ClientOf → PacketStage → Result ClientReading Refusal → Stage → Type 0
ReadsOn client come meaning (stage.Reads fed sieve) = (s : ClientReading) × ((meaning ≡ Ok s) × (StandsOn client fed s × (sieve ≡ come)))
ReadsOn client come meaning (stage.Refused at) = (refusal : Refusal) × ((meaning ≡ Err refusal) × (at ≡ capped refusal.place))
ReadsOn client come meaning stage.NotJoined = ⊥
ReadsOn client come meaning (stage.Broken line) = ⊥

-- a client behind a sieve got bytes, and so the sieve has come further
abbrev pub FeedsBehind : ClientOf → PacketStage → List ℕ → ClientOf → PacketStage → Option ℕ → Type 0
FeedsBehind client sieve bytes fed come refused = let cut = pieces_from sieve bytes in (come ≡ cut.next) × ((r : ClientReading) → IsReading r client
    → Meets client fed (read_on client.viewer.confirmed client.viewer.pictures.size r (kept_pieces cut.pieces)) refused)

-- the viewer got bytes
abbrev pub Feeds : Stage → List ℕ → Stage → Type 0
Feeds (stage.Reads client sieve) bytes next = let cut = pieces_from sieve bytes in (r : ClientReading) → IsReading r client
    → ReadsOn client cut.next (read_on client.viewer.confirmed client.viewer.pictures.size r (kept_pieces cut.pieces)) next
Feeds stage.NotJoined bytes next = next ≡ stage.NotJoined
Feeds (stage.Refused at) bytes next = next ≡ stage.Refused at
Feeds (stage.Broken line) bytes next = next ≡ stage.Broken line

-- no bytes are left, and an unfinished packet is read as it stands
abbrev pub Finishes : Stage → Stage → Type 0
Finishes (stage.Reads client sieve) next = (r : ClientReading) → IsReading r client → ReadsOn client sieve (read_on client.viewer.confirmed client.viewer.pictures.size r (held_in sieve)) next
Finishes stage.NotJoined next = next ≡ stage.NotJoined
Finishes (stage.Refused at) next = next ≡ stage.Refused at
Finishes (stage.Broken line) next = next ≡ stage.Broken line

-- the place where a client refuses bytes
abbrev pub place_of : ClientFault → Option ℕ
place_of (client.Refused at) = Some at
place_of (client.Named at oversized cache index) = Some at
place_of client.OutOfMemory = None

-- a line broke the rules; the first one counts
abbrev pub Breaks : Stage → ℕ → Stage → Type 0
Breaks (stage.Broken first) line next = next ≡ stage.Broken first
Breaks stage.NotJoined line next = next ≡ stage.Broken line
Breaks (stage.Reads client sieve) line next = next ≡ stage.Broken line
Breaks (stage.Refused at) line next = next ≡ stage.Broken line

-- the stage after a line that told this, and gave the viewer these bytes
abbrev pub Advances : Told → Stage → List ℕ → Stage → Type 0
Advances (told.Joined size confirmed) s bytes next = Joins s size confirmed next
Advances told.Bytes s bytes next = Feeds s bytes next
Advances (told.Broken line) s bytes next = Breaks s line next
Advances told.Other s bytes next = next ≡ s
Advances told.End s bytes next = next ≡ s
Advances told.Failed s bytes next = next ≡ s
