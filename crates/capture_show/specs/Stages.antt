-- How far a capture was read for a viewer, and what that stands for.
use Rattle.std.specs.Prelude.{◌≡◌, ℕ, false, List, ◌++◌, ⊤, Ok, Err}
use Rattle.std.specs.declared.option.Option.{Option}
use Rattle.std.specs.declared.option.Option.TheVariants.{Some, None}
use Rattle.line_text.specs.Lines.{lines_of}
use Rattle.script_rules.specs.Capture.{JoinedAs, first_broken_line, first_broken_from, joined_as, joined_in_lines, written_bytes, bytes_of_lines, has_joined}
use Rattle.order_means.specs.Packets.{PacketStage, pieces_in, kept_pieces}
use Rattle.order_means.specs.FrameMarks.{ClientReading, Refusal, read_stream}
use Rattle.client_view.specs.Views.{capped}
use Rattle.client_view.specs.Clients.{ClientOf, IsReading}
use Rattle.capture_show.specs.declared.stage.Stage.{Stage}
use Rattle.capture_show.specs.declared.stage.Stage.TheVariants as stage
use Rattle.capture_show.specs.Shown.{Shown, view_shown}
use Rattle.capture_show.specs.Shown.Shown.{BrokenAt, NeverJoined, RefusedAt}

-- no line has broken the rules so far, and the rest decides from line k on
abbrev pub GoesOn : ℕ → List ℕ → (capture rest : List ℕ) → Type 0
GoesOn k joined capture rest = first_broken_line capture ≡ first_broken_from k joined (lines_of rest)

-- no line has joined the viewer
pub record HasNotJoined (v k : ℕ) (joined capture rest : List ℕ) : Type 0 where
  pub goes_on : GoesOn k joined capture rest
  pub not_joined : has_joined v joined ≡ false
  pub joins : joined_as v capture ≡ joined_in_lines v (lines_of rest)
  pub bytes : written_bytes v capture ≡ bytes_of_lines v (lines_of rest)

-- the viewer joined, and these bytes came to it
pub record HasJoined (v k : ℕ) (joined capture rest : List ℕ) (as_joined : JoinedAs) (given : List ℕ) : Type 0 where
  pub goes_on : GoesOn k joined capture rest
  pub joins : joined_as v capture ≡ Some as_joined
  pub bytes : written_bytes v capture ≡ given ++ bytes_of_lines v (lines_of rest)

-- those of whole packets that aren't of pointers
abbrev pub whole_of : List ℕ → List ℕ
whole_of given = kept_pieces (pieces_in given).pieces

-- these were read, and the sieve holds the rest
pub record HasRead (v k : ℕ) (joined capture rest : List ℕ) (client : ClientOf) (sieve : PacketStage) : Type 0 where
  pub as_joined : JoinedAs
  pub given : List ℕ
  pub r : ClientReading
  pub has_joined : HasJoined v k joined capture rest as_joined given
  pub sieved : sieve ≡ (pieces_in given).next
  pub read : read_stream as_joined.confirmed as_joined.size (whole_of given) ≡ Ok r
  pub reading : IsReading r client
  pub confirmed : client.viewer.confirmed ≡ as_joined.confirmed
  pub size : client.viewer.pictures.size ≡ as_joined.size

-- these are refused
pub record HasRefused (v k : ℕ) (joined capture rest : List ℕ) (at : ℕ) : Type 0 where
  pub as_joined : JoinedAs
  pub given : List ℕ
  pub refusal : Refusal
  pub has_joined : HasJoined v k joined capture rest as_joined given
  pub refused : read_stream as_joined.confirmed as_joined.size (whole_of given) ≡ Err refusal
  pub place : at ≡ capped refusal.place

-- a line broke the rules
pub record HasBroken (capture : List ℕ) (line : ℕ) : Type 0 where
  pub first : ℕ
  pub broken : first_broken_line capture ≡ Some first
  pub number : line ≡ capped first

-- a stage stands for what was read of a capture, whose rest begins with line k
abbrev pub Stands : ℕ → Stage → ℕ → List ℕ → (capture rest : List ℕ) → Type 0
Stands v stage.NotJoined k joined capture rest = HasNotJoined v k joined capture rest
Stands v (stage.Reads client sieve) k joined capture rest = HasRead v k joined capture rest client sieve
Stands v (stage.Refused at) k joined capture rest = HasRefused v k joined capture rest at
Stands v (stage.Broken line) k joined capture rest = HasBroken capture line

-- where a source tells its bytes, a stage stands for what was read of them
abbrev pub StandsFor : ℕ → Stage → ℕ → List ℕ → (left ahead : Option (List ℕ)) → Type 0
StandsFor v s k joined None ahead = ⊤
StandsFor v s k joined (Some capture) None = ⊥
StandsFor v s k joined (Some capture) (Some rest) = Stands v s k joined capture rest

-- a client shows what a reading does
pub record ShowsReading (client : ClientOf) (s : Shown) : Type 0 where
  pub r : ClientReading
  pub reading : IsReading r client
  pub is : s ≡ view_shown client.viewer.pictures.size r.view

-- a stage behind a capture's end shows this
abbrev pub Shows : Stage → Shown → Type 0
Shows stage.NotJoined s = s ≡ NeverJoined
Shows (stage.Reads client sieve) s = ShowsReading client s
Shows (stage.Refused at) s = (place : ℕ) × (s ≡ RefusedAt place) × (at ≡ capped place)
Shows (stage.Broken line) s = (first : ℕ) × (s ≡ BrokenAt first) × (line ≡ capped first)
