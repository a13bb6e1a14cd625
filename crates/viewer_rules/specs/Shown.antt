-- What a viewer is shown from the Font Map on, and where a host's stream is refused for it.
use Rattle.std.specs.Prelude.{◌≡◌, ℕ, Bool, true, false, List, [], Option, Some, None, Result, Ok, Err}
use Rattle.px_core.specs.declared.surface.Size.{Size}
use Rattle.caps_sets.specs.declared.confirmed.Confirmed.{Confirmed}
use Rattle.order_means.specs.FrameMarks.{ClientReading, Refusal, read_stream}
use Rattle.viewer_rules.specs.declared.stage.Stage.{Stage}
use Rattle.viewer_rules.specs.declared.stage.Stage.TheVariants as stage
use Rattle.viewer_rules.specs.ViewerHandshake.{Standing, Watching, place_behind, refusal_in}

-- ---- refusals

-- what a client makes of the packets from the Font Map on; before Demand Active there is no client
abbrev pub shown_read : Confirmed → Option Size → List ℕ → Option (Result ClientReading Refusal)
shown_read c None shown = None
shown_read c (Some size) shown = Some (read_stream c size shown)

-- a client counts its places from the Font Map's end
abbrev pub shown_refusal : ℕ → Option (Result ClientReading Refusal) → Option ℕ
shown_refusal start None = None
shown_refusal start (Some (Ok r)) = None
shown_refusal start (Some (Err f)) = Some (place_behind start f.place)

abbrev pub first_refusal : Option ℕ → Option ℕ → Option ℕ
first_refusal None later = later
first_refusal (Some at) later = Some at

-- where a stream is refused, if it is: by the client that is shown its updates, or else by the handshake, or at the head of the packet that comes
abbrev pub look_refusal : Confirmed → Watching → Option ℕ
look_refusal c w = first_refusal (shown_refusal w.at.start (shown_read c w.at.size w.at.shown)) (refusal_in c w)

-- the host has ended the connection
abbrev pub has_ended : Stage → Bool
has_ended stage.Confirm = false
has_ended stage.Response = false
has_ended stage.Attach = false
has_ended (stage.Joins user which) = false
has_ended (stage.Licence user) = false
has_ended (stage.Demand user) = false
has_ended (stage.Finish user which) = false
has_ended stage.Shown = false
has_ended stage.Over = true
has_ended (stage.Refused at) = false

-- ---- frames

-- between two packets
abbrev pub standing_at : Standing → Watching
standing_at s = record { at = s; part = [] }

-- nothing is refused, the connection goes on, and the packets so far come to the view of this reading
pub record IsShown (c : Confirmed) (size : Size) (w : Watching) (r : ClientReading) : Type 0 where
  pub goes_on : w.at.stage ≡ stage.Shown
  pub unrefused : refusal_in c w ≡ None
  pub reading : ClientReading
  pub reads : read_stream c size w.at.shown ≡ Ok reading
  pub view : reading.view ≡ r.view
