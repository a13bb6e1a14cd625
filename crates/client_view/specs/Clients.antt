-- A client in code, and which readings of a host's bytes it stands for.
use Rattle.std.specs.Prelude.{◌≡◌, ℕ, List, take, Option, Some, None, Result, Ok, Err}
use Rattle.px_core.specs.declared.surface.Size.{Size}
use Rattle.caps_sets.specs.declared.confirmed.Confirmed.{Confirmed}
use Rattle.caps_sets.specs.Confirmed.{takes_fast}
use Rattle.order_means.specs.Updates.{refusal_in}
use Rattle.order_means.specs.FrameMarks.{ClientReading, Refusal, read_on}
use Rattle.update_read.specs.Cutters.{CutterOf, Stands}
use Rattle.client_view.specs.declared.client_fault.ClientFault.{ClientFault}
use Rattle.client_view.specs.declared.viewer.Viewer.{Viewer}
use Rattle.client_view.specs.Views.{StandsFor}
use Rattle.client_view.specs.Refusals.{RefusesAt}

-- its viewer, how far the packet has come that it reads, and what ended its reading, if that has ended
pub record ClientOf : Type 0 where
  pub viewer : Viewer
  pub cutter : CutterOf
  pub end : Option ClientFault

-- a viewer and a cutter stand for a reading that isn't refused
pub record StandFor (r : ClientReading) (m : Viewer) (k : CutterOf) : Type 0 where
  pub view : StandsFor r.view m
  pub cut : Stands r.cut k
  pub fast : k.fast ≡ takes_fast m.confirmed
  pub unrefused : refusal_in r.cut.stage ≡ None

-- the meaning gives a reading, for which they then stand, or refuses
abbrev pub Reads : Result (Unit {0}) ClientFault → Result ClientReading Refusal → Viewer → CutterOf → Type 0
Reads (Ok done) meaning m k = (s : ClientReading) × (meaning ≡ Ok s) × StandFor s m k
Reads (Err f) meaning m k = RefusesAt f meaning

-- the same of so many of the bytes, or a refusal of them
abbrev pub ReadsSome : Result ℕ ClientFault → Confirmed → Size → ClientReading → List ℕ → Viewer → CutterOf → Type 0
ReadsSome (Ok n) confirmed size r bytes m k = Reads (Ok tt) (read_on confirmed size r (take n bytes)) m k
ReadsSome (Err f) confirmed size r bytes m k = RefusesAt f (read_on confirmed size r bytes)

-- a client stands for a reading
pub record IsReading (r : ClientReading) (c : ClientOf) : Type 0 where
  pub stand : StandFor r c.viewer c.cutter
  pub goes_on : c.end ≡ None

-- the meaning gives a reading, for which the client then stands, or refuses, and that ends the client's reading; or no memory was left, and that ends it
abbrev pub Feeds : Result (Unit {0}) ClientFault → Result ClientReading Refusal → ClientOf → Type 0
Feeds (Ok done) meaning new = (s : ClientReading) × (meaning ≡ Ok s) × IsReading s new
Feeds (Err f) meaning new = RefusesAt f meaning × (new.end ≡ Some f)
