-- The end of a link of a room.
use Rattle.std.specs.Prelude.{◌≡◌, ◌≤◌, ℕ, ◌==◌, Bool, true, false, List}
use Rattle.std.specs.declared.option.Option.{Option}
use Rattle.std.specs.Io.KnownBytes as known
use Rattle.edge_io.specs.Outside.{Output}
use Rattle.edge_io.specs.Sink.{WritesFront}
use Rattle.edge_io.specs.declared.link.Link as links
use Rattle.mcs_dom.specs.Ultimatum.{ultimatum_packet}

-- what an output was told as a link of a room ends: where all that was asked for was kept nothing; else the ultimatum 20 80, or a front of it where that couldn't
-- be written whole
abbrev pub EndsOutput : Bool → Bool → Output → Output → Type 0
EndsOutput true unsaid before now = (now ≡ before) × (unsaid ≡ false)
EndsOutput false false before now = known.Appends before.told now.told (ultimatum_packet 1) × (now.faults ≡ before.faults)
EndsOutput false true before now = WritesFront before.told now.told (ultimatum_packet 1) × (before.faults ≤ now.faults)

-- what came back of a link of a room: what is left of the link within; its output as it was before the end; how often entries couldn't be kept; and whether the
-- ultimatum couldn't be written whole
pub record SpentModel (S : Type 0) : Type 0 where
  pub spent : S
  pub output : Output
  pub unkept : ℕ
  pub unsaid : Bool

module _ {L Reader Writer Spent : Type 0} (link : links.Ghosts L Reader Writer Spent) where
  -- as which output a link is seen that came back
  abbrev pub spent_output : Spent → Output
  spent_output x = record { told = link.spent_told x; faults = link.spent_writer_faults x }

  -- what is left of the link within goes on from what was meant of it
  abbrev pub HasEnded : SpentModel Spent → Type 0
  HasEnded s = EndsOutput (s.unkept == 0) s.unsaid s.output (spent_output s.spent)
