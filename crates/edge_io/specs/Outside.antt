-- What stands outside of the host at a moment.
use Rattle.std.specs.Prelude.{ℕ, List}
use Rattle.std.specs.declared.option.Option.{Option}
use Rattle.edge_io.specs.declared.source.Source as sources
use Rattle.edge_io.specs.declared.sink.Sink as sinks
use Rattle.edge_io.specs.declared.link.Link as links

-- what an input has left to be read, where it tells that, and how often it has failed
pub record Input : Type 0 where
  pub left : Option (List ℕ)
  pub faults : ℕ

-- what an output was told, where it tells that again, and how often it has failed
pub record Output : Type 0 where
  pub told : Option (List ℕ)
  pub faults : ℕ

-- an input and an output
pub record Outside : Type 0 where
  pub input : Input
  pub output : Output

abbrev pub outside : Input → Output → Outside
outside input output = record { input = input; output = output }

-- as which input a source is seen
abbrev pub input_of : {S : Type 0} → sources.Ghosts S → S → Input
input_of source x = record { left = source.left x; faults = source.faults x }

-- as which output a sink is seen
abbrev pub output_of : {K : Type 0} → sinks.Ghosts K → K → Output
output_of sink x = record { told = sink.told x; faults = sink.faults x }

-- as what a source and a sink are seen together
abbrev pub outside_of : {S K : Type 0} → sources.Ghosts S → sinks.Ghosts K → S → K → Outside
outside_of source sink x y = outside (input_of source x) (output_of sink y)

module _ {L Reader Writer Spent : Type 0} (link : links.Ghosts L Reader Writer Spent) where
  -- as what a link is seen that was given
  abbrev pub outside_given : L → Outside
  outside_given x = outside (record { left = link.left x; faults = link.reader_faults x }) (record { told = link.told x; faults = link.writer_faults x })

  -- as what a link is seen that came back
  abbrev pub outside_spent : Spent → Outside
  outside_spent x =
      outside (record { left = link.spent_left x; faults = link.spent_reader_faults x })
      (record { told = link.spent_told x; faults = link.spent_writer_faults x })
