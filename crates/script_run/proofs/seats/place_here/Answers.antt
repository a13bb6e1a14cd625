use Rattle.std.proofs.Common.{◌∙◌, sym, ap}
use Rattle.std.specs.Prelude.{is_some}
use Rattle.script_run.proofs.SeatLemmas.{no_place, place_within}
use Rattle.script_run.proofs.seats.place_here.Goals as goal

pub unreachable-requires : goal.unreachable-requires
unreachable-requires c =
    let gone = ap is_some (no_place c.args.v c.args.seats.now (sym c.place_of.ensures ∙ c.in-None.is)) in absurd (cc (gone, c.requires))

pub returns-clause-within : goal.returns-clause-within
returns-clause-within c = place_within c.args.v c.args.seats.now c.in-Some.i (sym c.place_of.ensures ∙ c.in-Some.is)
