use Rattle.std.proofs.Common.{◌∙◌, sym}
use Rattle.session_core.proofs.MemberSteps.{no_place, place_within}
use Rattle.session_core.proofs.members.place_here.Goals as goal

pub unreachable-requires : goal.unreachable-requires
unreachable-requires c = let gone = no_place c.args.v c.args.members.now (sym c.place_of.ensures ∙ c.in-None.is) in absurd (cc (gone, c.requires))

pub returns-clause-within : goal.returns-clause-within
returns-clause-within c = place_within c.args.v c.args.members.now c.in-Some.i (sym c.place_of.ensures ∙ c.in-Some.is)
