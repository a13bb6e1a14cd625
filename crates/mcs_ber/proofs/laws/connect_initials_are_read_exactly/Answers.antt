use Rattle.mcs_ber.proofs.InitialText.{initial_ok, initial_again, none_stands}
use Rattle.mcs_ber.proofs.Broken.{initial_broken, broken_initial}
use Rattle.mcs_ber.proofs.laws.connect_initials_are_read_exactly.Goals as goal

pub returns-clause-exact : goal.returns-clause-exact
returns-clause-exact c = λ bytes place. (initial_ok bytes place, initial_again bytes place)

pub returns-clause-refused : goal.returns-clause-refused
returns-clause-refused c = none_stands

pub returns-clause-place : goal.returns-clause-place
returns-clause-place c = λ bytes at. (initial_broken bytes at, broken_initial bytes at)
