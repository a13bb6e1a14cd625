use Rattle.headline.proofs.Scripts.{cut_sees}
use Rattle.headline.proofs.script_laws.every_capture_that_was_cut_shows_the_journal.Goals as goal

pub returns : goal.returns
returns c = cut_sees
