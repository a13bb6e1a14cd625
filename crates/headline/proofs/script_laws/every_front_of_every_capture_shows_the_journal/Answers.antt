use Rattle.headline.proofs.Scripts.{capture_front_sees}
use Rattle.headline.proofs.script_laws.every_front_of_every_capture_shows_the_journal.Goals as goal

pub returns : goal.returns
returns c = capture_front_sees
