use Rattle.headline.proofs.Scripts.{capture_sees}
use Rattle.headline.proofs.script_laws.every_viewer_of_every_script_sees_the_journal.Goals as goal

pub returns : goal.returns
returns c = capture_sees
