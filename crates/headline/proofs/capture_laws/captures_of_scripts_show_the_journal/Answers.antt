use Rattle.headline.proofs.CapturesOfScripts.{captures_show}
use Rattle.headline.proofs.capture_laws.captures_of_scripts_show_the_journal.Goals as goal

pub returns : goal.returns
returns c = captures_show
