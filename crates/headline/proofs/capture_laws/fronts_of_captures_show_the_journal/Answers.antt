use Rattle.headline.proofs.CaptureFronts.{fronts_show}
use Rattle.headline.proofs.capture_laws.fronts_of_captures_show_the_journal.Goals as goal

pub returns : goal.returns
returns c = fronts_show
