use Rattle.headline.proofs.CutCaptures.{cut_shows}
use Rattle.headline.proofs.capture_laws.cut_captures_show_the_journal.Goals as goal

pub returns : goal.returns
returns c = cut_shows
