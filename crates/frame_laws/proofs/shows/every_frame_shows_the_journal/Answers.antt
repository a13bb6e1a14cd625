use Rattle.frame_laws.proofs.JournalShown.{frame_shows_journal}
use Rattle.frame_laws.proofs.shows.every_frame_shows_the_journal.Goals as goal

pub returns : goal.returns
returns c = frame_shows_journal
