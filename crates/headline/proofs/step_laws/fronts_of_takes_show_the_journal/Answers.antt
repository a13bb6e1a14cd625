use Rattle.frame_laws.proofs.JournalShown.{frame_shows_journal}
use Rattle.headline.proofs.TakesPointed.{takes_front_see}
use Rattle.headline.proofs.step_laws.fronts_of_takes_show_the_journal.Goals as goal

pub returns : goal.returns
returns k head c j ts last sized all legal follow within front rest e =
    takes_front_see head c (frame_shows_journal head c) sized all j legal ts last follow within front rest e
