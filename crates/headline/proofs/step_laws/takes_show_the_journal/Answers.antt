use Rattle.frame_laws.proofs.JournalShown.{frame_shows_journal}
use Rattle.headline.proofs.Takes.{takes_see}
use Rattle.headline.proofs.TakesPointed.{takes_without, takes_point}
use Rattle.headline.proofs.step_laws.takes_show_the_journal.Goals as goal

pub returns : goal.returns
returns k = record {
  journal = λ head c j ts last sized all legal follow within. takes_see head c (frame_shows_journal head c) sized all j legal ts last follow within;
  without = λ head c j ts last sized all legal follow within. takes_without head c (frame_shows_journal head c) sized all j legal ts last follow within;
  pointers = λ head c j ts last sized all legal follow within. takes_point head c (frame_shows_journal head c) sized all j legal ts last follow within;
}
