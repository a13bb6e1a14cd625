use Rattle.headline.proofs.TakesStay.{bytes_stay, pointed_stay, encoder_stays}
use Rattle.headline.proofs.step_laws.takes_stay_as_the_journal_goes_on.Goals as goal

pub returns : goal.returns
returns c = record { bytes = bytes_stay; pointed = pointed_stay; encoder = encoder_stays }
