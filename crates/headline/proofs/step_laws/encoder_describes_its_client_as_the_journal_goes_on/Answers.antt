use Rattle.headline.proofs.StepsGoOn.{describes_on}
use Rattle.headline.proofs.step_laws.encoder_describes_its_client_as_the_journal_goes_on.Goals as goal

pub returns : goal.returns
returns k = describes_on
