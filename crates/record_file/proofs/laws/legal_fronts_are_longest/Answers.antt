use Rattle.record_file.proofs.LegalFronts.{longest}
use Rattle.record_file.proofs.laws.legal_fronts_are_longest.Goals as goal

pub returns : goal.returns
returns c = longest
