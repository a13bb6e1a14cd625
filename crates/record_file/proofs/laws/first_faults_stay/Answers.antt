use Rattle.record_file.proofs.Fronts.{fault_stays}
use Rattle.record_file.proofs.laws.first_faults_stay.Goals as goal

pub returns : goal.returns
returns c = fault_stays
