use Rattle.session_core.proofs.PendingLaws.{pending_goes_on, pending_here}
use Rattle.session_core.proofs.laws.pending_drawings_go_on.Goals as goal

pub returns : goal.returns
returns c = record { between = pending_goes_on; one = pending_here }
