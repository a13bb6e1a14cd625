use Rattle.share_pdu.proofs.Rects.{areas_there, no_areas_there}
use Rattle.share_pdu.proofs.share_laws.areas_are_read_exactly.Goals as goal

pub returns-clause-areas : goal.returns-clause-areas
returns-clause-areas c = areas_there

pub returns-clause-none : goal.returns-clause-none
returns-clause-none c = no_areas_there
