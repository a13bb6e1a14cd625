use Rattle.headline.proofs.PointerFronts.{fronts_without}
use Rattle.headline.proofs.capture_laws.fronts_without_pointers_are_read.Goals as goal

pub returns : goal.returns
returns c = fronts_without
