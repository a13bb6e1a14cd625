use Rattle.frame_laws.proofs.WireBack.{pixels_back}
use Rattle.frame_laws.proofs.cache_laws.pixels_are_read_back.Goals as goal

pub returns : goal.returns
returns k = pixels_back
