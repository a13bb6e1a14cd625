use Rattle.wire_num.proofs.Pixels.{pixels_back}
use Rattle.wire_num.proofs.laws.pixels_are_read_back.Goals as goal

pub returns : goal.returns
returns c = pixels_back
