use Rattle.px_core.proofs.Pictures.{same_pixels}
use Rattle.px_core.proofs.laws.pictures_are_their_pixels.Goals as goal

pub returns : goal.returns
returns c = λ size ps qs e f h. same_pixels size ps qs 0 e f h
