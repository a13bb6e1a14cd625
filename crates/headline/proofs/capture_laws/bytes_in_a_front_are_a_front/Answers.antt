use Rattle.headline.proofs.TextFronts.{bytes_in_front}
use Rattle.headline.proofs.capture_laws.bytes_in_a_front_are_a_front.Goals as goal

pub returns : goal.returns
returns c = bytes_in_front
