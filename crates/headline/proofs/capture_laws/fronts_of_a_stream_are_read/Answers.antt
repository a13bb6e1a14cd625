use Rattle.headline.proofs.StreamFronts.{stream_front, marks_front}
use Rattle.headline.proofs.capture_laws.fronts_of_a_stream_are_read.Goals as goal

pub returns : goal.returns
returns c = record { reading = stream_front; marks = marks_front }
