use Rattle.frame_laws.proofs.FrameReads.{frames_read}
use Rattle.frame_laws.proofs.shows.frames_are_read_as_their_orders.Goals as goal

pub returns : goal.returns
returns c = frames_read
