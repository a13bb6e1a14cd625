use Rattle.frame_laws.proofs.FrameReads.{frames_go}
use Rattle.frame_laws.proofs.shows.frames_go_in_packets_of_the_kind_confirmed.Goals as goal

pub returns : goal.returns
returns k = frames_go
