use Rattle.headline.proofs.FrameBytes.{frame_are_bytes}
use Rattle.headline.proofs.SentInLines.{steps_send_bytes}
use Rattle.headline.proofs.capture_laws.frames_are_sent_as_bytes.Goals as goal

pub returns : goal.returns
returns c = record { frame = frame_are_bytes; steps = steps_send_bytes }
