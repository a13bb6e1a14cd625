use Rattle.viewer_run.proofs.SendOn.{sends_none}
use Rattle.viewer_run.proofs.sides.send_beside.Goals as goal

pub returns-else-has_started-clause-sends : goal.returns-else-has_started-clause-sends
returns-else-has_started-clause-sends g c = sends_none _ _ _ _ _ c.requires.idle c.requires.seen
