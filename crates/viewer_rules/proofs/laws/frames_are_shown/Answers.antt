use Rattle.viewer_rules.proofs.Shown.{frames_shown}
use Rattle.viewer_rules.proofs.laws.frames_are_shown.Goals as goal

pub returns : goal.returns
returns c = frames_shown
