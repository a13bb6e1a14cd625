use Rattle.frame_rules.proofs.TileLaws.{ShowsOutside-sent}
use Rattle.frame_rules.proofs.laws.sent_drawing_keeps_what_is_shown.Goals as goal

pub returns : goal.returns
returns c = ShowsOutside-sent
