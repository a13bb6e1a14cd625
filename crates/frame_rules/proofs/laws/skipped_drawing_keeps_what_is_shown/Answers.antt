use Rattle.frame_rules.proofs.TileLaws.{ShowsOutside-skipped}
use Rattle.frame_rules.proofs.laws.skipped_drawing_keeps_what_is_shown.Goals as goal

pub returns : goal.returns
returns c = ShowsOutside-skipped
