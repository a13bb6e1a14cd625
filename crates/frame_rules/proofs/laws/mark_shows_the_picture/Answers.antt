use Rattle.frame_rules.proofs.UpdatesBack.{mark_obeyed}
use Rattle.frame_rules.proofs.laws.mark_shows_the_picture.Goals as goal

pub returns : goal.returns
returns c = mark_obeyed
