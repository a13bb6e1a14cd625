use Rattle.headline.proofs.Interleaved.{every_viewer_sees}
use Rattle.headline.proofs.step_laws.every_viewer_sees_the_journal.Goals as goal

pub returns : goal.returns
returns c = every_viewer_sees
