use Rattle.record_file.proofs.Feeding.{goes_by}
use Rattle.record_file.proofs.replay.Replay.go_on.Goals as goal

pub returns-in-Ok-clause-read : goal.returns-in-Ok-clause-read
returns-in-Ok-clause-read c = λ stream h. c.in-Ok.ensures.read stream (rw (← c.self.view_is) at (goes_by c.args.self.now stream c.requires h))

pub returns-in-Err-clause-read : goal.returns-in-Err-clause-read
returns-in-Err-clause-read c = λ stream h. c.in-Err.ensures.read stream (rw (← c.self.view_is) at (goes_by c.args.self.now stream c.requires h))
