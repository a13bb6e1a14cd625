use Rattle.std.proofs.Common.{◌∙◌, ap}
use Rattle.record_file.specs.Replays.{ReplayOf}
use Rattle.record_file.proofs.Feeding.{read_tells}
use Rattle.record_file.proofs.replay.Replay.size.Goals as goal

pub returns-clause-read : goal.returns-clause-read
returns-clause-read c = λ stream h. ap (λ (r : ReplayOf). r.told.size) c.self.view_is ∙ (read_tells c.args.self.now stream h).size
