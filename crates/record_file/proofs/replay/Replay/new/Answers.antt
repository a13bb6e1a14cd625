use Rattle.std.proofs.Common.{refl}
use Rattle.record_file.proofs.Feeding.{first_read}
use Rattle.record_file.proofs.replay.Replay.new.Goals as goal

pub returns-clause-read : goal.returns-clause-read
returns-clause-read c = first_read c.new.result.items _ c.new.ensures.items (record { size = refl; length = refl; picture = refl })
