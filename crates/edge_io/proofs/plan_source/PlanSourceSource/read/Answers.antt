use Rattle.std.proofs.Common.{rules}
use Rattle.edge_io.proofs.plan_source.PlanSourceSource.read.Goals as goal

pub returns-then-fails_now-clause-bytes : goal.returns-then-fails_now-clause-bytes
returns-then-fails_now-clause-bytes c = search rules

pub returns-then-fails_now-clause-buffer : goal.returns-then-fails_now-clause-buffer
returns-then-fails_now-clause-buffer c = search rules

pub returns-then-fails_now-clause-after : goal.returns-then-fails_now-clause-after
returns-then-fails_now-clause-after c = search rules
