use Rattle.std.proofs.Common.{rules}
use Rattle.edge_io.proofs.plan_sink.PlanSinkSink.write_all.Goals as goal

pub returns-then-fails_now-clause-bytes : goal.returns-then-fails_now-clause-bytes
returns-then-fails_now-clause-bytes c = search rules

pub returns-then-fails_now-clause-cause : goal.returns-then-fails_now-clause-cause
returns-then-fails_now-clause-cause c = search rules

pub returns-then-fails_now-clause-failed : goal.returns-then-fails_now-clause-failed
returns-then-fails_now-clause-failed c = search rules

pub returns-then-fails_now-clause-told : goal.returns-then-fails_now-clause-told
returns-then-fails_now-clause-told c = search rules
