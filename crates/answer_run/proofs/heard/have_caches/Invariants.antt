use Rattle.std.proofs.Common.{take}
use Rattle.std.specs.Prelude.{All}
use Rattle.answer_run.specs.Visits.{HasCaches}
use Rattle.answer_run.proofs.heard.have_caches.Given as goal

abbrev pub invariant-loop-step : goal.invariant-loop-step
invariant-loop-step l = All HasCaches (take l.step-index l.steps)
