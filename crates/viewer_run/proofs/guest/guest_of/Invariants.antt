use Rattle.std.proofs.Common.{◌≡◌, drop}
use Rattle.viewer_run.specs.Greeting.{greeting}
use Rattle.viewer_run.proofs.guest.guest_of.Given as goal

-- the client connects so far, and gave this name last
abbrev pub invariant-loop-step : goal.invariant-loop-step
invariant-loop-step l = record {
  place : l.at ≡ l.step-index;
  so_far : greeting l.fn.name l.steps ≡ greeting l.name (drop l.step-index l.steps);
}
