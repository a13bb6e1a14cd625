use Rattle.std.proofs.Common.{drop, take, ◌<◌}
use Rattle.grow_lock.specs.Passes.{IsPassOf}
use Rattle.serve_rules.specs.Reading.{HasTurnsOf}
use Rattle.viewer_run.specs.Doing.{StepsFront}
use Rattle.viewer_run.proofs.steps.do_steps.Given as goal

abbrev pub invariant-loop-step : goal.invariant-loop-step
invariant-loop-step g l = record {
  lock : IsPassOf l.stay.lock.now l.now;
  room : 0 < l.noted.places.room;
  front : StepsFront l.stay.lock.now.head l.stay.v l.steps (drop l.step-index l.steps) l.fn.pass l.now l.fn.noted l.noted;
  turns : HasTurnsOf (take l.step-index l.steps) l.fn.pass l.now;
}
